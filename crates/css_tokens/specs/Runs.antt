-- Runs. A run is cut into units; the unit that a text goes on with has a length, and 0 says that the run ends there.
use Rattle.std.specs.Prelude.{ℕ, zero, suc, ◌+◌, Bool, false, ◌||◌, ◌&&◌, ◌==◌, List, [], ◌∷◌, drop, if◌then◌else◌}
use Rattle.std.specs.List.{prefix_len}
use Rattle.std.specs.Char.{is_ascii_digit}
use Rattle.css_tokens.specs.Codes.{is_newline, is_white, is_ident, is_ident_start, is_non_printable, is_quote, is_sign, begins}
use Rattle.css_tokens.specs.Escapes.{escape_len, begins_escape, newline_len}

-- a unit and what follows it, which takes how many codes of the unit come after its first; 0 ends the run
abbrev pub unit_then : ℕ → (ℕ → ℕ) → ℕ
unit_then zero more = 0
unit_then (suc skip) more = suc (more skip)

-- the longest run at the front of a text, of which the first `skip` codes are the rest of a unit
unfoldable pub run_after : (List ℕ → ℕ) → ℕ → List ℕ → ℕ
run_after unit skip [] = 0
run_after unit (suc skip) (c ∷ rest) = suc (run_after unit skip rest)
run_after unit zero (c ∷ rest) = unit_then (unit (c ∷ rest)) (λ skip. run_after unit skip rest)

-- how long the run of units is that the text begins with
abbrev pub run : (List ℕ → ℕ) → List ℕ → ℕ
run unit text = run_after unit 0 text

-- the length of the white space that the text begins with
abbrev pub white_run : List ℕ → ℕ
white_run text = prefix_len is_white text

-- the length of the digits that the text begins with
abbrev pub digits : List ℕ → ℕ
digits text = prefix_len is_ascii_digit text

-- a name: ident characters and escapes
abbrev pub name_unit : List ℕ → ℕ
name_unit [] = 0
name_unit (c ∷ rest) = if is_ident c then 1 else escape_len (c ∷ rest)

-- a comment: up to `*/`
abbrev pub comment_unit : List ℕ → ℕ
comment_unit [] = 0
comment_unit (c ∷ rest) = if c == 42 && begins (λ d. d == 47) rest then 0 else 1

-- a string: characters, escapes, and `\` with a newline, up to the quote or a newline
abbrev pub string_unit : ℕ → List ℕ → ℕ
string_unit quote [] = 0
string_unit quote (c ∷ rest) =
    if c == quote || is_newline c then 0
    else (if c == 92 then (if begins is_newline rest then 1 + newline_len rest else escape_len (c ∷ rest))
    else 1)

-- what ends the characters and escapes of a url
abbrev pub ends_url : ℕ → Bool
ends_url c = ((is_white c || is_non_printable c) || is_quote c) || (c == 40 || c == 41)

-- the length of the unit of an unquoted url that the text begins with, 0 for none
abbrev pub url_unit : List ℕ → ℕ
url_unit [] = 0
url_unit (c ∷ rest) = if ends_url c then 0 else (if c == 92 then escape_len (c ∷ rest) else 1)

-- what a bad-url runs over: anything up to a `)` outside escapes
abbrev pub bad_url_unit : List ℕ → ℕ
bad_url_unit [] = 0
bad_url_unit (c ∷ rest) =
    if c == 41 then 0 else (if begins_escape (c ∷ rest) then escape_len (c ∷ rest) else 1)

-- the length of the name that the text begins with
abbrev pub name_len : List ℕ → ℕ
name_len text = run name_unit text

-- an ident start, an escape, or `-` followed by an ident start, `-` or an escape
abbrev pub starts_ident : List ℕ → Bool
starts_ident [] = false
starts_ident (c ∷ rest) =
    if c == 45 then begins (λ d. is_ident_start d || d == 45) rest || begins_escape rest
    else is_ident_start c || begins_escape (c ∷ rest)

-- `.` and digits
abbrev pub fraction_len : List ℕ → ℕ
fraction_len text = if begins (λ c. c == 46) text && begins is_ascii_digit (drop 1 text) then 1 + digits (drop 1 text) else 0

-- digits, or digits with `.` and digits, or `.` and digits; 0 where the text begins with none of these
abbrev pub decimal_len : List ℕ → ℕ
decimal_len text = digits text + fraction_len (drop (digits text) text)

-- the length of the sign that the text begins with
abbrev pub sign_len : List ℕ → ℕ
sign_len text = if begins is_sign text then 1 else 0

-- `e` or `E`, an optional sign, digits
abbrev pub exponent_len : List ℕ → ℕ
exponent_len text =
    let mark = 1 + sign_len (drop 1 text) in
    if begins (λ c. c == 69 || c == 101) text && begins is_ascii_digit (drop mark text) then mark + digits (drop mark text) else 0

-- an optional sign, then a decimal, then an optional exponent; 0 where the text begins with no number
unfoldable pub number_len : List ℕ → ℕ
number_len text =
    let sign = sign_len text in
    let decimal = decimal_len (drop sign text) in
    if decimal == 0 then 0 else sign + decimal + exponent_len (drop (sign + decimal) text)
