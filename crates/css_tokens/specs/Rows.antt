-- The table of pieces. Each row is a function of a text: the piece that the text begins with by that row, if there is one.
use Rattle.std.specs.Prelude.{ℕ, ◌+◌, ◌<◌, ◌≤◌, Bool, true, ◌&&◌, ◌==◌, not, nat_lt, List, [], ◌∷◌, slice_index, take, drop, min, length}
use Rattle.std.specs.Prelude.{Option, Some, None, nat_eq, if◌then◌else◌}
use Rattle.std.specs.List.{starts_with}
use Rattle.std.specs.Char.{to_ascii_lowercase}
use Rattle.css_tokens.specs.declared.token.TokenKind.{TokenKind}
use Rattle.css_tokens.specs.declared.token.TokenKind.TheVariants.{Comment, WhiteSpace, Str, BadString, Hash, Number, Percentage, Dimension}
use Rattle.css_tokens.specs.declared.token.TokenKind.TheVariants.{Cdc, Ident, Function, Url, BadUrl, Cdo, AtKeyword, Colon, Semicolon}
use Rattle.css_tokens.specs.declared.token.TokenKind.TheVariants.{Comma, OpenSquare, CloseSquare, OpenRound, CloseRound, OpenCurly}
use Rattle.css_tokens.specs.declared.token.TokenKind.TheVariants.{CloseCurly, Delim}
use Rattle.css_tokens.specs.declared.token.Piece.{Piece}
use Rattle.css_tokens.specs.Codes.{is_newline, is_white, is_quote, begins}
use Rattle.css_tokens.specs.Escapes.{escape_tail, escape_value}
use Rattle.css_tokens.specs.Runs.{run, white_run, comment_unit, string_unit, url_unit, bad_url_unit, name_len, starts_ident, number_len}

-- a piece of that kind and length
abbrev pub piece : TokenKind → ℕ → Piece
piece kind len = record { kind = kind; len = len }

-- some codes of the text, from its front on
abbrev pub IsFront : List ℕ → Piece → Type 0
IsFront text p = (0 < p.len) × (p.len ≤ length text)

-- the piece, where the test holds
abbrev pub when : Bool → Piece → Option Piece
when test p = if test then Some p else None

-- the first n codes, and k more where the text has them
abbrev pub up_to_and_with : ℕ → ℕ → List ℕ → ℕ
up_to_and_with n k text = min (n + k) (length text)

-- `/*` up to and with the next `*/`, or to the text's end
unfoldable pub comment : List ℕ → Option Piece
comment text = when (starts_with nat_eq text (47 ∷ 42 ∷ []))
    (piece Comment (up_to_and_with (2 + run comment_unit (drop 2 text)) 2 text))

-- a maximal run
unfoldable pub white_space : List ℕ → Option Piece
white_space text = when (begins is_white text) (piece WhiteSpace (white_run text))

-- a quote and what follows it, up to the same quote, a newline or the text's end
abbrev pub open_string_len : List ℕ → ℕ
open_string_len text = 1 + run (string_unit (slice_index text 0)) (drop 1 text)

-- up to and with the same quote, or to the text's end
unfoldable pub string : List ℕ → Option Piece
string text = when (begins is_quote text && not (begins is_newline (drop (open_string_len text) text)))
    (piece Str (up_to_and_with (open_string_len text) 1 text))

-- the same, ended before a newline
unfoldable pub bad_string : List ℕ → Option Piece
bad_string text = when (begins is_quote text && begins is_newline (drop (open_string_len text) text))
    (piece BadString (open_string_len text))

-- `#` and a name, where one follows
unfoldable pub hash : List ℕ → Option Piece
hash text = when (begins (λ c. c == 35) text && nat_lt 0 (name_len (drop 1 text)))
    (piece (Hash (starts_ident (drop 1 text))) (1 + name_len (drop 1 text)))

-- a number, with `%` or a name after it or not
unfoldable pub numeric : List ℕ → Option Piece
numeric text =
    let n = number_len text in
    let rest = drop n text in
    when (nat_lt 0 n)
    (if begins (λ c. c == 37) rest then piece Percentage (n + 1)
    else (if starts_ident rest then piece Dimension (n + name_len rest)
    else piece Number n))

-- `-->`
unfoldable pub cdc : List ℕ → Option Piece
cdc text = when (starts_with nat_eq text (45 ∷ 45 ∷ 62 ∷ [])) (piece Cdc 3)

-- the ident character or escape that a text begins with, where its value is the letter in any case; 0 where it is not
abbrev pub letter_len : ℕ → List ℕ → ℕ
letter_len letter [] = 0
letter_len letter (c ∷ rest) =
    if c == 92 then (if to_ascii_lowercase (escape_value rest) == letter then 1 + escape_tail rest else 0)
    else (if to_ascii_lowercase c == letter then 1 else 0)

-- a name whose value is `url` in any case: `u`, `r` and `l`, each as it is or as an escape
unfoldable pub is_url : List ℕ → Bool
is_url name =
    let u = letter_len 117 name in
    let r = letter_len 114 (drop u name) in
    let l = letter_len 108 (drop (u + r) name) in
    (nat_lt 0 u && nat_lt 0 r) && (nat_lt 0 l && u + r + l == length name)

-- the name `url` and `(`, and no quote after optional white space
unfoldable pub opens_url : List ℕ → Bool
opens_url text =
    let n = name_len text in
    let inner = drop (n + 1) text in
    ((starts_ident text && begins (λ c. c == 40) (drop n text)) && is_url (take n text))
    && not (begins is_quote (drop (white_run inner) inner))

-- after `url(`: white space, characters and escapes, white space
unfoldable pub url_body_len : List ℕ → ℕ
url_body_len inner =
    let start = white_run inner in
    let end = start + run url_unit (drop start inner) in
    end + white_run (drop end inner)

-- `)` or the text's end
abbrev pub closes_url : List ℕ → Bool
closes_url [] = true
closes_url (c ∷ rest) = c == 41

-- a name, `(` and a url body
abbrev pub open_url_len : List ℕ → ℕ
open_url_len text = let n = name_len text + 1 in n + url_body_len (drop n text)

-- that, and `)` or the text's end
unfoldable pub url : List ℕ → Option Piece
url text =
    let n = open_url_len text in
    when (opens_url text && closes_url (drop n text)) (piece Url (up_to_and_with n 1 text))

-- the same that meets what a url does not have there: up to and with the next `)` outside escapes, or to the text's end
unfoldable pub bad_url : List ℕ → Option Piece
bad_url text =
    let n = open_url_len text in
    when (opens_url text && not (closes_url (drop n text)))
    (piece BadUrl (up_to_and_with (n + run bad_url_unit (drop n text)) 1 text))

-- a name where the text starts an ident, and `(` after it or not
unfoldable pub ident : List ℕ → Option Piece
ident text =
    let n = name_len text in
    when (starts_ident text)
    (if begins (λ c. c == 40) (drop n text) then piece Function (n + 1) else piece Ident n)

-- `<!--`
unfoldable pub cdo : List ℕ → Option Piece
cdo text = when (starts_with nat_eq text (60 ∷ 33 ∷ 45 ∷ 45 ∷ [])) (piece Cdo 4)

-- `@` and a name, where what follows starts an ident
unfoldable pub at_keyword : List ℕ → Option Piece
at_keyword text = when (begins (λ c. c == 64) text && starts_ident (drop 1 text))
    (piece AtKeyword (1 + name_len (drop 1 text)))

-- the kind of a character that is a piece of its own
abbrev pub mark_kind : ℕ → TokenKind
mark_kind c =
    if c == 58 then Colon else (if c == 59 then Semicolon else (if c == 44 then Comma
    else (if c == 91 then OpenSquare else (if c == 93 then CloseSquare
    else (if c == 40 then OpenRound else (if c == 41 then CloseRound
    else (if c == 123 then OpenCurly else (if c == 125 then CloseCurly
    else Delim))))))))

-- colon, semicolon, comma, a bracket, or any other character
unfoldable pub mark : List ℕ → Option Piece
mark [] = None
mark (c ∷ rest) = Some (piece (mark_kind c) 1)

infixr 10 ◌or◌
-- the first of two that is there
abbrev pub ◌or◌ : Option Piece → Option Piece → Option Piece
(Some p) or q = Some p
None or q = q

-- the first row that applies. The rows of url and bad-url come before that of idents.
unfoldable pub first_piece : List ℕ → Option Piece
first_piece text =
    comment text or white_space text or string text or bad_string text or hash text or numeric text or cdc text
    or url text or bad_url text or ident text or cdo text or at_keyword text or mark text
