-- Escapes (CSS Syntax 3, 4.3.7), and what a text says once its escapes are replaced.
use Rattle.std.specs.Prelude.{◌≡◌, ◌<◌, ℕ, zero, suc, ◌+◌, ◌*◌, Bool, true, false, ◌&&◌, ◌==◌, not, List, [], ◌∷◌, ◌++◌, take, drop, fold}
use Rattle.std.specs.Prelude.{if◌then◌else◌}
use Rattle.std.specs.List.{prefix_len}
use Rattle.std.specs.Char.{is_ascii_hexdigit, digit_value, encode_utf8}
use Rattle.std.specs.Str.{IsCharBoundary}
use lib.Utf8.{scalar}
use Rattle.css_tokens.specs.Codes.{is_newline, is_white, begins}

-- the newline that a text begins with, 0 where it begins with none: CR LF counts as one
abbrev pub newline_len : List ℕ → ℕ
newline_len [] = 0
newline_len (c ∷ rest) =
    if is_newline c then (if c == 13 && begins (λ d. d == 10) rest then 2 else 1) else 0

-- the one white space that a text begins with
abbrev pub white_len : List ℕ → ℕ
white_len [] = 0
white_len (c ∷ rest) = if c == 13 && begins (λ d. d == 10) rest then 2 else (if is_white c then 1 else 0)

-- the hex digits of an escape: at most six
abbrev pub hex_len : List ℕ → ℕ
hex_len text = prefix_len is_ascii_hexdigit (take 6 text)

-- what an escape has after its `\`: one to six hex digits and at most one white space; or one code that is no
-- hex digit and no newline; or nothing, at the text's end
unfoldable pub escape_tail : List ℕ → ℕ
escape_tail [] = 0
escape_tail (c ∷ rest) =
    if is_ascii_hexdigit c then hex_len (c ∷ rest) + white_len (drop (hex_len (c ∷ rest)) (c ∷ rest)) else 1

-- the escape that a text begins with, 0 where it begins with none
unfoldable pub escape_len : List ℕ → ℕ
escape_len [] = 0
escape_len (c ∷ rest) = if c == 92 && not (begins is_newline rest) then 1 + escape_tail rest else 0

-- the text begins with an escape
abbrev pub begins_escape : List ℕ → Bool
begins_escape [] = false
begins_escape (c ∷ rest) = c == 92 && not (begins is_newline rest)

-- the number that hex digits write
abbrev pub hex_value : List ℕ → ℕ
hex_value digits = fold (λ n d. n * 16 + digit_value d) 0 digits

-- the character of a number: U+FFFD for 0, a surrogate or a number above 10FFFF
abbrev pub character_of : ℕ → ℕ
character_of n = if n == 0 then 0xFFFD else (if scalar n then n else 0xFFFD)

-- the value of an escape, of which this is what comes after its `\`: the character of a hex number; the code that
-- stands there; U+FFFD at the text's end
unfoldable pub escape_value : List ℕ → ℕ
escape_value [] = 0xFFFD
escape_value (c ∷ rest) =
    if is_ascii_hexdigit c then character_of (hex_value (take (hex_len (c ∷ rest)) (c ∷ rest))) else c

-- an escape whose value does not stand there as it is, of which this is what comes after its `\`
abbrev pub is_coded : List ℕ → Bool
is_coded [] = true
is_coded (c ∷ rest) = is_ascii_hexdigit c

-- the bytes of that value. A code that stands there is a byte already: the first one of its character, whose other
-- bytes follow it.
unfoldable pub escape_bytes : List ℕ → List ℕ
escape_bytes [] = encode_utf8 0xFFFD
escape_bytes (c ∷ rest) = if is_ascii_hexdigit c then encode_utf8 (escape_value (c ∷ rest)) else c ∷ []

-- the bytes of a text with each escape replaced by its value, and each `\` with a newline dropped.
-- The first `skip` codes belong to what is replaced already.
unfoldable pub unescaped_after : ℕ → List ℕ → List ℕ
unescaped_after skip [] = []
unescaped_after (suc skip) (c ∷ rest) = unescaped_after skip rest
unescaped_after zero (c ∷ rest) =
    if c == 92 then
    (if begins is_newline rest then unescaped_after (newline_len rest) rest
    else escape_bytes rest ++ unescaped_after (escape_tail rest) rest)
    else c ∷ unescaped_after 0 rest

-- the text with its escapes replaced by their values
abbrev pub unescaped : List ℕ → List ℕ
unescaped text = unescaped_after 0 text

-- one step of replacing: n bytes of the rest are done with, and a text may be cut there
pub record Replaces (old new rest : List ℕ) (n : ℕ) : Type 0 where
  pub some : 0 < n
  pub cut : IsCharBoundary rest n
  pub bytes : new ++ unescaped (drop n rest) ≡ old ++ unescaped rest
