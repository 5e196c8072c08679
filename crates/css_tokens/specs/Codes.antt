-- Classes of codes. A text is a list of codes: its characters, or the bytes of its UTF-8, where each byte of a
-- character beyond ASCII is from 128 on and so counts as that character does.
use Rattle.std.specs.Prelude.{ℕ, Bool, false, ◌||◌, ◌==◌, nat_le, List, [], ◌∷◌}
use Rattle.std.specs.Char.{is_ascii_digit, is_ascii_alphabetic, is_ascii_whitespace}
use Rattle.std.specs.Int.{is_in_range}

-- LF, FF, CR
abbrev pub is_newline : ℕ → Bool
is_newline c = (c == 10 || c == 12) || c == 13

-- a newline, a tab or a space
abbrev pub is_white : ℕ → Bool
is_white c = is_ascii_whitespace c

-- a letter, `_`, U+0000, or beyond ASCII
abbrev pub is_ident_start : ℕ → Bool
is_ident_start c = (is_ascii_alphabetic c || c == 95) || (c == 0 || nat_le 128 c)

-- an ident start, a digit, `-`
abbrev pub is_ident : ℕ → Bool
is_ident c = is_ident_start c || (is_ascii_digit c || c == 45)

-- U+0001 to U+0008, U+000B, U+000E to U+001F, U+007F
abbrev pub is_non_printable : ℕ → Bool
is_non_printable c = (is_in_range 1 8 c || c == 11) || (is_in_range 14 31 c || c == 127)

-- `"` or `'`
abbrev pub is_quote : ℕ → Bool
is_quote c = c == 34 || c == 39

-- `+` or `-`
abbrev pub is_sign : ℕ → Bool
is_sign c = c == 43 || c == 45

-- the first code is there and passes
abbrev pub begins : (ℕ → Bool) → List ℕ → Bool
begins p [] = false
begins p (c ∷ rest) = p c
