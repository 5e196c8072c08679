-- What the first code of a text tells of the rows that may apply.
use Rattle.std.specs.Prelude.{◌≡◌, ℕ, ◌==◌, ◌||◌, true, false}
use Rattle.std.specs.Char.{is_ascii_digit}
use Rattle.css_tokens.specs.declared.rows.First.{First}
use Rattle.css_tokens.specs.declared.rows.First.TheVariants.{Slash, White, Quote, Number, Dash, Name, Back, Pound, Less, At, Other}
use Rattle.css_tokens.specs.Codes.{is_white, is_quote, is_ident_start}

-- the first byte is of that kind
abbrev pub TellsFirst : First → ℕ → Type 0
TellsFirst Slash c = c ≡ 47
TellsFirst White c = is_white c ≡ true
TellsFirst Quote c = is_quote c ≡ true
TellsFirst Number c = (is_ascii_digit c || (c == 43 || c == 46)) ≡ true
TellsFirst Dash c = c ≡ 45
TellsFirst Name c = is_ident_start c ≡ true
TellsFirst Back c = c ≡ 92
TellsFirst Pound c = c ≡ 35
TellsFirst Less c = c ≡ 60
TellsFirst At c = c ≡ 64
TellsFirst Other c =
    (((is_white c || is_quote c) || (is_ascii_digit c || is_ident_start c))
    || (((c == 47 || c == 35) || (c == 43 || c == 45)) || ((c == 46 || c == 60) || (c == 64 || c == 92)))) ≡ false
