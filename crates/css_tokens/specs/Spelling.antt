-- Names in any case.
use Rattle.std.specs.Prelude.{ℕ, Bool, false, ◌&&◌, ◌==◌, List, [], ◌∷◌, map}
use Rattle.std.specs.Char.{to_ascii_lowercase}
use Rattle.std.specs.Str.{bytes_eq}
use Rattle.css_tokens.specs.Codes.{begins, is_newline}
use Rattle.css_tokens.specs.Escapes.{unescaped}

-- a name's value, its escapes read, is this word in any case
abbrev pub spells : List ℕ → List ℕ → Bool
spells name word = bytes_eq (map to_ascii_lowercase (unescaped name)) word

-- a `\` with a newline stands in front
abbrev pub begins_line : List ℕ → Bool
begins_line [] = false
begins_line (c ∷ tail) = c == 92 && begins is_newline tail
