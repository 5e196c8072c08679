-- The units of each run of the code.
use Rattle.std.specs.Prelude.{ℕ, List}
use Rattle.css_tokens.specs.declared.runs.Run.{Run}
use Rattle.css_tokens.specs.declared.runs.Run.TheVariants.{Comment, Str, Name, Url, BadUrl}
use Rattle.css_tokens.specs.Runs.{comment_unit, string_unit, name_unit, url_unit, bad_url_unit}

-- the length of the unit of that run that a text begins with
abbrev pub unit_of : Run → List ℕ → ℕ
unit_of Comment = comment_unit
unit_of (Str quote) = string_unit quote
unit_of Name = name_unit
unit_of Url = url_unit
unit_of BadUrl = bad_url_unit
