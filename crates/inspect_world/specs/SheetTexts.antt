-- What a show of the sheets prints: one line for each, its id, whose it is, and its text.
use Rattle.node_tree.specs.Origins.{origin_name}
use Rattle.std.specs.Prelude.{ℕ, List, [], ◌∷◌, ◌++◌, codes, Option, Some, None}
use Rattle.std.specs.List.{flat_map}
use Rattle.node_tree.specs.declared.origins.Origin.{Origin}
use Rattle.css_objects.specs.Sheets.{sheet_text}
use Rattle.client_views.specs.Views.{ShownSheet}
use Rattle.front_mirror.specs.declared.sheets.KnownSheet.{KnownSheet}
use Rattle.front_mirror.specs.Outline.{quoted}

-- a text as a JSON string; `-` where none is held
abbrev pub text_shown : Option (List ℕ) → List ℕ
text_shown None = codes "-"
text_shown (Some text) = quoted text

-- the line of a sheet
abbrev pub sheet_line : ℕ → Origin → Option (List ℕ) → List ℕ
sheet_line number origin text = sheet_text number ++ codes " " ++ origin_name origin ++ codes " " ++ text_shown text ++ 10 ∷ []

-- the lines of a page's sheets
abbrev pub sheet_lines : List ShownSheet → List ℕ
sheet_lines sheets = flat_map (λ (s : ShownSheet). sheet_line s.number s.origin (Some s.text)) sheets

-- the line of a sheet that a front end knows
abbrev pub known_line : KnownSheet → List ℕ
known_line s = sheet_line s.number s.origin s.text

-- in their order
abbrev pub known_lines : List KnownSheet → List ℕ
known_lines sheets = flat_map known_line sheets
