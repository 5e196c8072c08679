-- A sheet that is taken apart to be edited.
use Rattle.std.specs.Prelude.{ℕ, List}
use Rattle.node_tree.specs.declared.origins.Origin.{Origin}
use Rattle.sheet_reader.specs.declared.book.SheetEntry.{SheetEntry}
use Rattle.sheet_reader.specs.declared.sheet.MediaRule.{MediaRule}
use Rattle.sheet_reader.specs.declared.sheet.Sheet.{Sheet}
use Rattle.sheet_reader.specs.Forms.{RuleForm}

-- the reading with these rules, places and media rules
abbrev pub reading_with : List RuleForm → List ℕ → List MediaRule → Sheet
reading_with rules places media = record { rules = rules; places = places; media = media }

-- the sheet with this id, origin, text and reading
abbrev pub entry_with : ℕ → Origin → List ℕ → Sheet → SheetEntry
entry_with id origin text reading = record { id = id; origin = origin; text = text; reading = reading }
