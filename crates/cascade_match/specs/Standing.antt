-- Which style rules apply to a node, and as what each stands in the matched list.
use Rattle.std.specs.Prelude.{◌≡◌, ℕ, true, List, Some}
use Rattle.std.specs.List.{slice_get}
use Rattle.page_tree.specs.Zippers.{Zipper}
use Rattle.select_match.specs.Matches.{list_matches}
use Rattle.sheet_reader.specs.declared.book.SheetEntry.{SheetEntry}
use Rattle.sheet_reader.specs.Forms.{RuleForm}
use Rattle.sheet_reader.specs.Sheets.{sheet_of}
use Rattle.sheet_reader.specs.Around.{AllHold}
use Rattle.media_rules.specs.declared.medium.Medium.{Medium}
use Rattle.cascade_match.specs.declared.keys.Key.{Key}
use Rattle.cascade_match.specs.declared.hits.Hit.{Hit}
use Rattle.cascade_match.specs.Precedence.{key_of}
use Rattle.cascade_match.specs.Matched.{places_matching, greatest}
use Rattle.cascade_match.specs.MediaHeld.{media_holds}

-- a style rule and its sheet, each with its place
pub record PlacedRule : Type 0 where
  pub sheet : ℕ
  pub entry : SheetEntry
  pub rule : ℕ
  pub form : RuleForm

-- the book has that sheet at its place, whose text says the rule at its place; some selector of the rule matches the node, and
-- every media rule around it holds of the medium
pub record Applies (m : Medium) (book : List SheetEntry) (z : Zipper) (p : PlacedRule) : Type 0 where
  pub sheet : slice_get book p.sheet ≡ Some p.entry
  pub rule : slice_get (sheet_of p.entry.text).rules p.rule ≡ Some p.form
  pub matches : list_matches p.form.selectors z ≡ true
  pub media : AllHold (media_holds p.entry.text m) (sheet_of p.entry.text).media p.form.media

-- what stands for the rule: its key, by the greatest specificity of its matching selectors, and the sheet's id, the rule's
-- place and the places of these selectors
abbrev pub standing : PlacedRule → Zipper → Key × Hit
standing p z = (
  key_of p.entry.origin (greatest p.form.selectors z) p.sheet p.rule,
  record { sheet = p.entry.id; rule = p.rule; matching = places_matching p.form.selectors z },
)
