-- The reading of a text of which a part was replaced, by what of the old reading is kept.
use Rattle.std.specs.Prelude.{◌≡◌, ℕ, ◌≤◌, List, length, slice_get, IsSomeAnd}
use Rattle.node_tree.specs.Numbers.{max_sheet_bytes}
use Rattle.css_tokens.specs.declared.token.Range.{Range}
use Rattle.sheet_reader.specs.declared.book.SheetEntry.{SheetEntry}
use Rattle.sheet_reader.specs.declared.rereads.Rereading.{Rereading}
use Rattle.sheet_reader.specs.declared.rereads.Rereading.TheVariants.{Body, Part, Whole}
use Rattle.sheet_reader.specs.declared.sheet.Sheet.{Sheet}
use Rattle.sheet_reader.specs.Forms.{RuleForm}
use Rattle.sheet_reader.specs.Moves.{moved_sheet, CanMoveBody}
use Rattle.sheet_reader.specs.Repairs.{repaired, CanRepair}
use Rattle.sheet_reader.specs.Sheets.{sheet_of}

-- the rule has this body
abbrev pub HasBody : Range → RuleForm → Type 0
HasBody wanted r = r.body ≡ wanted

-- what a reading becomes: the old one moved around a new body or a new part, or the one that was read
abbrev pub reread_by : Sheet → Rereading → Sheet
reread_by s (Body new) = moved_sheet s new.rule new.properties.items new.size
reread_by s (Part new) = repaired s new
reread_by s (Whole new) = new

-- it can become that
abbrev pub CanReread : Sheet → Rereading → Type 0
CanReread s (Body new) = IsSomeAnd (slice_get s.rules new.rule) (CanMoveBody s new.rule new.properties.items new.size)
CanReread s (Part new) = CanRepair s new
CanReread s (Whole new) = Unit {0}

-- the old reading can become the new one so
pub record LeadsTo (new old : Sheet) (plan : Rereading) : Type 0 where
  pub can : CanReread old plan
  pub is : reread_by old plan ≡ new

-- the sheet with another text, and what that says
abbrev pub retold : List ℕ → SheetEntry → SheetEntry
retold text e = record { id = e.id; origin = e.origin; text = text; reading = sheet_of text }

-- the sheet can get this text, of which the reading is planned
pub record CanRetell (text : List ℕ) (plan : Rereading) (e : SheetEntry) : Type 0 where
  pub short : length text ≤ max_sheet_bytes
  pub leads : LeadsTo (sheet_of text) e.reading plan
