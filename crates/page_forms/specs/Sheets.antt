-- The style sheets of a page, as JSON spells them, and which of them a page may hold.
pub use Rattle.node_tree.specs.Numbers.{max_sheet_bytes, max_sheets}
use Rattle.std.specs.Prelude.{ℕ, List, length, codes, Bool, ◌&&◌, nat_le, Option, Some, ⊤}
use Rattle.std.specs.List.{list_all}
use Rattle.cdp_json.specs.Kinds.{Kind, text, choice, through, list_of}
use Rattle.cdp_json.specs.Rows.{Row, ends, and_need, object_of}
use Rattle.node_tree.specs.Origins.{origin_name, all_origins}
use Rattle.node_tree.specs.declared.origins.Origin.{Origin}
use Rattle.page_forms.specs.declared.sheets.SheetForm.{SheetForm}

-- ORIGIN: `user-agent` or `regular`
abbrev pub origin_form : Kind Origin
origin_form = choice origin_name all_origins

-- `{"origin":ORIGIN,"text":TEXT}`, with nothing else
abbrev pub sheet_row : Row (Origin × (List ℕ × ⊤))
sheet_row = and_need (codes "origin") origin_form (and_need (codes "text") text ends)

-- a sheet as its fields
abbrev pub sheet_fields : SheetForm → Origin × (List ℕ × ⊤)
sheet_fields sheet = (sheet.origin, (sheet.text, tt))

-- the sheet of these fields
abbrev pub sheet_from : Origin × (List ℕ × ⊤) → Option SheetForm
sheet_from f = Some (record { origin = f.0; text = f.1.0 })

-- SHEET
abbrev pub sheet_form : Kind SheetForm
sheet_form = through (object_of sheet_row) sheet_fields sheet_from

-- the sheets that a list spells
abbrev pub sheet_list : Kind (List SheetForm)
sheet_list = list_of sheet_form

-- ---- limits

-- the text of the sheet is no longer than a sheet's may be
abbrev pub is_short : SheetForm → Bool
is_short sheet = nat_le (length sheet.text) max_sheet_bytes

-- a page may hold these sheets
abbrev pub can_hold_sheets : List SheetForm → Bool
can_hold_sheets sheets = nat_le (length sheets) max_sheets && list_all is_short sheets
