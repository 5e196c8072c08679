-- What an edit makes of a saved page, the edit that leads back, and which edits a saved page takes.
use Rattle.std.specs.Prelude.{◌≡◌, ℕ, ◌+◌, ◌^◌, ◌<◌, ◌≤◌, ◌==◌, List, [], ◌∷◌, length, map, slice_range, Option, Some, None, if◌then◌else◌}
use Rattle.std.specs.Str.{IsUtf8}
use Rattle.node_tree.specs.Numbers.{counted_limit, max_sheet_bytes}
use Rattle.node_tree.specs.Nodes.{Branch}
use Rattle.page_tree.specs.Pages.{PageRow, IsValid}
use Rattle.page_tree.specs.Edits.{after_tree, back_tree}
use Rattle.page_tree.specs.EditFaults.{CanApply, first_fault}
use Rattle.page_tree.specs.declared.edits.TreeEdit.{TreeEdit}
use Rattle.selectors.specs.Ranges.{IsRangeOf}
use Rattle.sheet_reader.specs.Forms.{range}
use Rattle.sheet_reader.specs.declared.book.SheetEntry.{SheetEntry}
use Rattle.style_edits.specs.declared.splice.Splice.{Splice}
use Rattle.style_edits.specs.Splices.{spliced}
use Rattle.undo_marks.specs.declared.inverse_lists.Inverse.{Inverse}
use Rattle.undo_marks.specs.declared.inverse_lists.Inverse.TheVariants.{Tree, Sheet}
use Rattle.undo_marks.specs.Saved.{SavedSheet, Saved, after_either, back_either, TakesEither}

-- ---- what is saved

-- what is saved of a book's sheet
abbrev pub saved_sheet : SheetEntry → SavedSheet
saved_sheet e = record { number = e.id; text = e.text }

-- the saved page of a page's tree and its book of sheets
abbrev pub saved_of : Branch PageRow → List SheetEntry → Saved
saved_of tree book = record { tree = tree; sheets = map saved_sheet book }

-- ---- splices of saved sheets

-- the sheet with that number
abbrev pub sheet_at : ℕ → List SavedSheet → Option SavedSheet
sheet_at number [] = None
sheet_at number (x ∷ xs) = if number == x.number then Some x else sheet_at number xs

-- a sheet with the splice's text in the place of its bytes
abbrev pub spliced_sheet : Splice → SavedSheet → SavedSheet
spliced_sheet s x = record { number = x.number; text = spliced x.text s.start s.end s.text }

-- the sheets, the one of the splice's number with the new text in it, each other as it was
abbrev pub sheets_after : Splice → List SavedSheet → List SavedSheet
sheets_after s [] = []
sheets_after s (x ∷ xs) = if s.sheet == x.number then spliced_sheet s x ∷ xs else x ∷ sheets_after s xs

-- the splice that puts the sheet's own bytes back in the place of the new ones
abbrev pub splice_back : Splice → List SavedSheet → Splice
splice_back s [] = s
splice_back s (x ∷ xs) =
    if s.sheet == x.number
    then record { sheet = s.sheet; start = s.start; end = s.start + length s.text; text = slice_range x.text s.start s.end }
    else splice_back s xs

-- a sheet as a page has it: its number is from 1 to 2^53 - 1, and its text is UTF-8 of at most 2^24 bytes
pub record IsSavedSheet (x : SavedSheet) : Type 0 where
  pub some : 0 < x.number
  pub below : x.number < counted_limit
  pub utf8 : IsUtf8 x.text
  pub short : length x.text ≤ max_sheet_bytes

-- a sheet has the splice's number; the splice's bytes can be cut out of its text, the text in their place is UTF-8, and the
-- whole has at most 2^24 bytes then
pub record TakesSheet (s : Splice) (sheets : List SavedSheet) : Type 0 where
  pub sheet : SavedSheet
  pub found : sheet_at s.sheet sheets ≡ Some sheet
  pub saved : IsSavedSheet sheet
  pub is : IsRangeOf sheet.text (range s.start s.end)
  pub short : length (spliced sheet.text s.start s.end s.text) ≤ max_sheet_bytes
  pub text : IsUtf8 s.text

-- a page of that tree and that next serial is valid, and takes the edit
pub record TakesTree (next : ℕ) (e : TreeEdit) (tree : Branch PageRow) : Type 0 where
  pub valid : IsValid (record { tree = tree; next = next })
  pub taken : CanApply next e tree

-- ---- edits of saved pages

-- the saved page after an edit
abbrev pub page_after : Inverse → Saved → Saved
page_after = after_either after_tree sheets_after

-- the edit of that page that leads back
abbrev pub way_back : Inverse → Saved → Inverse
way_back = back_either back_tree splice_back

-- a page of that next serial takes the edit
abbrev pub TakesEdit : ℕ → Inverse → Saved → Type 0
TakesEdit next = TakesEither (TakesTree next) TakesSheet

-- the edit meets no fault, among which are the limits of levels, of nodes and of a text's length
abbrev pub MeetsNoFault : Inverse → Saved → Type 0
MeetsNoFault (Tree e) page = first_fault e page.tree ≡ None
MeetsNoFault (Sheet s) page = TakesSheet s page.sheets
