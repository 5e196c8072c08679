-- Edits of the bodies of one sheet.
use Rattle.std.specs.Prelude.{◌≡◌, ℕ, List, All, Ok, Some}
use Rattle.sheet_reader.specs.declared.book.SheetEntry.{SheetEntry}
use Rattle.sheet_reader.specs.Books.{IsEntry, book_changed}
use Rattle.style_edits.specs.declared.edits.StyleEdit.{StyleEdit}
use Rattle.style_edits.specs.declared.splice.Splice.{Splice}
use Rattle.style_edits.specs.declared.style_runs.Made.{Made}
use Rattle.style_edits.specs.Splices.{spliced_entry, back_in}
use Rattle.style_edits.specs.Edits.{client_sheet, style_in}
use Rattle.style_edits.specs.EditedRules.{place_by}

-- the edits are all of the sheet with this id
abbrev pub IsRun : ℕ → List StyleEdit → Type 0
IsRun id edits = All (λ x. x.sheet ≡ id) edits

-- an edit was made of a sheet, and this is what it left
pub record IsMade (x : StyleEdit) (old new : SheetEntry) (made : Made) : Type 0 where
  pub splice : Splice
  pub found : style_in x old ≡ Ok splice
  pub sheet : splice.sheet ≡ old.id
  pub new_is : new ≡ spliced_entry splice old
  pub back : made.back ≡ back_in splice old
  pub rule : made.rule ≡ place_by made.back (Some new)

-- a client may edit the sheet with this id
pub record MayEdit (id : ℕ) (book : List SheetEntry) : Type 0 where
  pub sheet : SheetEntry
  pub is : client_sheet id book ≡ Ok sheet
  pub entry : IsEntry sheet

-- at most the sheet with this id is another one
pub record ChangesOnly (id : ℕ) (old new : List SheetEntry) : Type 0 where
  pub sheet : SheetEntry
  pub own : sheet.id ≡ id
  pub is : new ≡ book_changed sheet old
