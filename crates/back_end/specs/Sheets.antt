-- The page's sheets: as the book has them and as messages tell them, and what becomes of them.
use Rattle.std.specs.Prelude.{◌≤◌, ◌<◌, ℕ, ◌+◌, List, [], ◌∷◌, map, length, refl, ⊤}
use Rattle.std.specs.Coded.{Coded, code_by, coded×, coded_list, coded_ℕ}
use Rattle.std.specs.Str.{IsUtf8}
use Rattle.node_tree.specs.declared.origins.Origin.{Origin}
use Rattle.sheet_reader.specs.declared.book.SheetEntry.{SheetEntry}
use Rattle.sheet_reader.specs.contracts.book.SheetEntry as entry
use Rattle.style_edits.specs.Edits.{new_sheet}
use Rattle.page_forms.specs.declared.sheets.SheetForm.{SheetForm}
use Rattle.page_forms.specs.Sheets.{max_sheets, max_sheet_bytes}
use Rattle.media_rules.specs.declared.medium.Medium.{Medium}
use Rattle.media_rules.specs.contracts.medium.Medium as medium
use Rattle.client_views.specs.Views.{ShownSheet}

-- ---- a sheet in the book, and as messages tell it

-- the book's entry of a sheet, with the reading of its text
abbrev pub entry_of_sheet : ShownSheet → SheetEntry
entry_of_sheet s = new_sheet s.number s.origin s.text

-- the book of these sheets
abbrev pub as_book : List ShownSheet → List SheetEntry
as_book sheets = map entry_of_sheet sheets

-- a sheet with this number, origin and text
abbrev pub shown_sheet : ℕ → Origin → List ℕ → ShownSheet
shown_sheet number origin text = record { number = number; origin = origin; text = text }

-- the sheets of a page that is loaded, with the numbers from this one on
abbrev pub numbered_sheets : ℕ → List SheetForm → List ShownSheet
numbered_sheets next [] = []
numbered_sheets next (f ∷ fs) = shown_sheet next f.origin f.text ∷ numbered_sheets (next + 1) fs

-- ---- the sheets of a page

-- the numbers ascend from the least one on, and stay below another
abbrev pub AscendBetween : ℕ → ℕ → List ShownSheet → Type 0
AscendBetween least next [] = least ≤ next
AscendBetween least next (s ∷ ss) = (least ≤ s.number) × AscendBetween (s.number + 1) next ss

-- each text is UTF-8, and no longer than a sheet's may be
abbrev pub AreSheetTexts : List ShownSheet → Type 0
AreSheetTexts [] = ⊤
AreSheetTexts (s ∷ ss) = IsUtf8 s.text × (length s.text ≤ max_sheet_bytes) × AreSheetTexts ss

-- What always holds of a page's sheets, where the next one gets this number.
pub record AreSheetsBelow (next : ℕ) (sheets : List ShownSheet) : Type 0 where
  pub numbers : AscendBetween 1 next sheets
  pub few : length sheets ≤ max_sheets
  pub texts : AreSheetTexts sheets

-- ---- sheets that come and go

-- a change of the sheets
pub data SheetChange : Type 0 where
  -- that of this number goes
  leaves : ℕ → SheetChange
  -- one with this origin and text comes, and stands last
  comes : Origin → List ℕ → SheetChange

-- ---- the book in code

-- what a page is styled by: the book, the number that its next sheet gets, and the medium that the page is shown on
pub record NumberedBook : Type 0 where
  pub entries : List SheetEntry
  pub next : ℕ
  pub medium : Medium

-- a book by its parts
abbrev pub coded_book : Coded NumberedBook
coded_book =
    code_by (List SheetEntry × (ℕ × Medium)) (coded× (coded_list entry.the_row.coded) (coded× coded_ℕ medium.the_row.coded))
    (λ b. (b.entries, (b.next, b.medium))) (λ p. record { entries = p.0; next = p.1.0; medium = p.1.1 }) (λ _. refl)

-- each number is below the next one
abbrev pub AreBelow : ℕ → List SheetEntry → Type 0
AreBelow next [] = ⊤
AreBelow next (e ∷ es) = (e.id < next) × AreBelow next es
