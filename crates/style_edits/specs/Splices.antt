-- A splice of the text of one sheet of a book: where it leads, and the splice that leads back.
use Rattle.std.specs.Prelude.{◌≡◌, ℕ, ◌+◌, ◌^◌, ◌≤◌, List, [], ◌∷◌, ◌++◌, length, take, drop, slice_range, Option, Some, None, IsSomeAnd}
use Rattle.std.specs.Str.{IsUtf8}
use Rattle.node_tree.specs.Numbers.{max_sheet_bytes}
use Rattle.selectors.specs.Ranges.{IsRangeOf}
use Rattle.sheet_reader.specs.declared.book.SheetEntry.{SheetEntry}
use Rattle.sheet_reader.specs.Forms.{range}
use Rattle.sheet_reader.specs.Sheets.{sheet_of}
use Rattle.sheet_reader.specs.Books.{IsStored, entry_of, book_changed}
use Rattle.style_edits.specs.declared.splice.Splice.{Splice}

-- a text with a new part in the place of the bytes from start to end
abbrev pub spliced : List ℕ → ℕ → ℕ → List ℕ → List ℕ
spliced text start end new = take start text ++ (new ++ drop end text)

-- a sheet with another text, and what that says
abbrev pub with_text : SheetEntry → List ℕ → SheetEntry
with_text e text = record { id = e.id; origin = e.origin; text = text; reading = sheet_of text }

-- a sheet after the splice of its text, and what that text says
abbrev pub spliced_entry : Splice → SheetEntry → SheetEntry
spliced_entry s e = with_text e (spliced e.text s.start s.end s.text)

-- the splice that puts a sheet's own bytes back in the place of the new ones
abbrev pub back_in : Splice → SheetEntry → Splice
back_in s e = record { sheet = s.sheet; start = s.start; end = s.start + length s.text; text = slice_range e.text s.start s.end }

-- a book after a splice of the sheet that was found; as it was where there is none
abbrev pub after_by : Splice → List SheetEntry → Option SheetEntry → List SheetEntry
after_by s book None = book
after_by s book (Some e) = book_changed (spliced_entry s e) book

-- a book after a splice: each other sheet as it was, and each in its place
abbrev pub after_splice : Splice → List SheetEntry → List SheetEntry
after_splice s book = after_by s book (entry_of s.sheet book)

-- the splice that leads back in the sheet that was found; the splice itself where there is none
abbrev pub back_by : Splice → Option SheetEntry → Splice
back_by s None = s
back_by s (Some e) = back_in s e

-- the splice that leads back to the book
abbrev pub back_splice : Splice → List SheetEntry → Splice
back_splice s book = back_by s (entry_of s.sheet book)

-- a book after splices, one after the other
abbrev pub after_splices : List Splice → List SheetEntry → List SheetEntry
after_splices [] book = book
after_splices (s ∷ ss) book = after_splices ss (after_splice s book)

-- the bytes can be cut out of the sheet's text, and the text that the splice makes has at most 2^24 bytes
pub record FitsIn (s : Splice) (e : SheetEntry) : Type 0 where
  pub is : IsRangeOf e.text (range s.start s.end)
  pub short : length (spliced e.text s.start s.end s.text) ≤ max_sheet_bytes

-- the sheet is in the book, and the splice fits in it
abbrev pub FitsSplice : Splice → List SheetEntry → Type 0
FitsSplice s book = IsSomeAnd (entry_of s.sheet book) (FitsIn s)

-- ---- splices that can be made

-- the sheet is in the book, and the splice fits in it and has a text
pub record TakesSplice (s : Splice) (book : List SheetEntry) : Type 0 where
  pub sheet : SheetEntry
  pub found : entry_of s.sheet book ≡ Some sheet
  pub stored : IsStored sheet
  pub fits : FitsIn s sheet
  pub text : IsUtf8 s.text
