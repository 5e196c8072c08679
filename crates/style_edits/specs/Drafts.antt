-- A sheet as an edit leaves it, before it is in the book.
use Rattle.std.specs.Prelude.{◌≡◌, ◌⊎◌, ℕ, ◌≤◌, nat_lt, [], ◌∷◌, ◌++◌, List, IsSome, Option, Some, None, Result, Ok, Err}
use Rattle.std.specs.Prelude.{Bool, ◌&&◌, ◌||◌, ◌==◌, if◌then◌else◌}
use Rattle.std.specs.Str.{IsCharBoundary}
use Rattle.css_tokens.specs.declared.token.Range.{Range}
use Rattle.sheet_reader.specs.declared.book.SheetEntry.{SheetEntry}
use Rattle.sheet_reader.specs.Books.{IsEntry, entry_of, book_changed}
use Rattle.sheet_reader.specs.Rereads.{CanRetell}
use Rattle.sheet_reader.specs.Positions.{position, position_of}
use Rattle.style_edits.specs.declared.drafts.Draft.{Draft}
use Rattle.style_edits.specs.declared.faults.SheetErr.{SheetErr}
use Rattle.style_edits.specs.declared.faults.SheetErr.TheVariants.{Fault, Memory}
use Rattle.style_edits.specs.declared.lines.LineRange.{LineRange}
use Rattle.style_edits.specs.declared.splice.Splice.{Splice}
use Rattle.style_edits.specs.Splices.{spliced, back_in}
use Rattle.style_edits.specs.Edits.{Found, EditsOutcome}

-- the bytes at the ends have these lines and columns, and the text can be cut there
pub record IsAt (text : List ℕ) (lines : LineRange) (r : Range) : Type 0 where
  pub front : IsCharBoundary text r.start
  pub back : IsCharBoundary text r.end
  pub start : position_of text r.start ≡ position lines.start_line lines.start_column
  pub end : position_of text r.end ≡ position lines.end_line lines.end_column

-- two ranges have the same start and the same end
abbrev pub is_same_range : Range → Range → Bool
is_same_range a b = a.start == b.start && a.end == b.end

-- a range starts or ends before another one; of ranges one behind the other, so does each that stands before such a one
abbrev pub is_before_range : Range → Range → Bool
is_before_range r wanted = nat_lt r.start wanted.start || nat_lt r.end wanted.end

-- the range, if it is the same as another one
abbrev pub if_same_range : Range → Range → Option Range
if_same_range wanted r = if is_same_range wanted r then Some r else None

-- ranges one behind the other, from a place on
abbrev pub AreInOrder : ℕ → List Range → Type 0
AreInOrder from [] = Unit {0}
AreInOrder from (r ∷ rs) = (from ≤ r.start) × (r.start ≤ r.end) × AreInOrder r.end rs

-- the text after the splice that was found, and the splice that leads back
pub record IsDraft (e : SheetEntry) (found : Found) (d : Draft) : Type 0 where
  pub splice : Splice
  pub is : found ≡ Ok splice
  pub sheet : splice.sheet ≡ e.id
  pub id : d.id ≡ e.id
  pub text : d.text ≡ spliced e.text splice.start splice.end splice.text
  pub back : d.back ≡ back_in splice e

-- the sheet can get the draft's text, of which the reading is planned
abbrev pub IsToldBy : SheetEntry → Draft → Type 0
IsToldBy e d = CanRetell d.text d.plan e

-- the text after the splice that was found, or the fault that was found, unless memory ran out
abbrev pub Drafts : SheetEntry → Found → Result Draft SheetErr → Type 0
Drafts e found (Ok d) = IsDraft e found d
Drafts e found (Err (Fault f)) = found ≡ Err f
Drafts e found (Err Memory) = Unit {0}

-- an entry that can take the place of one in the book
pub record IsOld (book : List SheetEntry) (e : SheetEntry) : Type 0 where
  pub entry : IsEntry e
  pub there : IsSome (entry_of e.id book)

-- an entry is kept behind others, or one of them is in its place
abbrev pub Keeps : SheetEntry → List SheetEntry → List SheetEntry → Type 0
Keeps e olds more = (more ≡ olds) ⊎ (more ≡ olds ++ e ∷ [])

-- entries back in their places, the last one first
abbrev pub olds_restored : List SheetEntry → List SheetEntry → List SheetEntry
olds_restored [] book = book
olds_restored (old ∷ olds) book = book_changed old (olds_restored olds book)

-- what edits come to behind others, whose splices back these are
abbrev pub with_backs : List Splice → EditsOutcome → EditsOutcome
with_backs backs (Ok rest) = Ok (rest.0, backs ++ rest.1)
with_backs backs (Err f) = Err f
