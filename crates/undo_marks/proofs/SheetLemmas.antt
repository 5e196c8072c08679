-- Splices of saved sheets are those of a book of sheets.
use Rattle.std.proofs.Common.{◌≡◌, ℕ, Bool, true, false, cond, nat_eq, List, [], ◌∷◌, map, length, Option, Some, None, refl, sym, ap, subst}
use Rattle.std.proofs.Common.{◌∙◌}
use Rattle.std.specs.Prelude.{◌≤◌, ◌^◌, IsSomeAnd}
use Rattle.std.proofs.lemmas.Bool.{eq-eqb}
use Rattle.sheet_reader.specs.declared.book.SheetEntry.{SheetEntry}
use Rattle.node_tree.specs.declared.origins.Origin.TheVariants.{Regular}
use Rattle.selectors.specs.Ranges.{IsRangeOf}
use Rattle.sheet_reader.specs.Forms.{range}
use Rattle.sheet_reader.specs.Sheets.{sheet_of}
use Rattle.sheet_reader.specs.Books.{entry_of, book_changed}
use Rattle.style_edits.specs.declared.splice.Splice.{Splice}
use Rattle.style_edits.specs.Splices.{spliced, spliced_entry, back_in, after_by, after_splice, back_by, back_splice, FitsIn, FitsSplice}
use Rattle.style_edits.specs.Splices.{TakesSplice}
use Rattle.style_edits.proofs.BookForms.{entry_id}
use Rattle.style_edits.proofs.SpliceForms.{takes_back, leads_back, back_back}
use Rattle.undo_marks.specs.Changes.{AreBacks}
use Rattle.undo_marks.specs.Saved.{SavedSheet}
use Rattle.undo_marks.specs.SavedEdits.{saved_sheet, sheet_at, spliced_sheet, sheets_after, splice_back, TakesSheet}

abbrev saved_sheets : List SheetEntry → List SavedSheet
saved_sheets book = map saved_sheet book

-- ---- a book and the sheets saved of it

abbrev seen : Option SheetEntry → Option SavedSheet
seen None = None
seen (Some e) = Some (saved_sheet e)

sheet_at-saved : (n : ℕ) (book : List SheetEntry) → sheet_at n (saved_sheets book) ≡ seen (entry_of n book)
sheet_at-saved n [] = refl
sheet_at-saved n (x ∷ xs) = by (nat_eq n x.id) (sheet_at-saved n xs)
  where
    by : (b : Bool) → sheet_at n (saved_sheets xs) ≡ seen (entry_of n xs)
        → cond b (Some (saved_sheet x)) (sheet_at n (saved_sheets xs)) ≡ seen (cond b (Some x) (entry_of n xs))
    by true rest = refl
    by false rest = rest

-- a splice of a book, told of its first sheet
splice_step : (s : Splice) (x : SheetEntry) (xs : List SheetEntry)
    → after_splice s (x ∷ xs) ≡ cond (nat_eq s.sheet x.id) (spliced_entry s x ∷ xs) (x ∷ after_splice s xs)
splice_step s x xs = by (nat_eq s.sheet x.id) refl
  where
    behind : nat_eq s.sheet x.id ≡ false → (o : Option SheetEntry) → entry_of s.sheet xs ≡ o → after_by s (x ∷ xs) o ≡ x ∷ after_by s xs o
    behind is None found = refl
    behind is (Some e) found =
        let id : e.id ≡ s.sheet = entry_id s.sheet xs e found in
        let apart : nat_eq e.id x.id ≡ false = ap (λ (n : ℕ). nat_eq n x.id) id ∙ is in
        ap (λ (c : Bool). cond c (spliced_entry s e ∷ xs) (x ∷ book_changed (spliced_entry s e) xs)) apart

    by : (b : Bool) → nat_eq s.sheet x.id ≡ b
        → after_by s (x ∷ xs) (cond b (Some x) (entry_of s.sheet xs)) ≡ cond b (spliced_entry s x ∷ xs) (x ∷ after_splice s xs)
    by true is = ap (λ (c : Bool). cond c (spliced_entry s x ∷ xs) (x ∷ book_changed (spliced_entry s x) xs)) (eq-eqb x.id x.id refl)
    by false is = behind is (entry_of s.sheet xs) refl

pub after-saved : (s : Splice) (book : List SheetEntry) → sheets_after s (saved_sheets book) ≡ saved_sheets (after_splice s book)
after-saved s [] = refl
after-saved s (x ∷ xs) = by (nat_eq s.sheet x.id) (after-saved s xs) ∙ ap saved_sheets (sym (splice_step s x xs))
  where
    by : (b : Bool) → sheets_after s (saved_sheets xs) ≡ saved_sheets (after_splice s xs)
        → cond b (spliced_sheet s (saved_sheet x) ∷ saved_sheets xs) (saved_sheet x ∷ sheets_after s (saved_sheets xs))
        ≡ saved_sheets (cond b (spliced_entry s x ∷ xs) (x ∷ after_splice s xs))
    by true rest = refl
    by false rest = ap (λ (l : List SavedSheet). saved_sheet x ∷ l) rest

pub back-saved : (s : Splice) (book : List SheetEntry) → splice_back s (saved_sheets book) ≡ back_splice s book
back-saved s [] = refl
back-saved s (x ∷ xs) = by (nat_eq s.sheet x.id) (back-saved s xs)
  where
    by : (b : Bool) → splice_back s (saved_sheets xs) ≡ back_splice s xs
        → cond b (back_in s x) (splice_back s (saved_sheets xs)) ≡ back_by s (cond b (Some x) (entry_of s.sheet xs))
    by true rest = refl
    by false rest = rest

pub taken-saved : (s : Splice) (book : List SheetEntry) → TakesSplice s book → TakesSheet s (saved_sheets book)
taken-saved s book t =
    let e = t.sheet in
    record {
      sheet = saved_sheet e;
      found = sheet_at-saved s.sheet book ∙ ap seen t.found;
      saved = record { some = t.stored.entry.some; below = t.stored.entry.id; utf8 = t.stored.utf8; short = t.stored.entry.short };
      is = t.fits.is;
      short = t.fits.short;
      text = t.text;
    }

some_none : (x : SavedSheet) → None ≡ Some x → ⊥
some_none x e = cc

pub fits-saved : (s : Splice) (book : List SheetEntry) → TakesSheet s (saved_sheets book) → FitsSplice s book
fits-saved s book t = by (entry_of s.sheet book) (sym (sheet_at-saved s.sheet book) ∙ t.found)
  where
    by : (o : Option SheetEntry) → seen o ≡ Some t.sheet → IsSomeAnd o (FitsIn s)
    by None h = absurd (some_none t.sheet h)
    by (Some e) h =
        let same : t.sheet ≡ saved_sheet e = cc in
        let own : TakesSheet s (saved_sheets book) = t in
        record {
          is = subst (λ (x : SavedSheet). IsRangeOf x.text (range s.start s.end)) same t.is;
          short = subst (λ (x : SavedSheet). length (spliced x.text s.start s.end s.text) ≤ 2 ^ 24) same t.short;
        }

-- ---- a book of which sheets are saved

abbrev booked : SavedSheet → SheetEntry
booked x = record { id = x.number; origin = Regular; text = x.text; reading = sheet_of x.text }

abbrev book_of : List SavedSheet → List SheetEntry
book_of sheets = map booked sheets

saved-booked : (sheets : List SavedSheet) → saved_sheets (book_of sheets) ≡ sheets
saved-booked [] = refl
saved-booked (x ∷ xs) = ap (λ (l : List SavedSheet). x ∷ l) (saved-booked xs)

abbrev put_down : Option SavedSheet → Option SheetEntry
put_down None = None
put_down (Some x) = Some (booked x)

entry_of-booked : (n : ℕ) (sheets : List SavedSheet) → entry_of n (book_of sheets) ≡ put_down (sheet_at n sheets)
entry_of-booked n [] = refl
entry_of-booked n (x ∷ xs) = by (nat_eq n x.number) (entry_of-booked n xs)
  where
    by : (b : Bool) → entry_of n (book_of xs) ≡ put_down (sheet_at n xs)
        → cond b (Some (booked x)) (entry_of n (book_of xs)) ≡ put_down (cond b (Some x) (sheet_at n xs))
    by true rest = refl
    by false rest = rest

taken-booked : (s : Splice) (sheets : List SavedSheet) → TakesSheet s sheets → TakesSplice s (book_of sheets)
taken-booked s sheets t =
    let x = t.sheet in
    record {
      sheet = booked x;
      found = entry_of-booked s.sheet sheets ∙ ap put_down t.found;
      stored = record {
        entry = record { read = refl; some = t.saved.some; id = t.saved.below; short = t.saved.short };
        utf8 = t.saved.utf8;
      };
      fits = record { is = t.is; short = t.short };
      text = t.text;
    }

-- ---- the three laws

-- told of a book, which then is one of which the sheets are saved
module _ (s : Splice) (book : List SheetEntry) (t : TakesSplice s book) where
  taken : TakesSheet (splice_back s (saved_sheets book)) (sheets_after s (saved_sheets book))
  taken =
      let back = back_splice s book in
      let next = after_splice s book in
      let own : TakesSheet back (saved_sheets next) = taken-saved back next (takes_back s book t) in
      subst (λ (x : Splice). TakesSheet x (sheets_after s (saved_sheets book))) (sym (back-saved s book))
      (subst (TakesSheet back) (sym (after-saved s book)) own)

  leads : sheets_after (splice_back s (saved_sheets book)) (sheets_after s (saved_sheets book)) ≡ saved_sheets book
  leads =
      (λ i. sheets_after (back-saved s book i) (after-saved s book i))
      ∙ after-saved (back_splice s book) (after_splice s book)
      ∙ ap saved_sheets (leads_back s book t)

  again : splice_back (splice_back s (saved_sheets book)) (sheets_after s (saved_sheets book)) ≡ s
  again =
      (λ i. splice_back (back-saved s book i) (after-saved s book i))
      ∙ back-saved (back_splice s book) (after_splice s book)
      ∙ back_back s book t

module _ (s : Splice) (sheets : List SavedSheet) (t : TakesSheet s sheets) where
  sheets_taken : TakesSheet (splice_back s sheets) (sheets_after s sheets)
  sheets_taken =
      subst (λ (l : List SavedSheet). TakesSheet (splice_back s l) (sheets_after s l)) (saved-booked sheets)
      (taken s (book_of sheets) (taken-booked s sheets t))

  sheets_lead : sheets_after (splice_back s sheets) (sheets_after s sheets) ≡ sheets
  sheets_lead =
      subst (λ (l : List SavedSheet). sheets_after (splice_back s l) (sheets_after s l) ≡ l) (saved-booked sheets)
      (leads s (book_of sheets) (taken-booked s sheets t))

  sheets_again : splice_back (splice_back s sheets) (sheets_after s sheets) ≡ s
  sheets_again =
      subst (λ (l : List SavedSheet). splice_back (splice_back s l) (sheets_after s l) ≡ s) (saved-booked sheets)
      (again s (book_of sheets) (taken-booked s sheets t))

pub sheets_are_backs : AreBacks sheets_after splice_back TakesSheet
sheets_are_backs = record { takes_back = sheets_taken; leads_back = sheets_lead; back_back = sheets_again }
