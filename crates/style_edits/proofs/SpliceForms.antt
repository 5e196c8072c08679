-- A splice and the one that leads back.
use Rattle.std.proofs.Common.{All, Bool, true, false, cond, nat_eq, ◌≡◌, ℕ, ◌+◌, ◌-◌, ◌≤◌, ◌^◌, List, [], ◌∷◌, ◌++◌, length, take, drop}
use Rattle.std.proofs.Common.{Option, Some, refl, sym, ap, subst, ◌∙◌, append_assoc, length-append, length-take, length-drop, arith}
use Rattle.std.specs.Prelude.{slice_range, IsSomeAnd}
use Rattle.std.specs.Str.{IsUtf8, IsCharBoundary}
use Rattle.std.proofs.lemmas.List.{take-append-drop, drop-drop}
use Rattle.std.proofs.Math.Seq.{take-append_seam, drop-append_seam}
use Rattle.std.proofs.lemmas.Str.{IsUtf8-append, IsUtf8-take, IsUtf8-drop, IsUtf8-between, IsCharBoundary-at_seam}
use Rattle.std.proofs.lemmas.List.Elements.{All-nil, All-cons, All-head, All-tail}
use Rattle.selectors.specs.Ranges.{IsRangeOf}
use Rattle.sheet_reader.specs.declared.book.SheetEntry.{SheetEntry}
use Rattle.sheet_reader.specs.Forms.{range}
use Rattle.sheet_reader.specs.Books.{IsEntry, IsStored, entry_of, book_changed}
use Rattle.style_edits.specs.declared.splice.Splice.{Splice}
use Rattle.style_edits.specs.Splices.{spliced, with_text, spliced_entry, back_in, after_by, after_splice, back_by, back_splice, FitsIn}
use Rattle.style_edits.specs.Splices.{FitsSplice, TakesSplice}
use Rattle.style_edits.proofs.BookForms.{entry_id, entry_again, some_there, entry_changed, changed_back}

-- ---- texts

-- a text in three parts: before the splice's bytes, these, and behind them
record Parts (text : List ℕ) (start end : ℕ) : Type 0 where
  whole : text ≡ take start text ++ (slice_range text start end ++ drop end text)
  front : length (take start text) ≡ start
  middle : start + length (slice_range text start end) ≡ end

parts : (text : List ℕ) (start end : ℕ) → start ≤ end → end ≤ length text → Parts text start end
parts text start end order within =
    let cut : drop (end - start) (drop start text)
    ≡ drop end text = drop-drop (end - start) start text ∙ ap (λ (n : ℕ). drop n text) (omega (arith, order)) in
    record {
      whole = sym (take-append-drop start text) ∙ ap (λ (xs : List ℕ). take start text ++ xs)
          (sym (take-append-drop (end - start) (drop start text)) ∙ ap (λ (xs : List ℕ). slice_range text start end ++ xs) cut);
      front = omega (arith, length-take start text);
      middle = omega (arith, length-take (end - start) (drop start text), length-drop start text);
    }

seam_drop : (front new rest : List ℕ) (start end : ℕ) → length front ≡ start → end ≡ start + length new
    → drop end (front ++ (new ++ rest)) ≡ rest
seam_drop front new rest start end len is =
    let whole : front ++ (new ++ rest) ≡ (front ++ new) ++ rest = sym (append_assoc front new rest) in
    let count : end ≡ length (front ++ new) = omega (arith, is, len, length-append front new) in
    (λ i. drop (count i) (whole i)) ∙ drop-append_seam (front ++ new) rest

seam_range : (front new rest : List ℕ) (start end : ℕ) → length front ≡ start → end ≡ start + length new
    → slice_range (front ++ (new ++ rest)) start end ≡ new
seam_range front new rest start end len is =
    let behind : drop start (front ++ (new ++ rest))
    ≡ new ++ rest = ap (λ (n : ℕ). drop n (front ++ (new ++ rest))) (sym len) ∙ drop-append_seam front (new ++ rest) in
    let count : end - start ≡ length new = omega (arith, is) in
    (λ i. take (count i) (behind i)) ∙ take-append_seam new rest

seam_take : (front rest : List ℕ) (start : ℕ) → length front ≡ start → take start (front ++ rest) ≡ front
seam_take front rest start len = ap (λ (n : ℕ). take n (front ++ rest)) (sym len) ∙ take-append_seam front rest

-- the splice back gives the old text
text_back : (text new : List ℕ) (start end : ℕ) → start ≤ end → end ≤ length text
    → spliced (spliced text start end new) start (start + length new) (slice_range text start end) ≡ text
text_back text new start end order within =
    let p = parts text start end order within in
    let front = seam_take (take start text) (new ++ drop end text) start p.front in
    let behind = seam_drop (take start text) new (drop end text) start (start + length new) p.front refl in
    (λ i. front i ++ (slice_range text start end ++ behind i)) ∙ sym p.whole

-- and the splice back of that one is the splice again
again : (text new : List ℕ) (start end : ℕ) → start ≤ end → end ≤ length text
    → slice_range (spliced text start end new) start (start + length new) ≡ new
again text new start end order within = let p = parts text start end order within in seam_range (take start text) new (drop end text) start
    (start + length new) p.front refl

-- ---- edges

record Edges (text new : List ℕ) (start end : ℕ) : Type 0 where
  utf8 : IsUtf8 (spliced text start end new)
  is : IsRangeOf (spliced text start end new) (range start (start + length new))
  taken : IsUtf8 (slice_range text start end)

edges : (text new : List ℕ) (start end : ℕ) → IsUtf8 text → IsUtf8 new → IsRangeOf text (range start end) → Edges text new start end
edges text new start end utf8 utf8_new r =
    let p = parts text start end r.order r.back.0 in
    let front = IsUtf8-take text start utf8 r.front in
    let rest = IsUtf8-drop text end utf8 r.back in
    let behind = IsUtf8-append new (drop end text) utf8_new rest in
    let whole = spliced text start end new in
    let first : IsCharBoundary whole start = subst (IsCharBoundary whole) p.front
    (IsCharBoundary-at_seam whole (take start text) (new ++ drop end text) refl behind) in
    let count : length (take start text ++ new) ≡ start + length new = omega (arith, length-append (take start text) new, p.front) in
    let last : IsCharBoundary whole (start + length new) =
    subst (IsCharBoundary whole) count
    (IsCharBoundary-at_seam whole (take start text ++ new) (drop end text)
    (sym (append_assoc (take start text) new (drop end text))) rest) in
    record {
      utf8 = IsUtf8-append (take start text) (new ++ drop end text) front behind;
      is = record { order = omega arith; front = first; back = last };
      taken = IsUtf8-between text start end utf8 r.order r.front r.back;
    }

-- ---- books

entry_back : (s : Splice) (e : SheetEntry) → IsEntry e → IsRangeOf e.text (range s.start s.end)
    → spliced_entry (back_in s e) (spliced_entry s e) ≡ e
entry_back s e own r =
    let same = text_back e.text s.text s.start s.end r.order r.back.0 in
    ap (λ (text : List ℕ). with_text e text) same ∙ (λ i. record { id = e.id; origin = e.origin; text = e.text; reading = sym own.read i })

-- where a splice leads, told of the sheet that is found
pub record Made (s : Splice) (book : List SheetEntry) (e : SheetEntry) : Type 0 where
  pub after : after_splice s book ≡ book_changed (spliced_entry s e) book
  pub back : back_splice s book ≡ back_in s e
  pub there : entry_of s.sheet (book_changed (spliced_entry s e) book) ≡ Some (spliced_entry s e)

pub made : (s : Splice) (book : List SheetEntry) (e : SheetEntry) → entry_of s.sheet book ≡ Some e → Made s book e
made s book e found =
    let id = entry_id s.sheet book e found in
    record {
      after = ap (after_by s book) found;
      back = ap (back_by s) found;
      there = ap (λ (k : ℕ). entry_of k (book_changed (spliced_entry s e) book)) (sym id)
          ∙ entry_changed (spliced_entry s e) book (some_there (entry_of e.id book) e (entry_again s.sheet book e found));
    }

pub fits_splice : (s : Splice) (book : List SheetEntry) → TakesSplice s book → FitsSplice s book
fits_splice s book t = subst (λ (o : Option SheetEntry). IsSomeAnd o (FitsIn s)) (sym t.found) t.fits

pub takes_back : (s : Splice) (book : List SheetEntry) → TakesSplice s book → TakesSplice (back_splice s book) (after_splice s book)
takes_back s book t =
    let e = t.sheet in
    let m = made s book e t.found in
    let r = t.fits.is in
    let k = edges e.text s.text s.start s.end t.stored.utf8 t.text r in
    let old = text_back e.text s.text s.start s.end r.order r.back.0 in
    let own : TakesSplice (back_in s e) (book_changed (spliced_entry s e) book) = record {
      sheet = spliced_entry s e;
      found = m.there;
      stored = record {
        entry = record { read = refl; some = t.stored.entry.some; id = t.stored.entry.id; short = t.fits.short };
        utf8 = k.utf8;
      };
      fits = record { is = k.is; short = subst (λ (text : List ℕ). length text ≤ 2 ^ 24) (sym old) t.stored.entry.short };
      text = k.taken;
    } in
    subst (TakesSplice (back_splice s book)) (sym m.after)
    (subst (λ (x : Splice). TakesSplice x (book_changed (spliced_entry s e) book)) (sym m.back) own)

pub leads_back : (s : Splice) (book : List SheetEntry) → TakesSplice s book → after_splice (back_splice s book) (after_splice s book) ≡ book
leads_back s book t =
    let e = t.sheet in
    let m = made s book e t.found in
    let new = spliced_entry s e in
    (λ i. after_splice (m.back i) (m.after i))
    ∙ ap (after_by (back_in s e) (book_changed new book)) m.there
    ∙ ap (λ (x : SheetEntry). book_changed x (book_changed new book)) (entry_back s e t.stored.entry t.fits.is)
    ∙ changed_back e new book refl (entry_again s.sheet book e t.found)

pub back_back : (s : Splice) (book : List SheetEntry) → TakesSplice s book → back_splice (back_splice s book) (after_splice s book) ≡ s
back_back s book t =
    let e = t.sheet in
    let m = made s book e t.found in
    let new = spliced_entry s e in
    let r = t.fits.is in
    let p = parts e.text s.start s.end r.order r.back.0 in
    let text = again e.text s.text s.start s.end r.order r.back.0 in
    (λ i. back_splice (m.back i) (m.after i))
    ∙ ap (back_by (back_in s e)) m.there
    ∙ (λ i. record { sheet = s.sheet; start = s.start; end = p.middle i; text = text i })

-- a book's entries are still such
changed_stored : (new : SheetEntry) (book : List SheetEntry) → IsStored new → All IsStored book → All IsStored (book_changed new book)
changed_stored new [] own all = All-nil IsStored
changed_stored new (x ∷ book) own all = by (nat_eq new.id x.id) (All-head IsStored x book all) (All-tail IsStored x book all)
    (changed_stored new book own (All-tail IsStored x book all))
  where
    by : (b : Bool) → IsStored x → All IsStored book → All IsStored (book_changed new book)
        → All IsStored (cond b (new ∷ book) (x ∷ book_changed new book))
    by true first others rest = All-cons IsStored new book own others
    by false first others rest = All-cons IsStored x (book_changed new book) first rest

pub stored_after : (s : Splice) (book : List SheetEntry) → TakesSplice s book → All IsStored book → All IsStored (after_splice s book)
stored_after s book t all =
    let e = t.sheet in
    let k = edges e.text s.text s.start s.end t.stored.utf8 t.text t.fits.is in
    let new : IsStored (spliced_entry s e) = record {
      entry = record {
        read = refl;
        some = t.stored.entry.some;
        id = t.stored.entry.id;
        short = t.fits.short;
      };
      utf8 = k.utf8;
    } in
    let m = made s book e t.found in
    subst (All IsStored) (sym m.after) (changed_stored (spliced_entry s e) book new all)
