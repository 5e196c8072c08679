-- What the code made of a splice is what the splice comes to.
use Rattle.std.proofs.Common.{◌≡◌, inl, inr, ℕ, Bool, true, false, cond, nat_eq, List, [], ◌∷◌, All, Option, Some, Result, Ok}
use Rattle.std.proofs.Common.{refl, sym, ap, subst, ◌∙◌}
use Rattle.std.specs.Prelude.{IfSome, IsSomeAnd}
use Rattle.std.specs.List.{list_any}
use Rattle.std.proofs.lemmas.List.Elements.{All-push}
use Rattle.sheet_reader.specs.declared.book.SheetEntry.{SheetEntry}
use Rattle.sheet_reader.specs.Books.{IsEntry, entry_of, book_changed}
use Rattle.sheet_reader.specs.Forms.{range}
use Rattle.style_edits.specs.declared.drafts.Draft.{Draft}
use Rattle.style_edits.specs.declared.faults.SheetFault.{SheetFault}
use Rattle.style_edits.specs.declared.splice.Splice.{Splice}
use Rattle.style_edits.specs.Splices.{with_text, after_by, after_splice, back_by, back_splice}
use Rattle.style_edits.specs.Edits.{Found, splice_at, found_by, edited}
use Rattle.style_edits.specs.Drafts.{IsDraft, IsToldBy, Keeps, IsOld, olds_restored}
use Rattle.style_edits.proofs.BookForms.{entry_id, entry_again, some_there, olds_stay, restored_push, kept_restored}

-- what is known of the sheet of a draft is known of the sheet that the draft was made from
by_sheet : (P : SheetEntry → Type 0) (book : List SheetEntry) (e : SheetEntry) (d : Draft) → entry_of e.id book ≡ Some e → d.id ≡ e.id
    → IfSome (entry_of d.id book) P → P e
by_sheet P book e d there id holds =
    subst (λ (o : Option SheetEntry). IfSome o P) (ap (λ (k : ℕ). entry_of k book) id ∙ there) holds

-- a draft can be put into the book
pub draft_there : (book : List SheetEntry) (e : SheetEntry) (d : Draft) → entry_of e.id book ≡ Some e → d.id ≡ e.id → IsToldBy e d
    → IsSomeAnd (entry_of d.id book) (λ x. IsToldBy x d)
draft_there book e d there id tells =
    subst (λ (o : Option SheetEntry). IsSomeAnd o (λ x. IsToldBy x d)) (sym (ap (λ (k : ℕ). entry_of k book) id ∙ there)) tells

-- the book after that
pub draft_next : (book next : List SheetEntry) (e : SheetEntry) (d : Draft) → entry_of e.id book ≡ Some e → d.id ≡ e.id
    → IfSome (entry_of d.id book) (λ x. next ≡ book_changed (with_text x d.text) book) → next ≡ book_changed (with_text e d.text) book
draft_next book next e d there id changed = by_sheet (λ x. next ≡ book_changed (with_text x d.text) book) book e d there id changed

-- it is what was found
pub draft_done : (book next : List SheetEntry) (e : SheetEntry) (found : Found) (d : Draft) (back : Splice) → entry_of e.id book ≡ Some e
    → IsDraft e found d → IfSome (entry_of d.id book) (λ x. next ≡ book_changed (with_text x d.text) book) → back ≡ d.back
    → edited book found ≡ Ok (next, back)
draft_done book next e found d back there is changed back_is =
    let s = is.splice in
    let here : entry_of s.sheet book ≡ Some e = ap (λ (k : ℕ). entry_of k book) is.sheet ∙ there in
    let next_ends : next ≡ after_splice s book =
    draft_next book next e d there is.id changed ∙ ap (λ (t : List ℕ). book_changed (with_text e t) book) is.text
    ∙ sym (ap (after_by s book) here) in
    let back_ends : back ≡ back_splice s book = back_is ∙ is.back ∙ sym (ap (back_by s) here) in
    ap (edited book) is.is ∙ sym (λ i. Ok (next_ends i, back_ends i))

-- the same of the sheet that a client may edit
pub client_done : (edit : SheetEntry → Found) (client : Result SheetEntry SheetFault) (book next : List SheetEntry) (e : SheetEntry)
    (d : Draft)
    (back : Splice) → client ≡ Ok e → entry_of e.id book ≡ Some e → IsDraft e (edit e) d
    → IfSome (entry_of d.id book) (λ x. next ≡ book_changed (with_text x d.text) book) → back ≡ d.back
    → edited book (found_by edit client) ≡ Ok (next, back)
client_done edit client book next e d back is there drafted changed back_is =
    ap (λ (r : Result SheetEntry SheetFault). edited book (found_by edit r)) is
    ∙ draft_done book next e (edit e) d back there drafted changed back_is

-- a splice that is made
pub put_done : (s : Splice) (book next : List SheetEntry) (e : SheetEntry) (text : List ℕ) (d : Draft) (back : Splice)
    → entry_of s.sheet book ≡ Some e → text ≡ s.text → IsDraft e (Ok (splice_at e (range s.start s.end) text)) d
    → IfSome (entry_of d.id book) (λ x. next ≡ book_changed (with_text x d.text) book) → back ≡ d.back
    → (next ≡ after_splice s book) × (back ≡ back_splice s book)
put_done s book next e text d back found same drafted changed back_is =
    let id = entry_id s.sheet book e found in
    let one : splice_at e (range s.start s.end) text ≡ s =
    λ i. record { sheet = id i; start = s.start; end = s.end; text = same i } in
    let done : edited book (Ok s) ≡ Ok (next, back) =
    ap (λ (x : Splice). edited book (Ok x)) (sym one)
    ∙ draft_done book next e (Ok (splice_at e (range s.start s.end) text))
    d back (entry_again s.sheet book e found) drafted changed back_is in
    let both : ◌≡◌ {A = List SheetEntry × Splice} (after_splice s book, back_splice s book) (next, back) = cc in
    (sym (ap (λ (p : List SheetEntry × Splice). p.0) both), sym (ap (λ (p : List SheetEntry × Splice). p.1) both))

-- ---- old sheets

-- a sheet in its own place
pub changed_self : (e : SheetEntry) (es : List SheetEntry) → entry_of e.id es ≡ Some e → book_changed e es ≡ es
changed_self e [] there = refl
changed_self e (x ∷ es) there = by (nat_eq e.id x.id) there (changed_self e es)
  where
    by : (b : Bool) → cond b (Some x) (entry_of e.id es) ≡ Some e → (entry_of e.id es ≡ Some e → book_changed e es ≡ es)
        → cond b (e ∷ es) (x ∷ book_changed e es) ≡ x ∷ es
    by true is rest = let same : x ≡ e = cc in ap (λ (y : SheetEntry). y ∷ es) (sym same)
    by false is rest = ap (λ (ys : List SheetEntry). x ∷ ys) (rest is)

-- a sheet that is kept may go back
pub kept_all : (book olds more : List SheetEntry) (e : SheetEntry) → IsEntry e → entry_of e.id book ≡ Some e → Keeps e olds more
    → All (IsOld book) olds → All (IsOld book) more
kept_all book olds more e entry there (inl same) all = subst (All (IsOld book)) (sym same) all
kept_all book olds more e entry there (inr pushed) all =
    subst (All (IsOld book)) (sym pushed)
    (All-push (IsOld book) olds e all (record { entry = entry; there = some_there (entry_of e.id book) e there }))

-- and it goes back to what stands there
pub kept_same : (book olds more : List SheetEntry) (e : SheetEntry) → entry_of e.id book ≡ Some e → Keeps e olds more
    → olds_restored more book ≡ olds_restored olds book
kept_same book olds more e there (inl same) = ap (λ (xs : List SheetEntry). olds_restored xs book) same
kept_same book olds more e there (inr pushed) =
    ap (λ (xs : List SheetEntry). olds_restored xs book) pushed ∙ restored_push olds e book
    ∙ ap (olds_restored olds) (changed_self e book there)
