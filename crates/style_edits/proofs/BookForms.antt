-- Entries that take each other's places in a book.
use Rattle.std.proofs.Common.{eq-eqb, ◌≡◌, ℕ, Bool, true, false, cond, nat_eq, List, [], ◌∷◌, ◌++◌, All, Option, Some, None, refl, sym, ap}
use Rattle.std.proofs.Common.{subst, ◌∙◌, ◌||◌}
use Rattle.std.specs.Prelude.{IsSome, option_to_list}
use Rattle.std.specs.List.{list_any}
use Rattle.std.proofs.lemmas.Bool.{eqb-true}
use Rattle.std.proofs.lemmas.List.Elements.{All-weaker, All-pop}
use Rattle.sheet_reader.specs.declared.book.SheetEntry.{SheetEntry}
use Rattle.sheet_reader.specs.Books.{entry_of, book_changed, removed}
use Rattle.style_edits.specs.Drafts.{IsOld, olds_restored}

same_nat : (n : ℕ) → nat_eq n n ≡ true
same_nat n = eq-eqb n n refl

none_some : (x : SheetEntry) → None ≡ Some x → ⊥
none_some x e = cc

pub entry_id : (id : ℕ) (es : List SheetEntry) (e : SheetEntry) → entry_of id es ≡ Some e → e.id ≡ id
entry_id id [] e h = absurd (none_some e h)
entry_id id (x ∷ es) e h = by (nat_eq id x.id) refl h (λ k. entry_id id es e k)
  where
    by : (b : Bool) → nat_eq id x.id ≡ b → cond b (Some x) (entry_of id es) ≡ Some e → (entry_of id es ≡ Some e → e.id ≡ id) → e.id ≡ id
    by true is k rest = let same : x ≡ e = cc in ap (λ (y : SheetEntry). y.id) (sym same) ∙ sym (eqb-true id x.id is)
    by false is k rest = rest k

pub entry_again : (id : ℕ) (es : List SheetEntry) (e : SheetEntry) → entry_of id es ≡ Some e → entry_of e.id es ≡ Some e
entry_again id es e h = ap (λ (k : ℕ). entry_of k es) (entry_id id es e h) ∙ h

pub some_there : (o : Option SheetEntry) (e : SheetEntry) → o ≡ Some e → IsSome o
some_there o e h = subst (λ (x : Option SheetEntry). IsSome x) (sym h) refl

-- ids stay
pub changed_there : (new : SheetEntry) (k : ℕ) (es : List SheetEntry) → IsSome (entry_of k es) → IsSome (entry_of k (book_changed new es))
changed_there new k [] there = there
changed_there new k (x ∷ es) there = by (nat_eq new.id x.id) refl there (changed_there new k es)
  where
    keep : (c : Bool) → IsSome (cond c (Some x) (entry_of k es)) → (IsSome (entry_of k es) → IsSome (entry_of k (book_changed new es)))
        → IsSome (cond c (Some x) (entry_of k (book_changed new es)))
    keep true there rest = refl
    keep false there rest = rest there

    own : (c : Bool) → IsSome (cond c (Some x) (entry_of k es)) → IsSome (cond c (Some new) (entry_of k es))
    own true there = refl
    own false there = there

    by : (b : Bool) → nat_eq new.id x.id ≡ b → IsSome (cond (nat_eq k x.id) (Some x) (entry_of k es))
        → (IsSome (entry_of k es) → IsSome (entry_of k (book_changed new es)))
        → IsSome (entry_of k (cond b (new ∷ es) (x ∷ book_changed new es)))
    by true is there rest =
        let same : new.id ≡ x.id = eqb-true new.id x.id is in
        own (nat_eq k new.id) (subst (λ (n : ℕ). IsSome (cond (nat_eq k n) (Some x) (entry_of k es))) (sym same) there)
    by false is there rest = keep (nat_eq k x.id) there rest

-- an entry in the place of another, and that one back
pub changed_back : (old new : SheetEntry) (es : List SheetEntry) → new.id ≡ old.id → entry_of old.id es ≡ Some old
    → book_changed old (book_changed new es) ≡ es
changed_back old new [] same there = refl
changed_back old new (x ∷ es) same there =
    ap (λ (n : ℕ). book_changed old (cond (nat_eq n x.id) (new ∷ es) (x ∷ book_changed new es))) same ∙ by (nat_eq old.id x.id) refl there
    (changed_back old new es same)
  where
    self : nat_eq old.id old.id ≡ true
    self = same_nat old.id

    by : (b : Bool) → nat_eq old.id x.id ≡ b → cond b (Some x) (entry_of old.id es) ≡ Some old
        → (entry_of old.id es ≡ Some old → book_changed old (book_changed new es) ≡ es)
        → book_changed old (cond b (new ∷ es) (x ∷ book_changed new es)) ≡ x ∷ es
    by true is here rest =
        let own : x ≡ old = cc in
        ap (λ (n : ℕ). cond (nat_eq old.id n) (old ∷ es) (new ∷ book_changed old es)) same
        ∙ ap (λ (c : Bool). cond c (old ∷ es) (new ∷ book_changed old es)) self
        ∙ ap (λ (e : SheetEntry). e ∷ es) (sym own)
    by false is here rest =
        ap (λ (c : Bool). cond c (old ∷ book_changed new es) (x ∷ book_changed old (book_changed new es))) is ∙ ap
        (λ (xs : List SheetEntry). x ∷ xs) (rest here)

pub entry_changed : (new : SheetEntry) (es : List SheetEntry) → IsSome (entry_of new.id es)
    → entry_of new.id (book_changed new es) ≡ Some new
entry_changed new [] there = absurd (cc)
entry_changed new (x ∷ es) there = by (nat_eq new.id x.id) refl there (entry_changed new es)
  where
    by : (b : Bool) → nat_eq new.id x.id ≡ b → IsSome (cond b (Some x) (entry_of new.id es))
        → (IsSome (entry_of new.id es) → entry_of new.id (book_changed new es) ≡ Some new)
        → entry_of new.id (cond b (new ∷ es) (x ∷ book_changed new es)) ≡ Some new
    by true is there rest = ap (λ (c : Bool). cond c (Some new) (entry_of new.id es)) (same_nat new.id)
    by false is there rest = ap (λ (c : Bool). cond c (Some x) (entry_of new.id (book_changed new es))) is ∙ rest there

pub removed_none : (id : ℕ) (es : List SheetEntry) → entry_of id es ≡ None → removed id es ≡ es
removed_none id [] none = refl
removed_none id (x ∷ es) none = by (nat_eq id x.id) none (removed_none id es)
  where
    by : (b : Bool) → cond b (Some x) (entry_of id es) ≡ None → (entry_of id es ≡ None → removed id es ≡ es)
        → cond b es (x ∷ removed id es) ≡ x ∷ es
    by true none rest = absurd (none_some x (sym none))
    by false none rest = ap (λ (xs : List SheetEntry). x ∷ xs) (rest none)

-- ---- old entries

pub restored_push : (olds : List SheetEntry) (old : SheetEntry) (book : List SheetEntry)
    → olds_restored (olds ++ old ∷ []) book ≡ olds_restored olds (book_changed old book)
restored_push [] old book = refl
restored_push (x ∷ olds) old book = ap (book_changed x) (restored_push olds old book)

pub olds_stay : (new : SheetEntry) (book olds : List SheetEntry) → All (IsOld book) olds → All (IsOld (book_changed new book)) olds
olds_stay new book olds all = All-weaker (IsOld book) (IsOld (book_changed new book))
    (λ e h. record { entry = h.entry; there = changed_there new e.id book h.there }) olds all

-- the last old entry goes back
pub olds_popped : (olds rest : List SheetEntry) (old : SheetEntry) (book : List SheetEntry) → olds ≡ rest ++ option_to_list (Some old)
    → All (IsOld book) olds → All (IsOld book) rest × IsOld book old
olds_popped olds rest old book is all = All-pop (IsOld book) olds rest (Some old) is all

pub one_restored : (olds rest : List SheetEntry) (old : SheetEntry) (book next total : List SheetEntry)
    → olds ≡ rest ++ option_to_list (Some old) → next ≡ book_changed old book → olds_restored olds book ≡ total
    → olds_restored rest next ≡ total
one_restored olds rest old book next total is new so_far = ap (olds_restored rest) new ∙ sym (restored_push rest old book) ∙ ap
    (λ (xs : List SheetEntry). olds_restored xs book) (sym is) ∙ so_far

-- ---- a sheet that is kept already

-- an entry in the place of one that took the place of another with its id
pub changed_over : (old new : SheetEntry) (es : List SheetEntry) → new.id ≡ old.id
    → book_changed old (book_changed new es) ≡ book_changed old es
changed_over old new [] same = refl
changed_over old new (x ∷ es) same =
    ap (λ (n : ℕ). book_changed old (cond (nat_eq n x.id) (new ∷ es) (x ∷ book_changed new es))) same ∙ by (nat_eq old.id x.id) refl
    (changed_over old new es same)
  where
    by : (b : Bool) → nat_eq old.id x.id ≡ b → book_changed old (book_changed new es) ≡ book_changed old es
        → book_changed old (cond b (new ∷ es) (x ∷ book_changed new es)) ≡ cond b (old ∷ es) (x ∷ book_changed old es)
    by true is rest =
        ap (λ (n : ℕ). cond (nat_eq old.id n) (old ∷ es) (new ∷ book_changed old es)) same
        ∙ ap (λ (c : Bool). cond c (old ∷ es) (new ∷ book_changed old es)) (same_nat old.id)
    by false is rest =
        ap (λ (c : Bool). cond c (old ∷ book_changed new es) (x ∷ book_changed old (book_changed new es))) is ∙ ap
        (λ (xs : List SheetEntry). x ∷ xs) rest

-- two entries with different ids take their places in either order
changed_apart : (a b : SheetEntry) (es : List SheetEntry) → nat_eq a.id b.id ≡ false
    → book_changed a (book_changed b es) ≡ book_changed b (book_changed a es)
changed_apart a b [] apart = refl
changed_apart a b (x ∷ es) apart = by (nat_eq a.id x.id) (nat_eq b.id x.id) refl refl (changed_apart a b es apart)
  where
    by : (p q : Bool) → nat_eq a.id x.id ≡ p → nat_eq b.id x.id ≡ q
        → book_changed a (book_changed b es) ≡ book_changed b (book_changed a es)
        → book_changed a (cond q (b ∷ es) (x ∷ book_changed b es)) ≡ book_changed b (cond p (a ∷ es) (x ∷ book_changed a es))
    by true true ax bx rest =
        let both : nat_eq a.id b.id ≡ true = eq-eqb a.id b.id (eqb-true a.id x.id ax ∙ sym (eqb-true b.id x.id bx)) in absurd (cc)
    by true false ax bx rest =
        let ba : nat_eq b.id a.id ≡ false = ap (nat_eq b.id) (eqb-true a.id x.id ax) ∙ bx in
        ap (λ (c : Bool). cond c (a ∷ book_changed b es) (x ∷ book_changed a (book_changed b es))) ax
        ∙ sym (ap (λ (c : Bool). cond c (b ∷ es) (a ∷ book_changed b es)) ba)
    by false true ax bx rest =
        ap (λ (c : Bool). cond c (a ∷ es) (b ∷ book_changed a es)) apart
        ∙ sym (ap (λ (c : Bool). cond c (b ∷ book_changed a es) (x ∷ book_changed b (book_changed a es))) bx)
    by false false ax bx rest =
        ap (λ (c : Bool). cond c (a ∷ book_changed b es) (x ∷ book_changed a (book_changed b es))) ax
        ∙ ap (λ (xs : List SheetEntry). x ∷ xs) rest
        ∙ sym (ap (λ (c : Bool). cond c (b ∷ book_changed a es) (x ∷ book_changed b (book_changed a es))) bx)

-- under an entry with its id, what was changed below does not show
changed_under : (top new : SheetEntry) (olds book : List SheetEntry) → new.id ≡ top.id
    → book_changed top (olds_restored olds (book_changed new book)) ≡ book_changed top (olds_restored olds book)
changed_under top new [] book same = changed_over top new book same
changed_under top new (o ∷ olds) book same = by (nat_eq top.id o.id) refl (changed_under top new olds book same)
  where
    by : (b : Bool) → nat_eq top.id o.id ≡ b
        → book_changed top (olds_restored olds (book_changed new book)) ≡ book_changed top (olds_restored olds book)
        → book_changed top (book_changed o (olds_restored olds (book_changed new book)))
        ≡ book_changed top (book_changed o (olds_restored olds book))
    by true is rest =
        let one : o.id ≡ top.id = sym (eqb-true top.id o.id is) in
        changed_over top o (olds_restored olds (book_changed new book)) one ∙ rest ∙ sym (changed_over top o (olds_restored olds book) one)
    by false is rest =
        changed_apart top o (olds_restored olds (book_changed new book)) is ∙ ap (book_changed o) rest
        ∙ sym (changed_apart top o (olds_restored olds book) is)

-- where a sheet with the id is kept, another change of it is taken back with the first
pub kept_restored : (new : SheetEntry) (book next olds : List SheetEntry) → list_any (λ old. nat_eq old.id new.id) olds ≡ true
    → next ≡ book_changed new book → olds_restored olds next ≡ olds_restored olds book
kept_restored new book next olds kept is = ap (olds_restored olds) is ∙ each olds kept
  where
    each : (olds : List SheetEntry) → list_any (λ old. nat_eq old.id new.id) olds ≡ true
        → olds_restored olds (book_changed new book) ≡ olds_restored olds book
    each [] none = absurd (cc)
    each (o ∷ olds) some = by (nat_eq o.id new.id) refl some (each olds)
      where
        by : (b : Bool) → nat_eq o.id new.id ≡ b → (b || list_any (λ old. nat_eq old.id new.id) olds) ≡ true
            → (list_any (λ old. nat_eq old.id new.id) olds ≡ true → olds_restored olds (book_changed new book) ≡ olds_restored olds book)
            → book_changed o (olds_restored olds (book_changed new book)) ≡ book_changed o (olds_restored olds book)
        by true same some more = changed_under o new olds book (sym (eqb-true o.id new.id same))
        by false same some more = ap (book_changed o) (more some)
