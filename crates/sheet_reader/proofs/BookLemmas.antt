-- A book's entries as its map has them.
use Rattle.std.proofs.Common.{All, ◌≡◌, ℕ, zero, suc, ◌≤◌, Bool, true, false, cond, nat_eq, List, [], ◌∷◌, ◌++◌, length, Option, Some, None}
use Rattle.std.proofs.Common.{Bor, refl, sym, ap, subst, ◌∙◌, arith, eq-eqb}
use Rattle.std.specs.Prelude.{slice_get, option_map, option_copied, is_some, IfSome, IsSome, IsSomeAnd}
use Rattle.std.proofs.lemmas.Bool.{eqb-true}
use Rattle.std.specs.Str.{IsUtf8}
use Rattle.std.proofs.lemmas.List.Elements.{All-nil, All-cons}
use Rattle.std.specs.Map.{lookup, keys_of, remove_entry}
use Rattle.indexmap.specs.IndexMap.{insert_entry}
use Rattle.sheet_reader.specs.declared.book.SheetEntry.{SheetEntry}
use Rattle.sheet_reader.specs.declared.rereads.Rereading.{Rereading}
use Rattle.sheet_reader.specs.Books.{IsEntry, IsStored, entry_of, ids_of, book_changed, removed, entries_in, AreEntries}
use Rattle.sheet_reader.specs.Rereads.{CanRetell, retold}

abbrev pub Entries : Type 0
Entries = List (ℕ × SheetEntry)

pub entries_len : (es : Entries) → length (entries_in es) ≡ length es
entries_len [] = refl
entries_len (p ∷ ps) = ap (λ (n : ℕ). suc n) (entries_len ps)

pub entries_get : (es : Entries) (i : ℕ) (p : ℕ × SheetEntry) → slice_get es i ≡ Some p → slice_get (entries_in es) i ≡ Some p.1
entries_get [] i p e = absurd (cc)
entries_get (q ∷ es) zero p e = ap (λ (o : Option (ℕ × SheetEntry)). option_map (λ x. x.1) o) e
entries_get (q ∷ es) (suc i) p e = entries_get es i p e

pub entries_none : (es : Entries) (i : ℕ) → slice_get es i ≡ None → length (entries_in es) ≤ i
entries_none [] i e = omega arith
entries_none (q ∷ es) zero e = absurd (cc)
entries_none (q ∷ es) (suc i) e = omega (arith, entries_none es i e)

pub entries_at : (es : Entries) (i : ℕ) (p : ℕ × SheetEntry) → AreEntries es → slice_get es i ≡ Some p → IsStored p.1
entries_at [] i p all e = absurd (cc)
entries_at (q ∷ es) zero p all e = let same : q ≡ p = cc in subst (λ (x : ℕ × SheetEntry). IsStored x.1) same all.1
entries_at (q ∷ es) (suc i) p all e = entries_at es i p all.2 e

pub found : (id : ℕ) (es : Entries) → AreEntries es → lookup (nat_eq id) es ≡ entry_of id (entries_in es)
found id [] all = refl
found id (q ∷ es) all =
    ap (λ (k : ℕ). cond (nat_eq id k) (Some q.1) (lookup (nat_eq id) es)) all.0
    ∙ ap (λ (o : Option SheetEntry). cond (nat_eq id q.1.id) (Some q.1) o) (found id es all.2)

pub is_entry : (id : ℕ) (es : Entries) (e : SheetEntry) → AreEntries es → entry_of id (entries_in es) ≡ Some e → IsStored e
is_entry id [] e all h = absurd (cc)
is_entry id (q ∷ es) e all h = by (nat_eq id q.1.id) h (λ k. is_entry id es e all.2 k)
  where
    by : (b : Bool) → cond b (Some q.1) (entry_of id (entries_in es)) ≡ Some e → (entry_of id (entries_in es) ≡ Some e → IsStored e)
        → IsStored e
    by true k rest = let same : q.1 ≡ e = cc in subst IsStored same all.1
    by false k rest = rest k

pub keys_are : (es : Entries) → AreEntries es → keys_of es ≡ ids_of (entries_in es)
keys_are [] all = refl
keys_are (q ∷ es) all = ap (λ (k : ℕ). k ∷ keys_of es) all.0 ∙ ap (λ (ks : List ℕ). q.1.id ∷ ks) (keys_are es all.2)

pub removed_in : (id : ℕ) (es : Entries) → AreEntries es → entries_in (remove_entry (nat_eq id) es) ≡ removed id (entries_in es)
removed_in id [] all = refl
removed_in id (q ∷ es) all =
    ap (λ (k : ℕ). entries_in (cond (nat_eq id k) es (q ∷ remove_entry (nat_eq id) es))) all.0 ∙ by (nat_eq id q.1.id)
    (removed_in id es all.2)
  where
    by : (b : Bool) → entries_in (remove_entry (nat_eq id) es) ≡ removed id (entries_in es)
        → entries_in (cond b es (q ∷ remove_entry (nat_eq id) es)) ≡ cond b (entries_in es) (q.1 ∷ removed id (entries_in es))
    by true rest = refl
    by false rest = ap (λ (xs : List SheetEntry). q.1 ∷ xs) rest

pub removed_are : (id : ℕ) (es : Entries) → AreEntries es → AreEntries (remove_entry (nat_eq id) es)
removed_are id [] all = tt
removed_are id (q ∷ es) all = by (nat_eq id q.0) (removed_are id es all.2)
  where
    by : (b : Bool) → AreEntries (remove_entry (nat_eq id) es) → AreEntries (cond b es (q ∷ remove_entry (nat_eq id) es))
    by true rest = all.2
    by false rest = (all.0, all.1, rest)

pub inserted_are : (v : SheetEntry) (es : Entries) → IsStored v → AreEntries es → AreEntries (insert_entry nat_eq es v.id v)
inserted_are v [] own all = (refl, own, tt)
inserted_are v (q ∷ es) own all = by (nat_eq v.id q.0) refl (inserted_are v es own all.2)
  where
    by : (b : Bool) → nat_eq v.id q.0 ≡ b → AreEntries (insert_entry nat_eq es v.id v)
        → AreEntries (cond b ((q.0, v) ∷ es) (q ∷ insert_entry nat_eq es v.id v))
    by true e rest = (sym (eqb-true v.id q.0 e), own, all.2)
    by false e rest = (all.0, all.1, rest)

pub inserted_last : (v : SheetEntry) (es : Entries) → AreEntries es → entry_of v.id (entries_in es) ≡ None
    → entries_in (insert_entry nat_eq es v.id v) ≡ entries_in es ++ v ∷ []
inserted_last v [] all none = refl
inserted_last v (q ∷ es) all none =
    ap (λ (k : ℕ). entries_in (cond (nat_eq v.id k) ((q.0, v) ∷ es) (q ∷ insert_entry nat_eq es v.id v))) all.0 ∙ by
    (nat_eq v.id q.1.id) none (inserted_last v es all.2)
  where
    by : (b : Bool) → cond b (Some q.1) (entry_of v.id (entries_in es)) ≡ None
        → (entry_of v.id (entries_in es) ≡ None → entries_in (insert_entry nat_eq es v.id v) ≡ entries_in es ++ v ∷ [])
        → entries_in (cond b ((q.0, v) ∷ es) (q ∷ insert_entry nat_eq es v.id v)) ≡ q.1 ∷ (entries_in es ++ v ∷ [])
    by true none rest = absurd (cc)
    by false none rest = ap (λ (xs : List SheetEntry). q.1 ∷ xs) (rest none)

pub inserted_changed : (v : SheetEntry) (es : Entries) → AreEntries es → IsSome (entry_of v.id (entries_in es))
    → entries_in (insert_entry nat_eq es v.id v) ≡ book_changed v (entries_in es)
inserted_changed v [] all there = absurd (cc)
inserted_changed v (q ∷ es) all there =
    ap (λ (k : ℕ). entries_in (cond (nat_eq v.id k) ((q.0, v) ∷ es) (q ∷ insert_entry nat_eq es v.id v))) all.0 ∙ by
    (nat_eq v.id q.1.id) there (inserted_changed v es all.2)
  where
    by : (b : Bool) → IsSome (cond b (Some q.1) (entry_of v.id (entries_in es)))
        → (IsSome (entry_of v.id (entries_in es)) → entries_in (insert_entry nat_eq es v.id v) ≡ book_changed v (entries_in es))
        → entries_in (cond b ((q.0, v) ∷ es) (q ∷ insert_entry nat_eq es v.id v))
        ≡ cond b (v ∷ entries_in es) (q.1 ∷ book_changed v (entries_in es))
    by true there rest = refl
    by false there rest = ap (λ (xs : List SheetEntry). q.1 ∷ xs) (rest there)

pub read_copied : (id : ℕ) (es : Entries) (r : Option (Bor SheetEntry)) → AreEntries es → option_copied r ≡ entry_of id (entries_in es)
    → IfSome r (λ e. IsEntry e.now)
read_copied id es None all e = tt
read_copied id es (Some x) all e = let own = is_entry id es x.now all (sym e) in own.entry

pub missing : (o : Option SheetEntry) → o ≡ None → IsSome o → ⊥
missing None e there = absurd (cc)
missing (Some x) e there = absurd (cc)

-- an entry whose text is one that was read
pub stored : (e : SheetEntry) (text : List ℕ) → IsEntry e → text ≡ e.text → IsUtf8 text → IsStored e
stored e text own is utf8 = record { entry = own; utf8 = subst IsUtf8 is utf8 }

pub all_stored : (es : Entries) → AreEntries es → All IsStored (entries_in es)
all_stored [] all = All-nil IsStored
all_stored (p ∷ ps) all = All-cons IsStored p.1 (entries_in ps) all.1 (all_stored ps all.2)

-- what was put in under an id makes way for what is put in next
pub put_over : (id : ℕ) (v w : SheetEntry) (es : Entries)
    → insert_entry nat_eq (insert_entry nat_eq es id v) id w ≡ insert_entry nat_eq es id w
put_over id v w [] = ap (λ (b : Bool). cond b ((id, w) ∷ []) ((id, v) ∷ (id, w) ∷ [])) (eq-eqb id id refl)
put_over id v w (q ∷ es) = by (nat_eq id q.0) refl (put_over id v w es)
  where
    by : (b : Bool) → nat_eq id q.0 ≡ b → insert_entry nat_eq (insert_entry nat_eq es id v) id w ≡ insert_entry nat_eq es id w
        → insert_entry nat_eq (cond b ((q.0, v) ∷ es) (q ∷ insert_entry nat_eq es id v)) id w
        ≡ cond b ((q.0, w) ∷ es) (q ∷ insert_entry nat_eq es id w)
    by true e rest =
        ap (λ (b : Bool). cond b ((q.0, w) ∷ es) ((q.0, v) ∷ insert_entry nat_eq es id w)) e
    by false e rest =
        ap (λ (b : Bool). cond b ((q.0, w) ∷ insert_entry nat_eq es id v) (q ∷ insert_entry nat_eq (insert_entry nat_eq es id v) id w)) e
        ∙ ap (λ (xs : Entries). q ∷ xs) rest

-- what was put in under an id is found there
pub put_found : (id : ℕ) (v : SheetEntry) (es next : Entries) → next ≡ insert_entry nat_eq es id v → IsSome (lookup (nat_eq id) next)
put_found id v es next is = subst (λ (xs : Entries). IsSome (lookup (nat_eq id) xs)) (sym is) (own es)
  where
    own : (es : Entries) → IsSome (lookup (nat_eq id) (insert_entry nat_eq es id v))
    own [] = ap (λ (b : Bool). is_some (cond b (Some v) None)) (eq-eqb id id refl)
    own (q ∷ es) = by (nat_eq id q.0) refl (own es)
      where
        by : (b : Bool) → nat_eq id q.0 ≡ b → IsSome (lookup (nat_eq id) (insert_entry nat_eq es id v))
            → IsSome (lookup (nat_eq id) (cond b ((q.0, v) ∷ es) (q ∷ insert_entry nat_eq es id v)))
        by true e rest = ap (λ (b : Bool). is_some (cond b (Some v) (lookup (nat_eq id) es))) e
        by false e rest = ap (λ (b : Bool). is_some (cond b (Some q.1) (lookup (nat_eq id) (insert_entry nat_eq es id v)))) e ∙ rest

-- the sheet that is found in the map, of which this is known in the book
pub known : (P : SheetEntry → Type 0) (id : ℕ) (es : Entries) (e : SheetEntry) → AreEntries es
    → IsSomeAnd (entry_of id (entries_in es)) P → lookup (nat_eq id) es ≡ Some e
    → (entry_of id (entries_in es) ≡ Some e) × (e.id ≡ id) × IsEntry e × P e
known P id es e all there at =
    let own : entry_of id (entries_in es) ≡ Some e = sym (found id es all) ∙ at in
    let kept = is_entry id es e all own in
    (own, key es all at, kept.entry, subst (λ (o : Option SheetEntry). IsSomeAnd o P) own there)
  where
    key : (es : Entries) → AreEntries es → lookup (nat_eq id) es ≡ Some e → e.id ≡ id
    key [] all at = absurd (cc)
    key (q ∷ es) all at = by (nat_eq id q.0) refl at (λ k. key es all.2 k)
      where
        by : (b : Bool) → nat_eq id q.0 ≡ b → cond b (Some q.1) (lookup (nat_eq id) es) ≡ Some e
            → (lookup (nat_eq id) es ≡ Some e → e.id ≡ id) → e.id ≡ id
        by true is k rest = let same : q.1 ≡ e = cc in
            ap (λ (x : SheetEntry). x.id) (sym same) ∙ sym all.0 ∙ sym (eqb-true id q.0 is)
        by false is k rest = rest k

pub known_there : (P : SheetEntry → Type 0) (id : ℕ) (es : Entries) → AreEntries es → IsSomeAnd (entry_of id (entries_in es)) P
    → IsSome (lookup (nat_eq id) es)
known_there P id es all there = subst IsSome (sym (found id es all)) (some_is (entry_of id (entries_in es)) there)
  where
    some_is : (o : Option SheetEntry) → IsSomeAnd o P → IsSome o
    some_is None there = absurd there
    some_is (Some x) there = refl

pub if_found : (Q : SheetEntry → Type 0) (o : Option SheetEntry) (e : SheetEntry) → o ≡ Some e → Q e → IfSome o Q
if_found Q o e is holds = subst (λ (x : Option SheetEntry). IfSome x Q) (sym is) holds

-- a sheet that is taken out, and put back with another text
pub put_twice : (text : List ℕ) (plan : Rereading) (id : ℕ) (es one two : Entries) (empty old new : SheetEntry) → AreEntries es
    → IsSomeAnd (entry_of id (entries_in es)) (CanRetell text plan) → lookup (nat_eq id) es ≡ Some old
    → one ≡ insert_entry nat_eq es id empty → two ≡ insert_entry nat_eq one id new → new ≡ retold text old → IsStored new
    → AreEntries two × (entry_of id (entries_in es) ≡ Some old) × (entries_in two ≡ book_changed (retold text old) (entries_in es))
put_twice text plan id es one two empty old new all there at first second new_is own_stored =
    let own = known (CanRetell text plan) id es old all there at in
    let key : new.id ≡ id = ap (λ (x : SheetEntry). x.id) new_is ∙ own.1 in
    let is : two ≡ insert_entry nat_eq es new.id new =
    second ∙ ap (λ (xs : Entries). insert_entry nat_eq xs id new) first ∙ put_over id empty new es
    ∙ ap (λ (k : ℕ). insert_entry nat_eq es k new) (sym key) in
    let here : IsSome (entry_of new.id (entries_in es)) =
    subst (λ (k : ℕ). IsSome (entry_of k (entries_in es))) (sym key)
    (subst IsSome (sym own.0) refl) in (
      subst AreEntries (sym is) (inserted_are new es own_stored all),
      own.0,
      ap entries_in is ∙ inserted_changed new es all here ∙ ap (λ (x : SheetEntry). book_changed x (entries_in es)) new_is,
    )

-- what is asked of the sheet that was found
pub asked_of : (text : List ℕ) (plan : Rereading) (id : ℕ) (es : Entries) (book : List SheetEntry) (old : SheetEntry) → AreEntries es
    → entries_in es ≡ book → IsSomeAnd (entry_of id book) (CanRetell text plan) → lookup (nat_eq id) es ≡ Some old
    → CanRetell text plan old × IsEntry old
asked_of text plan id es book old all seen there at =
    let own = known (CanRetell text plan) id es old all
    (subst (λ (xs : List SheetEntry). IsSomeAnd (entry_of id xs) (CanRetell text plan)) (sym seen) there) at in
    (own.3, own.2)
