-- Known sheets as their map has them.
use Rattle.std.proofs.Common.{◌≡◌, ℕ, zero, suc, ◌≤◌, ◌==◌, ◌||◌, Bool, true, false, cond, nat_eq, List, [], ◌∷◌, ◌++◌, length, Option}
use Rattle.std.proofs.Common.{Some, None, is_some, refl, sym, ap, ◌∙◌, arith}
use Rattle.std.specs.Prelude.{slice_get, option_map}
use Rattle.std.specs.Cmp.{nat_eq_equiv}
use Rattle.std.specs.Map.{lookup, remove_entry, set_value}
use Rattle.std.proofs.lemmas.Bool.{eqb-true}
use Rattle.indexmap.specs.IndexMap.{insert_entry}
use Rattle.front_mirror.specs.declared.sheets.KnownSheet.{KnownSheet}
use Rattle.front_mirror.specs.Sheets.{sheets_in, AreNumbered, has_sheet, sheet_changed_at, without_sheet}

-- the entries of a map
abbrev pub Entries : Type 0
Entries = List (ℕ × KnownSheet)

-- ---- what stays the same on both sides

-- an entry's key is its sheet's number
asked : (n : ℕ) (p : ℕ × KnownSheet) → p.0 ≡ p.1.number → nat_eq n p.0 ≡ (p.1.number == n)
asked n p own = ap (nat_eq n) own ∙ nat_eq_equiv.symm n p.1.number

-- as many sheets as entries
pub sheets_len : (es : Entries) → length (sheets_in es) ≡ length es
sheets_len [] = refl
sheets_len (p ∷ es) = ap (λ (n : ℕ). suc n) (sheets_len es)

-- the sheet at a place
pub sheets_get : (es : Entries) (i : ℕ) (p : ℕ × KnownSheet) → slice_get es i ≡ Some p → slice_get (sheets_in es) i ≡ Some p.1
sheets_get [] i p e = absurd (cc)
sheets_get (q ∷ es) zero p e = ap (λ (o : Option (ℕ × KnownSheet)). option_map (λ x. x.1) o) e
sheets_get (q ∷ es) (suc i) p e = sheets_get es i p e

-- no sheet at a place behind the last
pub sheets_none : (es : Entries) (i : ℕ) → slice_get es i ≡ None → length (sheets_in es) ≤ i
sheets_none [] i e = omega arith
sheets_none (q ∷ es) zero e = absurd (cc)
sheets_none (q ∷ es) (suc i) e = omega (arith, sheets_none es i e)

-- a key stands in the map just where a sheet has the number
pub has_in : (n : ℕ) (es : Entries) → AreNumbered es → is_some (lookup (nat_eq n) es) ≡ has_sheet n (sheets_in es)
has_in n [] own = refl
has_in n (p ∷ es) own =
    ap (λ (b : Bool). is_some (cond b (Some p.1) (lookup (nat_eq n) es))) (asked n p own.0) ∙ by (p.1.number == n) (has_in n es own.1)
  where
    by : (b : Bool) → is_some (lookup (nat_eq n) es) ≡ has_sheet n (sheets_in es)
        → is_some (cond b (Some p.1) (lookup (nat_eq n) es)) ≡ (b || has_sheet n (sheets_in es))
    by true rest = refl
    by false rest = rest

-- ---- a sheet less

-- the entry of a key is taken out
pub without_in : (n : ℕ) (es : Entries) → AreNumbered es → sheets_in (remove_entry (nat_eq n) es) ≡ without_sheet n (sheets_in es)
without_in n [] own = refl
without_in n (p ∷ es) own =
    ap (λ (b : Bool). sheets_in (cond b es (p ∷ remove_entry (nat_eq n) es))) (asked n p own.0) ∙ by (p.1.number == n)
    (without_in n es own.1)
  where
    by : (b : Bool) → sheets_in (remove_entry (nat_eq n) es) ≡ without_sheet n (sheets_in es)
        → sheets_in (cond b es (p ∷ remove_entry (nat_eq n) es)) ≡ cond b (sheets_in es) (p.1 ∷ without_sheet n (sheets_in es))
    by true rest = refl
    by false rest = ap (λ (xs : List KnownSheet). p.1 ∷ xs) rest

-- and the others stand under their own numbers
pub without_numbered : (n : ℕ) (es : Entries) → AreNumbered es → AreNumbered (remove_entry (nat_eq n) es)
without_numbered n [] own = tt
without_numbered n (p ∷ es) own = by (nat_eq n p.0) (without_numbered n es own.1)
  where
    by : (b : Bool) → AreNumbered (remove_entry (nat_eq n) es) → AreNumbered (cond b es (p ∷ remove_entry (nat_eq n) es))
    by true rest = own.1
    by false rest = (own.0, rest)

-- ---- a sheet more

-- a sheet whose number none has goes last
pub put_in : (s : KnownSheet) (es : Entries) → AreNumbered es → has_sheet s.number (sheets_in es) ≡ false
    → sheets_in (insert_entry nat_eq es s.number s) ≡ sheets_in es ++ s ∷ []
put_in s [] own fresh = refl
put_in s (p ∷ es) own fresh =
    ap (λ (b : Bool). sheets_in (cond b ((p.0, s) ∷ es) (p ∷ insert_entry nat_eq es s.number s))) (asked s.number p own.0)
    ∙ by (p.1.number == s.number) fresh (put_in s es own.1)
  where
    by : (b : Bool) → (b || has_sheet s.number (sheets_in es)) ≡ false
        → (has_sheet s.number (sheets_in es) ≡ false → sheets_in (insert_entry nat_eq es s.number s) ≡ sheets_in es ++ s ∷ [])
        → sheets_in (cond b ((p.0, s) ∷ es) (p ∷ insert_entry nat_eq es s.number s)) ≡ p.1 ∷ (sheets_in es ++ s ∷ [])
    by true none rest = absurd (cc)
    by false none rest = ap (λ (xs : List KnownSheet). p.1 ∷ xs) (rest none)

-- and stands under its own number
pub put_numbered : (s : KnownSheet) (es : Entries) → AreNumbered es → AreNumbered (insert_entry nat_eq es s.number s)
put_numbered s [] own = (refl, tt)
put_numbered s (p ∷ es) own = by (nat_eq s.number p.0) refl (put_numbered s es own.1)
  where
    by : (b : Bool) → nat_eq s.number p.0 ≡ b → AreNumbered (insert_entry nat_eq es s.number s)
        → AreNumbered (cond b ((p.0, s) ∷ es) (p ∷ insert_entry nat_eq es s.number s))
    by true e rest = (sym (eqb-true s.number p.0 e), own.1)
    by false e rest = (own.0, rest)

-- ---- a sheet changed in its place

-- one sheet is found
some_same : (s old : KnownSheet) → Some s ≡ Some old → s ≡ old
some_same s old e = cc

-- the sheet of a key becomes what the change makes of it
pub changed_in : (change : KnownSheet → KnownSheet) (n : ℕ) (es : Entries) (old new : KnownSheet) → AreNumbered es
    → lookup (nat_eq n) es ≡ Some old → new ≡ change old
    → sheets_in (set_value (nat_eq n) es new) ≡ sheet_changed_at change n (sheets_in es)
changed_in change n [] old new own found is = refl
changed_in change n (p ∷ es) old new own found is =
    ap (λ (b : Bool). sheets_in (cond b ((p.0, new) ∷ es) (p ∷ set_value (nat_eq n) es new))) (asked n p own.0)
    ∙ by (p.1.number == n) (sym (ap (λ (b : Bool). cond b (Some p.1) (lookup (nat_eq n) es)) (asked n p own.0)) ∙ found)
    (λ later. changed_in change n es old new own.1 later is)
  where
    by : (b : Bool) → cond b (Some p.1) (lookup (nat_eq n) es) ≡ Some old
        → (lookup (nat_eq n) es ≡ Some old → sheets_in (set_value (nat_eq n) es new) ≡ sheet_changed_at change n (sheets_in es))
        → sheets_in (cond b ((p.0, new) ∷ es) (p ∷ set_value (nat_eq n) es new))
        ≡ cond b (change p.1 ∷ sheets_in es) (p.1 ∷ sheet_changed_at change n (sheets_in es))
    by true at rest = ap (λ (s : KnownSheet). s ∷ sheets_in es) (is ∙ ap change (sym (some_same p.1 old at)))
    by false at rest = ap (λ (xs : List KnownSheet). p.1 ∷ xs) (rest at)

-- and stays under its own number, which the change keeps
pub changed_numbered : (n : ℕ) (es : Entries) (old new : KnownSheet) → AreNumbered es → lookup (nat_eq n) es ≡ Some old
    → new.number ≡ old.number → AreNumbered (set_value (nat_eq n) es new)
changed_numbered n [] old new own found same = tt
changed_numbered n (p ∷ es) old new own found same = by (nat_eq n p.0) found (λ later. changed_numbered n es old new own.1 later same)
  where
    by : (b : Bool) → cond b (Some p.1) (lookup (nat_eq n) es) ≡ Some old
        → (lookup (nat_eq n) es ≡ Some old → AreNumbered (set_value (nat_eq n) es new))
        → AreNumbered (cond b ((p.0, new) ∷ es) (p ∷ set_value (nat_eq n) es new))
    by true at rest = (own.0 ∙ ap (λ (s : KnownSheet). s.number) (some_same p.1 old at) ∙ sym same, own.1)
    by false at rest = (own.0, rest at)

-- no sheet has the number, so none changes
pub unchanged_in : (change : KnownSheet → KnownSheet) (n : ℕ) (es : Entries) → AreNumbered es → lookup (nat_eq n) es ≡ None
    → sheets_in es ≡ sheet_changed_at change n (sheets_in es)
unchanged_in change n [] own found = refl
unchanged_in change n (p ∷ es) own found =
    by (p.1.number == n) (sym (ap (λ (b : Bool). cond b (Some p.1) (lookup (nat_eq n) es)) (asked n p own.0)) ∙ found)
    (λ later. unchanged_in change n es own.1 later)
  where
    by : (b : Bool) → cond b (Some p.1) (lookup (nat_eq n) es) ≡ None
        → (lookup (nat_eq n) es ≡ None → sheets_in es ≡ sheet_changed_at change n (sheets_in es))
        → p.1 ∷ sheets_in es ≡ cond b (change p.1 ∷ sheets_in es) (p.1 ∷ sheet_changed_at change n (sheets_in es))
    by true none rest = absurd (cc)
    by false none rest = ap (λ (xs : List KnownSheet). p.1 ∷ xs) (rest none)
