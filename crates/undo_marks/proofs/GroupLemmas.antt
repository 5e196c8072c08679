-- Groups on a stack.
use Rattle.std.proofs.Common.{◌≡◌, ◌≤◌, ℕ, zero, suc, ◌+◌, ◌*◌, List, [], ◌∷◌, ◌++◌, length, get_or, refl, sym, ap, Vec, arith}
use Rattle.std.specs.Prelude.{slice_set, Result, Ok, Err, OnErr}
use Rattle.std.specs.declared.alloc.Global.{Global}
use Rattle.std.proofs.lemmas.List.{length_push}
use Rattle.node_tree.specs.Numbers.{memory_limit}
use Rattle.undo_marks.specs.Marks.{entry_count}
use Rattle.undo_marks.specs.Groups.{groups_in}

-- what is put last is the newest
pub groups_in-push : {A : Type 0} (vs : List (Vec A Global)) (v : Vec A Global) → groups_in (vs ++ v ∷ []) ≡ v.items ∷ groups_in vs
groups_in-push [] v = refl
groups_in-push (x ∷ vs) v = ap (λ gs. gs ++ x.items ∷ []) (groups_in-push vs v)

-- Of a stack and the same with w in the place of the last: the newest group, and those before it.
pub record LastSet {A : Type 0} (vs : List (Vec A Global)) (n : ℕ) (v w : Vec A Global) : Type 0 where
  pub rest : List (List A)
  pub old : groups_in vs ≡ v.items ∷ rest
  pub new : groups_in (slice_set vs n w) ≡ w.items ∷ rest

pub last_set : {A : Type 0} (vs : List (Vec A Global)) (n : ℕ) (v w : Vec A Global) → n + 1 ≡ length vs → v ≡ get_or vs n v
    → LastSet vs n v w
last_set [] n v w e is = absurd (omega arith)
last_set (x ∷ []) zero v w e is = record { rest = []; old = ap (λ (u : Vec _ Global). u.items ∷ []) (sym is); new = refl }
last_set (x ∷ []) (suc n) v w e is = absurd (omega arith)
last_set (x ∷ y ∷ ys) zero v w e is = absurd (omega arith)
last_set (x ∷ y ∷ ys) (suc n) v w e is =
    let l = last_set (y ∷ ys) n v w (omega arith) is in
    record { rest = l.rest ++ x.items ∷ []; old = ap (λ gs. gs ++ x.items ∷ []) l.old; new = ap (λ gs. gs ++ x.items ∷ []) l.new }

-- how many entries a newest group with one more has
pub entry_count-joined : {A : Type 0} (x : A) (g : List A) (rest gs hs : List (List A)) → gs ≡ g ∷ rest → hs ≡ (g ++ x ∷ []) ∷ rest
    → entry_count hs ≡ entry_count gs + 1
entry_count-joined x g rest gs hs old new = omega (arith, ap entry_count old, ap entry_count new, length_push g x)

-- the entries of a list of groups, and of one with a group behind it
pub entry_count-push : {A : Type 0} (gs : List (List A)) (g : List A) → entry_count (gs ++ g ∷ []) ≡ entry_count gs + length g
entry_count-push [] g = omega arith
entry_count-push (x ∷ gs) g = omega (arith, entry_count-push gs g)

-- no group has as many entries as `memory_limit`
pub entries-few : {A : Type 0} (vs : List (Vec A Global)) → entry_count (groups_in vs) ≤ length vs * memory_limit
entries-few [] = omega arith
entries-few (v ∷ vs) = omega (arith, entry_count-push (groups_in vs) v.items, v.ok, entries-few vs)

-- a fact at an error, whatever the error
pub on_err : {A B : Type 0} (r : Result A B) (p : Type 0) → p → OnErr r p
on_err (Ok a) p h = tt
on_err (Err b) p h = h
