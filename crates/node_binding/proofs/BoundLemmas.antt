-- What the tables of a binding answer after serials were bound or opened.
use Rattle.std.proofs.Common.{◌≡◌, ℕ, zero, suc, ◌+◌, ◌<◌, ◌≤◌, ◌==◌, Bool, true, false, cond, not, ◌||◌, List, [], ◌∷◌, length, find}
use Rattle.std.proofs.Common.{Option, Some, refl, sym, ap, ◌∙◌, arith}
use Rattle.std.proofs.lemmas.Bool.Decides.{nat_tests}
use Rattle.std.specs.Ordering.{nat_cmp}
use Rattle.std.specs.Cmp.{nat_cmp_total, unsigned_tied}
use Rattle.std.specs.FinSet as set
use Rattle.std.specs.FinMap as map
use Rattle.node_tree.specs.Keys.{first_of}
use Rattle.node_binding.specs.Counts.{times, stands_in, last_standing}
use Rattle.node_binding.specs.Bindings.{BindingValue, with_bound, all_bound, with_opened, all_opened}
use Rattle.node_binding.proofs.Places.{suc-is_zero, turned, place-head, place-later, place-some, find_same, find_none, once}

pub get-insert : (m : map.FinMap nat_cmp ℕ) (k v q : ℕ) → map.get (map.insert m k v) q ≡ cond (k == q) (Some v) (map.get m q)
get-insert m k v q = map.get-insert nat_cmp_total m k v q ∙ ap (λ b. cond b (Some v) (map.get m q)) (unsigned_tied q k ∙ turned q k)

pub contains-insert : (m : set.FinSet nat_cmp) (k q : ℕ) → set.contains (set.insert m k) q ≡ ((k == q) || set.contains m q)
contains-insert m k q = set.contains-insert nat_cmp_total m k q ∙ ap (λ b. b || set.contains m q) (unsigned_tied q k ∙ turned q k)

-- ---- serials that were opened

pub opened-ids : (os : List ℕ) (b : BindingValue) → (all_opened os b).ids ≡ b.ids
opened-ids [] b = refl
opened-ids (s ∷ ss) b = opened-ids ss (with_opened s b)

pub opened-serials : (os : List ℕ) (b : BindingValue) → (all_opened os b).serials ≡ b.serials
opened-serials [] b = refl
opened-serials (s ∷ ss) b = opened-serials ss (with_opened s b)

pub opened-next : (os : List ℕ) (b : BindingValue) → (all_opened os b).next ≡ b.next
opened-next [] b = refl
opened-next (s ∷ ss) b = opened-next ss (with_opened s b)

pub is_in-cons : (x s : ℕ) (xs : List ℕ) → stands_in s (x ∷ xs) ≡ ((x == s) || stands_in s xs)
is_in-cons x s xs =
    elim (x == s) as (λ b. not (cond {A = ℕ} b 1 0 + times s xs == 0) ≡ (b || not (times s xs == 0))) [
      | true ↦ grind (arith, nat_tests)
      | false ↦ ap (λ n. not (n == 0)) (omega arith)
    ]

or-swapped : (a b c : Bool) → (b || (a || c)) ≡ ((a || b) || c)
or-swapped true true c = refl
or-swapped true false c = refl
or-swapped false true c = refl
or-swapped false false c = refl

pub opened-opened : (os : List ℕ) (b : BindingValue) (s : ℕ)
    → set.contains (all_opened os b).opened s ≡ (stands_in s os || set.contains b.opened s)
opened-opened [] b s = refl
opened-opened (x ∷ xs) b s =
    opened-opened xs (with_opened x b) s
    ∙ ap (λ v. stands_in s xs || v) (contains-insert b.opened x s)
    ∙ or-swapped (x == s) (stands_in s xs) (set.contains b.opened s)
    ∙ ap (λ v. v || set.contains b.opened s) (sym (is_in-cons x s xs))

-- ---- serials that were bound

pub bound-opened : (ss : List ℕ) (b : BindingValue) → (all_bound ss b).opened ≡ b.opened
bound-opened [] b = refl
bound-opened (s ∷ ss) b = bound-opened ss (with_bound s b)

pub bound-next : (ss : List ℕ) (b : BindingValue) → (all_bound ss b).next ≡ b.next + length ss
bound-next [] b = omega arith
bound-next (s ∷ ss) b = omega (arith, bound-next ss (with_bound s b))

ids-step : (p k : ℕ) (here : Bool) (old : Option ℕ)
    → cond (p == 0) (cond here (Some (k + 1)) old) (Some (k + 1 + p))
    ≡ cond (cond {A = ℕ} (p == 0) (cond {A = ℕ} here 1 0) (suc p) == 0) old
    (Some (k + cond {A = ℕ} (p == 0) (cond {A = ℕ} here 1 0) (suc p)))
ids-step zero k true old = refl
ids-step zero k false old = refl
ids-step (suc p) k here old = rw (suc-is_zero p, suc-is_zero (suc p)) (ap Some (omega arith))

-- a bound serial has the id of its last place
pub bound-ids : (ss : List ℕ) (b : BindingValue) (k : ℕ) → b.next ≡ k + 1 → (s : ℕ)
    → map.get (all_bound ss b).ids s ≡ cond (last_standing ss s == 0) (map.get b.ids s) (Some (k + last_standing ss s))
bound-ids [] b k e s = refl
bound-ids (x ∷ xs) b k e s =
    bound-ids xs (with_bound x b) (k + 1) (omega arith) s
    ∙ ap (λ v. cond (last_standing xs s == 0) v (Some (k + 1 + last_standing xs s)))
    (get-insert b.ids x b.next s ∙ ap (λ n. cond (x == s) (Some n) (map.get b.ids s)) e)
    ∙ ids-step (last_standing xs s) k (x == s) (map.get b.ids s)

abbrev has_id : ℕ → List ℕ → ℕ → ℕ → Bool
has_id k ss id s = (k + last_standing ss s) == id

serials-step : (x : ℕ) (xs : List ℕ) (k id : ℕ) (old : Option ℕ) → times x xs ≡ 0
    → first_of (find (has_id (k + 1) xs id) xs) (cond ((k + 1) == id) (Some x) old) ≡ first_of (find (has_id k (x ∷ xs) id) (x ∷ xs)) old
serials-step x xs k id old apart =
    let head : last_standing (x ∷ xs) x ≡ 1 = place-head x xs apart in
    let later : (s : ℕ) → 0 < times s xs
    → last_standing (x ∷ xs) s ≡ suc (last_standing xs s) = λ s h. place-later x xs s (place-some xs s h) in
    let same : find (has_id k (x ∷ xs) id) xs ≡ find (has_id (k + 1) xs id) xs =
    find_same _ _ xs (λ s h. ap (λ n. n == id) (omega (arith, later s h))) in
    let split : (v : Bool) → ((k + 1) == id) ≡ v
    → first_of (find (has_id (k + 1) xs id) xs) (cond v (Some x) old)
    ≡ first_of (cond v (Some x) (find (has_id (k + 1) xs id) xs)) old = λ v.
    elim v as (λ v. ((k + 1) == id) ≡ v
    → first_of (find (has_id (k + 1) xs id) xs) (cond v (Some x) old)
    ≡ first_of (cond v (Some x) (find (has_id (k + 1) xs id) xs)) old) [
      | true ↦ λ e. ap (λ o. first_of o (Some x))
          (find_none (has_id (k + 1) xs id) xs (λ s h. let p : 0 < last_standing xs s = place-some xs s h in grind (arith, nat_tests)))
      | false ↦ λ _. refl
    ] in
    split ((k + 1) == id) refl
    ∙ ap (λ b. first_of (cond b (Some x) (find (has_id (k + 1) xs id) xs)) old) (ap (λ n. (k + n) == id) (sym head))
    ∙ ap (λ o. first_of (cond (has_id k (x ∷ xs) id x) (Some x) o) old) (sym same)

-- an id is that of the serial at its place
pub bound-serials : (ss : List ℕ) (b : BindingValue) (k : ℕ) → b.next ≡ k + 1 → ((s : ℕ) → times s ss ≤ 1) → (id : ℕ)
    → map.get (all_bound ss b).serials id ≡ first_of (find (λ s. (k + last_standing ss s) == id) ss) (map.get b.serials id)
bound-serials [] b k e distinct id = refl
bound-serials (x ∷ xs) b k e distinct id =
    bound-serials xs (with_bound x b) (k + 1) (omega arith) (λ s. omega (arith, distinct s)) id
    ∙ ap (λ o. first_of (find (has_id (k + 1) xs id) xs) o)
    (get-insert b.serials b.next x id ∙ ap (λ n. cond (n == id) (Some x) (map.get b.serials id)) e)
    ∙ serials-step x xs k id (map.get b.serials id) (once x xs (distinct x))

-- ---- the mode stays

pub bound-mode : (ss : List ℕ) (b : BindingValue) → (all_bound ss b).mode ≡ b.mode
bound-mode [] b = refl
bound-mode (s ∷ ss) b = bound-mode ss (with_bound s b)

pub opened-mode : (os : List ℕ) (b : BindingValue) → (all_opened os b).mode ≡ b.mode
opened-mode [] b = refl
opened-mode (s ∷ ss) b = opened-mode ss (with_opened s b)
