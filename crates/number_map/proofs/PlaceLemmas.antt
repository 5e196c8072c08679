-- Places in a list of numbers, how often a number stands in it, and the seats of its numbers.
use Rattle.std.proofs.Common.{◌≡◌, ℕ, zero, suc, ◌+◌, ◌<◌, ◌≤◌, ◌==◌, Bool, true, false, cond, is_some, List, [], ◌∷◌, ◌++◌, length}
use Rattle.std.proofs.Common.{take, drop, slice_get, slice_index_or, get_or, Option, Some, None, IfSome, Result, Ok, Err, OnOk, OnErr}
use Rattle.std.proofs.Common.{refl, sym, ap, subst, ◌∙◌, inl, inr, arith}
use Rattle.std.proofs.lemmas.Bool.{eq-eqb, ne_eqb, cases_eq}
use Rattle.std.proofs.lemmas.Option.{slice_get_read}
use Rattle.std.specs.List.{insert, remove}
use Rattle.std.specs.Ordering.{nat_cmp}
use Rattle.std.specs.Cmp.{nat_cmp_total, unsigned_tied}
use Rattle.std.specs.FinMap as map
use Rattle.number_map.specs.Places.{number_place, times_in, HasSeats}

-- ---- a walk over the list

-- a list from a place on begins with what stands there
pub drop_here : {A : Type 0} (xs : List A) (k : ℕ) (x : A) → slice_get xs k ≡ Some x → drop k xs ≡ x ∷ drop (suc k) xs
drop_here [] k x e = absurd cc
drop_here {A} (y ∷ xs) zero x e = let same : y ≡ x = cc in ap (λ z. z ∷ xs) same
drop_here (y ∷ xs) (suc k) x e = drop_here xs k x e

number_next : (ks : List ℕ) (i k : ℕ) → slice_get ks i ≡ Some k → drop i ks ≡ k ∷ drop (i + 1) ks
number_next ks i k at = let e : i + 1 ≡ suc i = omega arith in rw e (drop_here ks i k at)

module _ (x : ℕ) (ks : List ℕ) (i k : ℕ) (at : slice_get ks i ≡ Some k) where
  pub place_here : k ≡ x → number_place x (drop i ks) ≡ 0
  place_here e = ap (number_place x) (number_next ks i k at)
      ∙ ap (λ (b : Bool). cond {A = ℕ} b 0 (suc (number_place x (drop (i + 1) ks)))) (eq-eqb k x e)

  pub place_on : (k ≡ x → ⊥) → number_place x (drop i ks) ≡ suc (number_place x (drop (i + 1) ks))
  place_on e = ap (number_place x) (number_next ks i k at)
      ∙ ap (λ (b : Bool). cond {A = ℕ} b 0 (suc (number_place x (drop (i + 1) ks)))) (ne_eqb k x e)

-- what is read at a place stands there
pub number_at : (ks : List ℕ) (i : ℕ) → i < length ks → slice_get ks i ≡ Some (get_or ks i 0)
number_at [] i within = absurd (omega (arith, within))
number_at (k ∷ ks) zero within = refl
number_at (k ∷ ks) (suc i) within = number_at ks i (omega (arith, within))

pub number_taken : (ks : List ℕ) (i k : ℕ) → i < length ks → k ≡ slice_index_or ks i k → slice_get ks i ≡ Some k
number_taken ks i k within read = slice_get_read ks (length ks) i k refl within read

-- ---- how often a number stands in the list

times-append : (x : ℕ) (ks js : List ℕ) → times_in x (ks ++ js) ≡ times_in x ks + times_in x js
times-append x [] js = omega arith
times-append x (k ∷ ks) js =
    let e = times-append x ks js in
    omega (arith, e)

times-parts : (x : ℕ) (ks : List ℕ) (i : ℕ) → times_in x (take i ks) + times_in x (drop i ks) ≡ times_in x ks
times-parts x [] zero = omega arith
times-parts x [] (suc i) = omega arith
times-parts x (k ∷ ks) zero = omega arith
times-parts x (k ∷ ks) (suc i) =
    let e = times-parts x ks i in
    omega (arith, e)

pub times-last : (x : ℕ) (ks : List ℕ) (n : ℕ) → times_in x (ks ++ n ∷ []) ≡ times_in x (n ∷ ks)
times-last x ks n =
    let e = times-append x ks (n ∷ []) in
    omega (arith, e)

pub times-insert : (x : ℕ) (ks : List ℕ) (i n : ℕ) → times_in x (insert ks i n) ≡ times_in x (n ∷ ks)
times-insert x ks i n =
    let e = times-append x (take i ks) (n ∷ drop i ks) in
    let p = times-parts x ks i in
    omega (arith, e, p)

pub times-remove : (x : ℕ) (ks : List ℕ) (i n : ℕ) → slice_get ks i ≡ Some n → times_in x (n ∷ remove ks i) ≡ times_in x ks
times-remove x ks i n at =
    let e = times-append x (take i ks) (drop (suc i) ks) in
    let p = times-parts x ks i in
    let d = ap (times_in x) (drop_here ks i n at) in
    omega (arith, e, p, d)

-- ---- the place of a number that stands once, or never

times-there : (x : ℕ) (ks : List ℕ) (i : ℕ) → slice_get ks i ≡ Some x → 1 ≤ times_in x ks
times-there x [] i at = absurd (cc)
times-there x (k ∷ ks) zero at =
    let same : k ≡ x = cc in
    let b = ap (λ (v : Bool). cond {A = ℕ} v 1 0) (eq-eqb k x same) in
    omega (arith, b)
times-there x (k ∷ ks) (suc i) at =
    let e = times-there x ks i at in
    omega (arith, e)

pub place-once : (x : ℕ) (ks : List ℕ) (i : ℕ) → times_in x ks ≤ 1 → slice_get ks i ≡ Some x → number_place x ks ≡ i
place-once x [] i once at = absurd (cc)
place-once x (k ∷ ks) zero once at =
    let same : k ≡ x = cc in
    ap (λ (v : Bool). cond {A = ℕ} v 0 (suc (number_place x ks))) (eq-eqb k x same)
place-once x (k ∷ ks) (suc i) once at = elim (cases_eq k x) [
  | inl same ↦
      let b = ap (λ (v : Bool). cond {A = ℕ} v 1 0) (eq-eqb k x same) in
      let t = times-there x ks i at in
      absurd (omega (arith, once, b, t))
  | inr other ↦
      let b = ap (λ (v : Bool). cond {A = ℕ} v 1 0) (ne_eqb k x other) in
      ap (λ (v : Bool). cond {A = ℕ} v 0 (suc (number_place x ks))) (ne_eqb k x other)
      ∙ ap (λ (n : ℕ). suc n) (place-once x ks i (omega (arith, once, b)) at)
]

pub place-none : (x : ℕ) (ks : List ℕ) → times_in x ks ≤ 0 → number_place x ks ≡ length ks
place-none x [] none_is = refl
place-none x (k ∷ ks) none_is = elim (cases_eq k x) [
  | inl same ↦
      let b = ap (λ (v : Bool). cond {A = ℕ} v 1 0) (eq-eqb k x same) in
      absurd (omega (arith, none_is, b))
  | inr other ↦
      let b = ap (λ (v : Bool). cond {A = ℕ} v 1 0) (ne_eqb k x other) in
      ap (λ (v : Bool). cond {A = ℕ} v 0 (suc (number_place x ks))) (ne_eqb k x other)
      ∙ ap (λ (n : ℕ). suc n) (place-none x ks (omega (arith, none_is, b)))
]

-- ---- seats

most_once : (b : Bool) → cond {A = ℕ} b 1 0 ≤ 1
most_once true = omega arith
most_once false = omega arith

-- a number of a list with seats stands at one place
pub seated-place : (seats : map.FinMap nat_cmp ℕ) (ks : List ℕ) (x i : ℕ) → HasSeats seats ks → slice_get ks i ≡ Some x
    → number_place x ks ≡ i
seated-place seats ks x i has at =
    let h = has x in
    let m = most_once (is_some (map.get seats x)) in
    place-once x ks i (omega (arith, h, m)) at

-- a number without a seat stands nowhere
pub unseated-place : (seats : map.FinMap nat_cmp ℕ) (ks : List ℕ) (x : ℕ) → HasSeats seats ks → map.get seats x ≡ None
    → number_place x ks ≡ length ks
unseated-place seats ks x has none_is =
    let h = has x in
    let e = ap (λ (o : Option ℕ). cond {A = ℕ} (is_some o) 1 0) none_is in
    place-none x ks (omega (arith, h, e))

-- another list in which each number stands as often
pub seats-same : (seats : map.FinMap nat_cmp ℕ) (ks js : List ℕ) → HasSeats seats ks → ((x : ℕ) → times_in x js ≡ times_in x ks)
    → HasSeats seats js
seats-same seats ks js has alike x =
    let h = has x in
    let e = alike x in
    omega (arith, h, e)

get-put : (seats : map.FinMap nat_cmp ℕ) (n v x : ℕ) → map.get (map.insert seats n v) x ≡ cond (x == n) (Some v) (map.get seats x)
get-put seats n v x = map.get-insert nat_cmp_total seats n v x ∙ ap (λ b. cond b (Some v) (map.get seats x)) (unsigned_tied x n)

get-taken : (seats : map.FinMap nat_cmp ℕ) (n x : ℕ) → map.get (map.remove seats n) x ≡ cond (x == n) None (map.get seats x)
get-taken seats n x = map.get-remove nat_cmp_total seats n x ∙ ap (λ b. cond b None (map.get seats x)) (unsigned_tied x n)

-- a number that had no seat, with one
pub seats-put : (seats : map.FinMap nat_cmp ℕ) (ks : List ℕ) (n v : ℕ) → HasSeats seats ks → is_some (map.get seats n) ≡ false
    → HasSeats (map.insert seats n v) (n ∷ ks)
seats-put seats ks n v has free x = elim (cases_eq n x) [
  | inl same ↦
      let h = has n in
      let f = ap (λ (b : Bool). cond {A = ℕ} b 1 0) free in
      let g = ap (λ (o : Option ℕ). cond {A = ℕ} (is_some o) 1 0) (get-put seats n v n
      ∙ ap (λ b. cond b (Some v) (map.get seats n)) (eq-eqb n n refl)) in
      let b = ap (λ (c : Bool). cond {A = ℕ} c 1 0) (eq-eqb n n refl) in
      let all : times_in n (n ∷ ks) ≤ cond {A = ℕ} (is_some (map.get (map.insert seats n v) n)) 1 0 = omega (arith, h, f, g, b) in
      subst (λ y. times_in y (n ∷ ks) ≤ cond {A = ℕ} (is_some (map.get (map.insert seats n v) y)) 1 0) same all
  | inr other ↦
      let h = has x in
      let g = ap (λ (o : Option ℕ). cond {A = ℕ} (is_some o) 1 0) (get-put seats n v x
      ∙ ap (λ b. cond b (Some v) (map.get seats x)) (ne_eqb x n (λ e. other (sym e)))) in
      let b = ap (λ (c : Bool). cond {A = ℕ} c 1 0) (ne_eqb n x other) in
      omega (arith, h, g, b)
]

-- a number that was taken out of the list, and its seat
pub seats-taken : (seats : map.FinMap nat_cmp ℕ) (ks : List ℕ) (n : ℕ) → HasSeats seats (n ∷ ks) → HasSeats (map.remove seats n) ks
seats-taken seats ks n has x = elim (cases_eq n x) [
  | inl same ↦
      let h = has x in
      let m = most_once (is_some (map.get seats x)) in
      let b = ap (λ (c : Bool). cond {A = ℕ} c 1 0) (eq-eqb n x same) in
      omega (arith, h, m, b)
  | inr other ↦
      let h = has x in
      let g = ap (λ (o : Option ℕ). cond {A = ℕ} (is_some o) 1 0) (get-taken seats n x
      ∙ ap (λ b. cond b None (map.get seats x)) (ne_eqb x n (λ e. other (sym e)))) in
      let b = ap (λ (c : Bool). cond {A = ℕ} c 1 0) (ne_eqb n x other) in
      omega (arith, h, g, b)
]

-- what holds of the value that there may be, holds of the one that there is
pub held : {A : Type 0} (o : Option A) (a : A) (P : A → Type 0) → o ≡ Some a → IfSome o P → P a
held o a P e h = rw e at h

pub seats-without : (seats left : map.FinMap nat_cmp ℕ) (ks : List ℕ) (n : ℕ) → HasSeats seats (n ∷ ks) → left ≡ map.remove seats n
    → HasSeats left ks
seats-without seats left ks n has e = subst (λ m. HasSeats m ks) (sym e) (seats-taken seats ks n has)

pub seats-with : (seats more : map.FinMap nat_cmp ℕ) (ks : List ℕ) (n v : ℕ) → HasSeats seats ks → is_some (map.get seats n) ≡ false
    → more ≡ map.insert seats n v → HasSeats more (n ∷ ks)
seats-with seats more ks n v has free e = subst (λ m. HasSeats m (n ∷ ks)) (sym e) (seats-put seats ks n v has free)

take-next : (ks : List ℕ) (i : ℕ) → i < length ks → take (i + 1) ks ≡ take i ks ++ get_or ks i 0 ∷ []
take-next ks i within = let e : i + 1 ≡ suc i = omega arith in rw e (take-suc ks i within) where
  take-suc : (ks : List ℕ) (i : ℕ) → i < length ks → take (suc i) ks ≡ take i ks ++ get_or ks i 0 ∷ []
  take-suc [] i within = absurd (omega (arith, within))
  take-suc (k ∷ ks) zero within = refl
  take-suc (k ∷ ks) (suc i) within = ap (λ js. k ∷ js) (take-suc ks i (omega (arith, within)))

-- the numbers up to the next have seats
pub seats-next : (seats more : map.FinMap nat_cmp ℕ) (ks : List ℕ) (i v : ℕ) → i < length ks → HasSeats seats (take i ks)
    → is_some (map.get seats (get_or ks i 0)) ≡ false → more ≡ map.insert seats (get_or ks i 0) v → HasSeats more (take (i + 1) ks)
seats-next seats more ks i v within has free e =
    seats-same more (get_or ks i 0 ∷ take i ks) (take (i + 1) ks) (seats-with seats more (take i ks) (get_or ks i 0) v has free e)
    (λ x. ap (times_in x) (take-next ks i within) ∙ times-last x (take i ks) (get_or ks i 0))

-- the seats that there are, for another list in which each number stands as often
pub held-same : {A : Type 0} (o : Option A) (seats : A → map.FinMap nat_cmp ℕ) (ks js : List ℕ)
    → ((x : ℕ) → times_in x js ≡ times_in x ks) → IfSome o (λ s. HasSeats (seats s) ks) → IfSome o (λ s. HasSeats (seats s) js)
held-same None seats ks js alike has = has
held-same (Some s) seats ks js alike has = seats-same (seats s) ks js has alike

-- a seat more, or another one
pub seats-kept : (seats : map.FinMap nat_cmp ℕ) (ks : List ℕ) (n v : ℕ) → HasSeats seats ks → HasSeats (map.insert seats n v) ks
seats-kept seats ks n v has x =
    let g = ap (λ (o : Option ℕ). cond {A = ℕ} (is_some o) 1 0) (get-put seats n v x) in
    let m = more_seats (x == n) v (map.get seats x) in
    let h = has x in
    omega (arith, g, m, h)
  where
    more_seats : (b : Bool) (v : ℕ) (o : Option ℕ) → cond {A = ℕ} (is_some o) 1 0 ≤ cond {A = ℕ} (is_some (cond b (Some v) o)) 1 0
    more_seats true v o = most_once (is_some o)
    more_seats false v o = omega arith

-- what follows from a call's clause, whether it failed or not
pub either : {T E : Type 0} (result : Result T E) (P Q R : Type 0) → OnOk result P → OnErr result Q → (P → R) → (Q → R) → R
either (Ok x) P Q R p q f g = f p
either (Err e) P Q R p q f g = g q

-- the seats of a list with a number more are seats of the list
pub held-fewer : (o : Option (map.FinMap nat_cmp ℕ)) (ks : List ℕ) (n : ℕ) → IfSome o (λ s. HasSeats s (n ∷ ks))
    → IfSome o (λ s. HasSeats s ks)
held-fewer None ks n has = has
held-fewer (Some seats) ks n has = λ x. let h = has x in omega (arith, h)
