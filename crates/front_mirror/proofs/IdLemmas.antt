-- Ids of children: put in, and taken out.
use Rattle.std.proofs.Common.{◌≡◌, ℕ, zero, suc, ◌+◌, ◌<◌, ◌≤◌, ◌==◌, ◌||◌, nat_eq, nat_lt, Bool, true, false, cond, List, [], ◌∷◌, length}
use Rattle.std.proofs.Common.{slice_get, Some, refl, sym, ap, ◌∙◌, inl, inr, arith}
use Rattle.std.specs.List.{insert, remove}
use Rattle.std.proofs.lemmas.Bool.{eq-eqb, ne_eqb, cases_eq}
use Rattle.client_views.specs.Views.{is_in}
use Rattle.number_map.specs.Places.{number_place}
use Rattle.front_mirror.specs.IdLists.{id_behind, id_after, without_id}

pub same_eq : (x y : ℕ) → nat_eq x y ≡ (y == x)
same_eq x y = elim (cases_eq y x) [
  | inl same ↦ rw (eq-eqb y x same, eq-eqb x y (sym same)) refl
  | inr other ↦ rw (ne_eqb y x other, ne_eqb x y (λ e. other (sym e))) refl
]

there_step : (v : Bool) (p l : ℕ) (h : Bool) → nat_lt p l ≡ h → nat_lt (cond {A = ℕ} v 0 (suc p)) (suc l) ≡ (v || h)
there_step true p l h e = grind arith
there_step false p l h e = grind arith

-- an id is there where its place is
pub place_there : (x : ℕ) (ks : List ℕ) → nat_lt (number_place x ks) (length ks) ≡ is_in x ks
place_there x [] = refl
place_there x (k ∷ ks) = there_step (k == x) (number_place x ks) (length ks) (is_in x ks) (place_there x ks) ∙ ap
    (λ (v : Bool). v || is_in x ks) (sym (same_eq x k))

behind_step : (v : Bool) (k p x : ℕ) (ks rest : List ℕ) → insert ks (suc p) x ≡ rest
    → insert (k ∷ ks) (suc (cond {A = ℕ} v 0 (suc p))) x ≡ cond v (k ∷ x ∷ ks) (k ∷ rest)
behind_step true k p x ks rest e = refl
behind_step false k p x ks rest e = ap (λ (js : List ℕ). k ∷ js) e

pub place_behind : (previous x : ℕ) (ks : List ℕ) → is_in previous ks ≡ true
    → insert ks (suc (number_place previous ks)) x ≡ id_behind previous x ks
place_behind previous x [] there = absurd (cc)
place_behind previous x (k ∷ ks) there =
    elim (cases_eq k previous) [
      | inl same ↦ rw (eq-eqb k previous same) refl
      | inr other ↦
          let h : (nat_eq previous k || is_in previous ks) ≡ true = there in
          let later : is_in previous ks ≡ true = rw (ne_eqb previous k (λ e. other (sym e))) at h in
          rw (ne_eqb k previous other) (ap (λ (js : List ℕ). k ∷ js) (place_behind previous x ks later))
    ]

out_step : (v : Bool) (k p : ℕ) (ks rest : List ℕ) → remove ks p ≡ rest → remove (k ∷ ks) (cond {A = ℕ} v 0 (suc p)) ≡ cond v ks (k ∷ rest)
out_step true k p ks rest e = refl
out_step false k p ks rest e = ap (λ (js : List ℕ). k ∷ js) e

pub place_out : (x : ℕ) (ks : List ℕ) → remove ks (number_place x ks) ≡ without_id x ks
place_out x [] = refl
place_out x (k ∷ ks) = out_step (k == x) k (number_place x ks) ks (without_id x ks) (place_out x ks)

pub not_first : (previous : ℕ) (a b : List ℕ) → (previous ≡ 0 → ⊥) → cond (previous == 0) a b ≡ b
not_first previous a b e = rw (ne_eqb previous 0 e) refl

pub there_behind : (previous : ℕ) (v : Bool) → (previous ≡ 0 → ⊥) → (previous == 0 || v) ≡ true → v ≡ true
there_behind previous v e h = rw (ne_eqb previous 0 e) at h

pub place_known : (previous : ℕ) (ks : List ℕ) (i n : ℕ) → (previous ≡ 0 → ⊥) → (previous == 0 || is_in previous ks) ≡ true
    → i ≡ number_place previous ks → n ≡ length ks → n ≤ i → ⊥
place_known previous ks i n other there is len past =
    let known : is_in previous ks ≡ true = there_behind previous (is_in previous ks) other there in
    let low : nat_lt (number_place previous ks) (length ks) ≡ true = place_there previous ks ∙ known in
    let less : number_place previous ks < length ks = grind arith in
    omega arith

pub place_then : (previous x : ℕ) (ks : List ℕ) (i : ℕ) → (previous ≡ 0 → ⊥) → (previous == 0 || is_in previous ks) ≡ true
    → i ≡ number_place previous ks → insert ks (i + 1) x ≡ id_after previous x ks
place_then previous x ks i other there is =
    let e : i + 1 ≡ suc (number_place previous ks) = omega arith in
    ap (λ (p : ℕ). insert ks p x) e
    ∙ place_behind previous x ks (there_behind previous (is_in previous ks) other there)
    ∙ sym (not_first previous (x ∷ ks) (id_behind previous x ks) other)

-- ---- a place where an id stands

-- where an id stands somewhere, it stands at the first place
pub place-got : (x : ℕ) (ks : List ℕ) (i : ℕ) → slice_get ks i ≡ Some x → slice_get ks (number_place x ks) ≡ Some x
place-got x [] i e = absurd cc
place-got x (k ∷ ks) zero e = let same : k ≡ x = cc in rw (eq-eqb k x same) e
place-got x (k ∷ ks) (suc i) e = elim (cases_eq k x) [
  | inl same ↦ rw (eq-eqb k x same) (ap (λ (y : ℕ). Some y) same)
  | inr other ↦ rw (ne_eqb k x other) (place-got x ks i e)
]
