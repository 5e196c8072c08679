-- How often and where numbers stand in lists, and what a search of a list finds.
use Rattle.std.proofs.Common.{◌≡◌, ℕ, zero, suc, ◌+◌, ◌<◌, ◌≤◌, ◌==◌, Bool, true, false, cond, not, List, [], ◌∷◌, ◌++◌, length, find, Some}
use Rattle.std.proofs.Common.{None, refl, ap, ◌∙◌, arith}
use Rattle.std.proofs.lemmas.Bool.Decides.{nat_tests}
use Rattle.std.specs.Cmp.{nat_eq_equiv}
use Rattle.node_binding.specs.Counts.{times, stands_in, last_standing}

pub suc-is_zero : (n : ℕ) → (suc n == 0) ≡ false
suc-is_zero n = grind (arith, nat_tests)

pub turned : (a b : ℕ) → (a == b) ≡ (b == a)
turned a b = nat_eq_equiv.symm a b

pub times-append : (s : ℕ) (xs ys : List ℕ) → times s (xs ++ ys) ≡ times s xs + times s ys
times-append s [] ys = omega arith
times-append s (x ∷ xs) ys = omega (arith, times-append s xs ys)

pub place-none : (xs : List ℕ) (s : ℕ) → times s xs ≡ 0 → last_standing xs s ≡ 0
place-none [] s h = refl
place-none (x ∷ xs) s h =
    elim (x == s) as (λ b. cond {A = ℕ} b 1 0 + times s xs ≡ 0
    → cond {A = ℕ} (last_standing xs s == 0) (cond {A = ℕ} b 1 0) (suc (last_standing xs s)) ≡ 0) [
      | true ↦ λ h. absurd (omega arith)
      | false ↦ λ h. rw (place-none xs s (omega arith)) refl
    ] h

pub place-head : (x : ℕ) (xs : List ℕ) → times x xs ≡ 0 → last_standing (x ∷ xs) x ≡ 1
place-head x xs h = rw (place-none xs x h, nat_eq_equiv.refl x) refl

pub place-later : (x : ℕ) (xs : List ℕ) (s : ℕ) → 0 < last_standing xs s → last_standing (x ∷ xs) s ≡ suc (last_standing xs s)
place-later x xs s h =
    elim (last_standing xs s) as (λ p. 0 < p
    → cond {A = ℕ} (p == 0) (cond {A = ℕ} (x == s) 1 0) (suc p)
    ≡ suc p) [ zero ↦ λ h. absurd (omega arith) | suc p ↦ λ _. rw (suc-is_zero p) refl ] h

pub place-some : (xs : List ℕ) (s : ℕ) → 0 < times s xs → 0 < last_standing xs s
place-some [] s h = absurd (omega arith)
place-some (x ∷ xs) s h =
    elim (last_standing xs s) as (λ p. (0 < times s xs → 0 < p) → 0 < cond {A = ℕ} (p == 0) (cond {A = ℕ} (x == s) 1 0) (suc p)) [
      | zero ↦ λ rest. elim (x == s) as
          (λ b. 0 < cond {A = ℕ} b 1 0 + times s xs
          → 0 < cond {A = ℕ} b 1 0) [ true ↦ λ _. omega arith | false ↦ λ h. rest (omega arith) ] h
      | suc p ↦ λ _. rw (suc-is_zero p) (omega arith)
    ] (place-some xs s)

-- a number is in a list where it has a place there
pub is_in-place : (xs : List ℕ) (s : ℕ) → stands_in s xs ≡ not (last_standing xs s == 0)
is_in-place xs s =
    elim (times s xs) as (λ n. times s xs ≡ n → not (n == 0) ≡ not (last_standing xs s == 0)) [
      | zero ↦ λ e. rw (place-none xs s e) refl
      | suc n ↦ λ e. rw (suc-is_zero n) (let h : 0 < last_standing xs s = place-some xs s (omega arith) in grind (arith, nat_tests))
    ] refl

pub is_in-times : (xs : List ℕ) (s : ℕ) → stands_in s xs ≡ true → 0 < times s xs
is_in-times xs s h = elim (times s xs) as (λ n. not (n == 0) ≡ true → 0 < n) [ zero ↦ λ h. cc | suc n ↦ λ _. omega arith ] h

pub times-is_in : (xs : List ℕ) (s : ℕ) → 0 < times s xs → stands_in s xs ≡ true
times-is_in xs s h = elim (times s xs) as
    (λ n. 0 < n → not (n == 0) ≡ true) [ zero ↦ λ h. absurd (omega arith) | suc n ↦ λ _. rw (suc-is_zero n) refl ] h

pub place-le : (xs : List ℕ) (s : ℕ) → last_standing xs s ≤ length xs
place-le [] s = omega arith
place-le (x ∷ xs) s =
    elim (last_standing xs s == 0) as (λ b. cond {A = ℕ} b (cond {A = ℕ} (x == s) 1 0) (suc (last_standing xs s)) ≤ suc (length xs)) [
      | true ↦ elim (x == s) as (λ b. cond {A = ℕ} b 1 0 ≤ suc (length xs)) [ true ↦ omega arith | false ↦ omega arith ]
      | false ↦ omega (arith, place-le xs s)
    ]

-- ---- searches

more : (x : ℕ) (xs : List ℕ) (P : ℕ → Type 0) → ((s : ℕ) → 0 < times s (x ∷ xs) → P s) → (s : ℕ) → 0 < times s xs → P s
more x xs P all s h = all s (omega arith)

pub first : (x : ℕ) (xs : List ℕ) → 0 < times x (x ∷ xs)
first x xs = rw (nat_eq_equiv.refl x) (omega arith)

pub once : (x : ℕ) (xs : List ℕ) → times x (x ∷ xs) ≤ 1 → times x xs ≡ 0
once x xs h = let e : (x == x) ≡ true = nat_eq_equiv.refl x in let h2 : 1 + times x xs ≤ 1 = rw e at h in omega arith

pub find_same : (p q : ℕ → Bool) (xs : List ℕ) → ((s : ℕ) → 0 < times s xs → p s ≡ q s) → find p xs ≡ find q xs
find_same p q [] same = refl
find_same p q (x ∷ xs) same =
    ap (λ b. cond b (Some x) (find p xs)) (same x (first x xs)) ∙ ap (cond (q x) (Some x))
    (find_same p q xs (more x xs (λ s. p s ≡ q s) same))

pub find_none : (p : ℕ → Bool) (xs : List ℕ) → ((s : ℕ) → 0 < times s xs → p s ≡ false) → find p xs ≡ None
find_none p [] same = refl
find_none p (x ∷ xs) same =
    ap (λ b. cond b (Some x) (find p xs)) (same x (first x xs)) ∙ find_none p xs (more x xs (λ s. p s ≡ false) same)
