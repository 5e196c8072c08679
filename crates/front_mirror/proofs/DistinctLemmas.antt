-- Lists in which no number comes twice.
use Rattle.std.proofs.Common.{◌≡◌, ◌≢◌, ℕ, zero, suc, ◌+◌, ◌<◌, ◌≤◌, nat_eq, Bool, true, false, not, ◌&&◌, ◌||◌, List, [], ◌∷◌, ◌++◌}
use Rattle.std.proofs.Common.{length, get_or, take, drop, refl, sym, ap, ◌∙◌, inl, inr, arith, add-one}
use Rattle.std.proofs.lemmas.List.{take_more}
use Rattle.std.proofs.lemmas.Bool.{cases_eq, ne_eqb}
use Rattle.client_views.specs.Views.{is_in, is_distinct}

and_false : (a b : Bool) → b ≡ false → (a && b) ≡ false
and_false true b e = e
and_false false b e = refl

or_true : (a b : Bool) → b ≡ true → (a || b) ≡ true
or_true true b e = refl
or_true false b e = e

is_in_there : (x : ℕ) (xs ys : List ℕ) → is_in x (xs ++ x ∷ ys) ≡ true
is_in_there x [] ys = grind arith
is_in_there x (y ∷ xs) ys = or_true (nat_eq x y) _ (is_in_there x xs ys)

-- a number that comes again
pub is_distinct_twice : (x : ℕ) (xs ys : List ℕ) → is_in x xs ≡ true → is_distinct (xs ++ x ∷ ys) ≡ false
is_distinct_twice x [] ys h = cc
is_distinct_twice x (y ∷ xs) ys h =
    elim (cases_eq x y) [
      | inl same ↦ rw (same, is_in_there y xs ys) refl
      | inr other ↦
          let h2 : (nat_eq x y || is_in x xs) ≡ true = h in
          let h3 : is_in x xs ≡ true = rw (ne_eqb x y other) at h2 in
          and_false (not (is_in y (xs ++ x ∷ ys))) _ (is_distinct_twice x xs ys h3)
    ]

is_in-push : (x y : ℕ) (xs : List ℕ) → is_in y xs ≡ false → y ≢ x → is_in y (xs ++ x ∷ []) ≡ false
is_in-push x y [] absent other = rw (ne_eqb y x other) refl
is_in-push x y (z ∷ xs) absent other =
    elim (cases_eq y z) [
      | inl same ↦ grind arith
      | inr apart ↦
          let h : (nat_eq y z || is_in y xs) ≡ false = absent in
          let h2 : is_in y xs ≡ false = rw (ne_eqb y z apart) at h in
          rw (ne_eqb y z apart) (is_in-push x y xs h2 other)
    ]

pub neither : (a b : Bool) → (a || b) ≡ false → (a ≡ false) × (b ≡ false)
neither true b e = cc
neither false b e = (refl, e)

pub absent_and : (a b : Bool) → (not a && b) ≡ true → (a ≡ false) × (b ≡ true)
absent_and true b e = cc
absent_and false b e = (refl, e)

not_same : (x y : ℕ) → nat_eq x y ≡ false → x ≡ y → ⊥
not_same x y e same = grind arith

-- a number that is new
pub is_distinct_push : (x : ℕ) (xs : List ℕ) → is_in x xs ≡ false → is_distinct xs ≡ true → is_distinct (xs ++ x ∷ []) ≡ true
is_distinct_push x [] new distinct = refl
is_distinct_push x (y ∷ xs) new distinct =
    let a = neither (nat_eq x y) (is_in x xs) new in
    let b = absent_and (is_in y xs) (is_distinct xs) distinct in
    let apart : y ≢ x = λ e. not_same x y a.0 (sym e) in
    rw (is_in-push x y xs b.0 apart, is_distinct_push x xs a.1 b.1) refl

-- ---- at an index

split_at : (xs : List ℕ) (i : ℕ) → i < length xs → xs ≡ take i xs ++ get_or xs i 0 ∷ drop (i + 1) xs
split_at [] i h = absurd (omega arith)
split_at (x ∷ xs) zero h = refl
split_at (x ∷ xs) (suc i) h = rw (add-one) (ap (λ (ys : List ℕ). x ∷ ys) (split_at xs i (omega arith) ∙ rw (add-one) refl))

pub twice_at : (xs : List ℕ) (i : ℕ) → i < length xs → is_in (get_or xs i 0) (take i xs) ≡ true → false ≡ is_distinct xs
twice_at xs i h again = sym (ap is_distinct (split_at xs i h) ∙ is_distinct_twice (get_or xs i 0) (take i xs) (drop (i + 1) xs) again)

pub distinct_more : (xs : List ℕ) (i : ℕ) → i < length xs → is_in (get_or xs i 0) (take i xs) ≡ false → is_distinct (take i xs) ≡ true
    → is_distinct (take (i + 1) xs) ≡ true
distinct_more xs i h new distinct = rw (take_more xs i 0 h) (is_distinct_push (get_or xs i 0) (take i xs) new distinct)

-- what an insertion says, where the set has what came before
pub was_there : (added has there : Bool) → added ≡ not has → has ≡ there → added ≡ false → there ≡ true
was_there added has true is same e = refl
was_there added has false is same e = cc (is, same, e)

pub was_new : (added has there : Bool) → added ≡ not has → has ≡ there → added ≡ true → there ≡ false
was_new added has true is same e = cc (is, same, e)
was_new added has false is same e = refl

-- ---- numbers that ascend

absent_above : (b : Bool) (x last : ℕ) → (b ≡ true → x ≤ last) → last < x → b ≡ false
absent_above true x last low above = let h = low refl in absurd (omega arith)
absent_above false x last low above = refl

-- a number above all before it is new
pub above_new : (xs : List ℕ) (i last : ℕ) → ((x : ℕ) → is_in x (take i xs) ≡ true → x ≤ last) → last < get_or xs i 0
    → is_in (get_or xs i 0) (take i xs) ≡ false
above_new xs i last low above = absent_above (is_in (get_or xs i 0) (take i xs)) (get_or xs i 0) last (low (get_or xs i 0)) above

either_low : (a b : Bool) (x y last : ℕ) → (a ≡ true → x ≤ last) → (b ≡ true → x ≡ y) → last < y → (a || b) ≡ true → x ≤ y
either_low true b x y last f g above e = let h = f refl in omega arith
either_low false b x y last f g above e = let h = g e in omega arith

is_in_more : (x y : ℕ) (xs : List ℕ) → is_in x (xs ++ y ∷ []) ≡ (is_in x xs || nat_eq x y)
is_in_more x y [] = or_end (nat_eq x y)
  where
    or_end : (b : Bool) → (b || false) ≡ b
    or_end true = refl
    or_end false = refl
is_in_more x y (z ∷ xs) = ap (λ (b : Bool). nat_eq x z || b) (is_in_more x y xs) ∙ or_next (nat_eq x z) (is_in x xs) (nat_eq x y)
  where
    or_next : (a b c : Bool) → (a || (b || c)) ≡ ((a || b) || c)
    or_next true b c = refl
    or_next false b c = refl

eq_of : (x y : ℕ) → nat_eq x y ≡ true → x ≡ y
eq_of x y e = grind arith

pub above_low : (xs : List ℕ) (i last : ℕ) → i < length xs → ((x : ℕ) → is_in x (take i xs) ≡ true → x ≤ last) → last < get_or xs i 0
    → (x : ℕ) → is_in x (take (i + 1) xs) ≡ true → x ≤ get_or xs i 0
above_low xs i last h low above x e =
    let more : is_in x (take (i + 1) xs)
    ≡ (is_in x (take i xs) || nat_eq x (get_or xs i 0)) = ap (is_in x) (take_more xs i 0 h) ∙ is_in_more x (get_or xs i 0)
    (take i xs) in
    either_low (is_in x (take i xs)) (nat_eq x (get_or xs i 0)) x (get_or xs i 0) last (low x) (eq_of x (get_or xs i 0)) above
    (sym more ∙ e)
