-- Panels at their places.
use Rattle.std.proofs.Common.{◌≡◌, ℕ, zero, suc, ◌+◌, ◌<◌, ◌≤◌, true, false, Option, Some, None, List, [], ◌∷◌, ◌++◌, length, get_or}
use Rattle.std.proofs.Common.{set, map}
use Rattle.std.proofs.Common.{refl, sym, ap, ◌∙◌, subst, arith, option_map, is_some, All, take, drop}
use Rattle.std.specs.Option.{ForSome}
use Rattle.std.specs.Prelude.{IfSome}
use Rattle.std.proofs.lemmas.List.Elements.{All-get_or, All-set, All-weaker}
use Rattle.front_mirror.specs.Places.{slot_at, emptied_at, open_at, closed_at}

module _ {A : Type 0} where
  pub slot-past : (i : ℕ) (os : List (Option A)) → length os ≤ i → slot_at i os ≡ None
  slot-past i [] past = refl
  slot-past zero (o ∷ os) past = absurd (omega arith)
  slot-past (suc i) (o ∷ os) past = slot-past i os (omega arith)

  pub slot-get : (i : ℕ) (os : List (Option A)) (d : Option A) → i < length os → slot_at i os ≡ get_or os i d
  slot-get i [] d inside = absurd (omega arith)
  slot-get zero (o ∷ os) d inside = refl
  slot-get (suc i) (o ∷ os) d inside = slot-get i os d (omega arith)

  pub slot-inside : (i : ℕ) (os : List (Option A)) → is_some (slot_at i os) ≡ true → i < length os
  slot-inside i [] e = absurd cc
  slot-inside zero (o ∷ os) e = omega arith
  slot-inside (suc i) (o ∷ os) e = let h = slot-inside i os e in omega arith

  pub emptied-set : (i : ℕ) (os : List (Option A)) → emptied_at i os ≡ set os i None
  emptied-set i [] = refl
  emptied-set zero (o ∷ os) = refl
  emptied-set (suc i) (o ∷ os) = ap (λ l. o ∷ l) (emptied-set i os)

  none_of : (o : Option A) → is_some o ≡ false → o ≡ None
  none_of None e = refl
  none_of (Some x) e = absurd cc

  pub emptied-same : (i : ℕ) (os : List (Option A)) → is_some (slot_at i os) ≡ false → os ≡ emptied_at i os
  emptied-same i [] e = refl
  emptied-same zero (o ∷ os) e = ap (λ p. p ∷ os) (none_of o e)
  emptied-same (suc i) (o ∷ os) e = ap (λ l. o ∷ l) (emptied-same i os e)

  pub emptied-all : (P : A → Type 0) (i : ℕ) (os : List (Option A)) → All (λ o. ForSome o P) os → All (λ o. ForSome o P) (emptied_at i os)
  emptied-all P i os all = subst (All (λ o. ForSome o P)) (sym (emptied-set i os))
      (All-set (λ o. ForSome o P) os i None (λ x e. absurd cc) all)

  pub slot-all : (P : A → Type 0) (i : ℕ) (os : List (Option A)) → All (λ o. ForSome o P) os → (x : A) → slot_at i os ≡ Some x → P x
  slot-all P i os all x e =
      let inside : i < length os = slot-inside i os (ap is_some e) in
      All-get_or (λ o. ForSome o P) os i None inside all x (sym (slot-get i os None inside) ∙ e)

module _ {A K : Type 0} (f : A → K) where
  pub slot-map : (i : ℕ) (os : List (Option A)) → slot_at i (map (option_map f) os) ≡ option_map f (slot_at i os)
  slot-map i [] = refl
  slot-map zero (o ∷ os) = refl
  slot-map (suc i) (o ∷ os) = slot-map i os

  pub emptied-map : (i : ℕ) (os : List (Option A)) → map (option_map f) (emptied_at i os) ≡ emptied_at i (map (option_map f) os)
  emptied-map i [] = refl
  emptied-map zero (o ∷ os) = refl
  emptied-map (suc i) (o ∷ os) = ap (λ l. option_map f o ∷ l) (emptied-map i os)

  pub kinds-open : (ps : List A) → map (option_map f) (map Some ps) ≡ map Some (map f ps)
  kinds-open [] = refl
  kinds-open (p ∷ ps) = ap (λ l. Some (f p) ∷ l) (kinds-open ps)

  pub is_slot-map : (i : ℕ) (os : List (Option A)) → is_some (slot_at i os) ≡ is_some (slot_at i (map (option_map f) os))
  is_slot-map i [] = refl
  is_slot-map zero (None ∷ os) = refl
  is_slot-map zero (Some x ∷ os) = refl
  is_slot-map (suc i) (o ∷ os) = is_slot-map i os

pub written : {X : Type 0} (xs ys : List X) (n : ℕ) → length xs ≡ n → take n (xs ++ drop (length xs) ys) ≡ xs
written xs ys n e = subst (λ k. take k (xs ++ drop (length xs) ys) ≡ xs) e (at xs (drop (length xs) ys)) where
  at : {X : Type 0} (xs ys : List X) → take (length xs) (xs ++ ys) ≡ xs
  at [] ys = refl
  at (x ∷ xs) ys = ap (λ l. x ∷ l) (at xs ys)

pub emptied-length : {A : Type 0} (i : ℕ) (os : List (Option A)) → length (emptied_at i os) ≡ length os
emptied-length i [] = refl
emptied-length zero (o ∷ os) = refl
emptied-length (suc i) (o ∷ os) = ap suc (emptied-length i os)

module _ {A : Type 0} (P : A → Type 0) where
  for_some : (o : Option A) → IfSome o P → ForSome o P
  for_some None h x e = absurd cc
  for_some (Some y) h x e = let same : y ≡ x = cc in subst P same h

  pub all_for : (os : List (Option A)) → All (λ o. IfSome o P) os → All (λ o. ForSome o P) os
  all_for os all = All-weaker (λ o. IfSome o P) (λ o. ForSome o P) for_some os all

pub any_some : {A : Type 0} (o : Option A) → IfSome o (λ p. Unit {0})
any_some None = tt
any_some (Some x) = tt

-- ---- places, which count from 1

module _ {A : Type 0} where
  pub open_above : (place i : ℕ) (os : List (Option A)) → i + 1 ≡ place → open_at place os ≡ slot_at i os
  open_above zero i os e = absurd (omega (arith, e))
  open_above (suc p) i os e = let same : p ≡ i = omega (arith, e) in ap (λ k. slot_at k os) same

  pub closed_above : (place i : ℕ) (os : List (Option A)) → i + 1 ≡ place → closed_at place os ≡ emptied_at i os
  closed_above zero i os e = absurd (omega (arith, e))
  closed_above (suc p) i os e = let same : p ≡ i = omega (arith, e) in ap (λ k. emptied_at k os) same

  pub closed-all : (P : A → Type 0) (place : ℕ) (os : List (Option A)) → All (λ o. ForSome o P) os
      → All (λ o. ForSome o P) (closed_at place os)
  closed-all P zero os all = all
  closed-all P (suc i) os all = emptied-all P i os all

  pub open-all : (P : A → Type 0) (place : ℕ) (os : List (Option A)) → All (λ o. ForSome o P) os → (x : A) → open_at place os ≡ Some x → P x
  open-all P zero os all x e = absurd cc
  open-all P (suc i) os all x e = slot-all P i os all x e

  pub closed-length : (place : ℕ) (os : List (Option A)) → length (closed_at place os) ≡ length os
  closed-length zero os = refl
  closed-length (suc i) os = emptied-length i os

module _ {A K : Type 0} (f : A → K) where
  pub open-map : (place : ℕ) (os : List (Option A)) → open_at place (map (option_map f) os) ≡ option_map f (open_at place os)
  open-map zero os = refl
  open-map (suc i) os = slot-map f i os

  pub closed-map : (place : ℕ) (os : List (Option A)) → map (option_map f) (closed_at place os) ≡ closed_at place (map (option_map f) os)
  closed-map zero os = refl
  closed-map (suc i) os = emptied-map f i os

  pub is_open-map : (place : ℕ) (os : List (Option A)) → is_some (open_at place os) ≡ is_some (open_at place (map (option_map f) os))
  is_open-map zero os = refl
  is_open-map (suc i) os = is_slot-map f i os
