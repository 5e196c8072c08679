-- Lists of which some stay and all others are moved, around what is put in between.
use Rattle.std.proofs.Common.{◌≡◌, Bool, true, false, cond, List, [], ◌∷◌, ◌++◌, map, refl, ap, ◌∙◌}
use Rattle.std.specs.Prelude.{not}
use Rattle.std.specs.List.{AllByRecursion, filter}
use Rattle.sheet_laws.specs.Inserted.{put_between}

module _ {A : Type 0} (stays : A → Bool) where
  -- those that stay, of elements that do not, and of others before them
  kept_none : (ys : List A) → AllByRecursion (λ y. stays y ≡ false) ys → filter stays ys ≡ []
  kept_none [] all = refl
  kept_none (y ∷ ys) all = ap (λ b. cond b (y ∷ filter stays ys) (filter stays ys)) all.0 ∙ kept_none ys all.1

  kept : (xs ys : List A) → AllByRecursion (λ x. stays x ≡ true) xs → AllByRecursion (λ y. stays y ≡ false) ys
      → filter stays (xs ++ ys) ≡ xs
  kept [] ys all none = kept_none ys none
  kept (x ∷ xs) ys all none =
      ap (λ b. cond b (x ∷ filter stays (xs ++ ys)) (filter stays (xs ++ ys))) all.0
      ∙ ap (λ (zs : List A). x ∷ zs) (kept xs ys all.1 none)

  -- all others
  left_all : (ys : List A) → AllByRecursion (λ y. stays y ≡ false) ys → filter (λ y. not (stays y)) ys ≡ ys
  left_all [] all = refl
  left_all (y ∷ ys) all =
      ap (λ b. cond (not b) (y ∷ filter (λ y. not (stays y)) ys) (filter (λ y. not (stays y)) ys)) all.0
      ∙ ap (λ (zs : List A). y ∷ zs) (left_all ys all.1)

  left : (xs ys : List A) → AllByRecursion (λ x. stays x ≡ true) xs → AllByRecursion (λ y. stays y ≡ false) ys
      → filter (λ x. not (stays x)) (xs ++ ys) ≡ ys
  left [] ys all none = left_all ys none
  left (x ∷ xs) ys all none =
      ap (λ b. cond (not b) (x ∷ filter (λ x. not (stays x)) (xs ++ ys)) (filter (λ x. not (stays x)) (xs ++ ys))) all.0
      ∙ left xs ys all.1 none

  pub put_here : (move : A → A) (own xs ys : List A) → AllByRecursion (λ x. stays x ≡ true) xs
      → AllByRecursion (λ y. stays y ≡ false) ys → put_between stays move own (xs ++ ys) ≡ xs ++ (own ++ map move ys)
  put_here move own xs ys all none =
      let a = kept xs ys all none in
      let b = left xs ys all none in
      λ i. a i ++ (own ++ map move (b i))

-- elements that were changed
pub all_mapped : {A B : Type 0} (P : A → Type 0) (Q : B → Type 0) (f : A → B) → ((x : A) → P x → Q (f x)) → (xs : List A)
    → AllByRecursion P xs → AllByRecursion Q (map f xs)
all_mapped P Q f step [] all = tt
all_mapped P Q f step (x ∷ xs) all = (step x all.0, all_mapped P Q f step xs all.1)

pub all_anyway : {A : Type 0} (P : A → Type 0) → ((x : A) → P x) → (xs : List A) → AllByRecursion P xs
all_anyway P holds [] = tt
all_anyway P holds (x ∷ xs) = (holds x, all_anyway P holds xs)

pub all_append : {A : Type 0} (P : A → Type 0) (xs ys : List A) → AllByRecursion P xs → AllByRecursion P ys → AllByRecursion P (xs ++ ys)
all_append P [] ys a b = b
all_append P (x ∷ xs) ys a b = (a.0, all_append P xs ys a.1 b)

-- two changes in another order
pub map_swapped : {A : Type 0} (f g h l : A → A) → ((x : A) → f (g x) ≡ h (l x)) → (xs : List A) → map f (map g xs) ≡ map h (map l xs)
map_swapped f g h l e [] = refl
map_swapped f g h l e (x ∷ xs) = let a = e x in let more = map_swapped f g h l e xs in λ i. a i ∷ more i
