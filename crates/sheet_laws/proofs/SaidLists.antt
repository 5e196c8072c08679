-- What things say in their order, as a relation and as a list that is made of them.
use Rattle.std.proofs.Common.{◌≡◌, List, [], ◌∷◌, ◌++◌, Option, Some, None, refl, sym, ap, ◌∙◌}
use Rattle.std.specs.Prelude.{option_to_list}
use Rattle.std.specs.List.{AllByRecursion}
use Rattle.selectors.proofs.Choices.{none_some}
use Rattle.sheet_laws.specs.Said.{AreSaid, none_said, says_and, silent_and}

-- what a function gives of each, in their order
unfoldable pub listed : {A B : Type 0} → (A → Option B) → List A → List B
listed f [] = []
listed f (x ∷ xs) = option_to_list (f x) ++ listed f xs

-- a function gives what things say, of those that are well
pub record Tells {A B : Type 0} (Well : A → Type 0) (Says : A → B → Type 0) (f : A → Option B) : Type 0 where
  pub sound : (x : A) (y : B) → Well x → f x ≡ Some y → Says x y
  pub whole : (x : A) (y : B) → Says x y → f x ≡ Some y

pub said_is : {A B : Type 0} (Well : A → Type 0) (Says : A → B → Type 0) (f : A → Option B) → Tells Well Says f → (xs : List A)
    → AllByRecursion Well xs → AreSaid Says xs (listed f xs)
unfolding listed
said_is Well Says f law [] well = none_said
said_is {A = A} {B = B} Well Says f law (x ∷ xs) well = by (f x) refl (said_is Well Says f law xs well.1)
  where
    by : (o : Option B) → f x ≡ o → AreSaid Says xs (listed f xs) → AreSaid Says (x ∷ xs) (option_to_list o ++ listed f xs)
    by None e more = silent_and x (λ y s. none_some y (sym e ∙ law.whole x y s)) more
    by (Some y) e more = says_and x y (law.sound x y well.0 e) more

pub said_only : {A B : Type 0} (Well : A → Type 0) (Says : A → B → Type 0) (f : A → Option B) → Tells Well Says f
    → (xs : List A) (ys : List B) → AllByRecursion Well xs → AreSaid Says xs ys → ys ≡ listed f xs
unfolding listed
said_only Well Says f law _ _ well none_said = refl
said_only Well Says f law _ _ well (says_and {xs = xs} {ys = ys} x y s more) =
    ap (λ zs. y ∷ zs) (said_only Well Says f law xs ys well.1 more) ∙ ap (λ o. option_to_list o ++ listed f xs) (sym (law.whole x y s))
said_only {A = A} {B = B} Well Says f law _ _ well
    (silent_and {xs = xs} {ys = ys} x none more) = said_only Well Says f law xs ys well.1 more ∙ by (f x) refl
  where
    by : (o : Option B) → f x ≡ o → listed f xs ≡ option_to_list o ++ listed f xs
    by None e = refl
    by (Some y) e = absurd (none y (law.sound x y well.0 e))
