-- What things say, one after the other, where some of them say nothing.
use Rattle.std.specs.Prelude.{List, [], ◌∷◌}

-- what these things say, in their order; a thing that says nothing is left out
pub data AreSaid {A B : Type 0} (Says : A → B → Type 0) : List A → List B → Type 0 where
  none_said : AreSaid Says [] []
  says_and : {xs : List A} {ys : List B} (x : A) (y : B) → Says x y → AreSaid Says xs ys → AreSaid Says (x ∷ xs) (y ∷ ys)
  silent_and : {xs : List A} {ys : List B} (x : A) → ((y : B) → Says x y → ⊥) → AreSaid Says xs ys → AreSaid Says (x ∷ xs) ys
