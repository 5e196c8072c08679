-- Members of a list.
use Rattle.std.specs.Prelude.{List, ◌∷◌}

-- x is one of the list
pub data IsIn {A : Type 0} (x : A) : List A → Type 0 where
  at_head : (xs : List A) → IsIn x (x ∷ xs)
  in_tail : (y : A) (xs : List A) → IsIn x xs → IsIn x (y ∷ xs)
