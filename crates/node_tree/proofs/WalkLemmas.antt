-- A list gone through, while what is made of each of its items is put behind the rest.
use Rattle.std.proofs.Common.{◌≡◌, List, [], ◌∷◌, ◌++◌, sym, ap, ◌∙◌, append_assoc, append-nil}
use Rattle.std.specs.List.{flat_map}

module _ {A B : Type 0} (f : A → List B) (all now : List B) (xs : List A) (so_far : now ++ flat_map f xs ≡ all) where
  -- one more item
  pub walk_turn : (next : List B) (rest : List A) (x : A) → xs ≡ x ∷ rest → next ≡ now ++ f x → next ++ flat_map f rest ≡ all
  walk_turn next rest x is step =
      ap (λ (l : List B). l ++ flat_map f rest) step ∙ append_assoc now (f x) (flat_map f rest)
      ∙ ap (λ (ys : List A). now ++ flat_map f ys) (sym is) ∙ so_far

  -- and none more
  pub walk_end : xs ≡ [] → now ≡ all
  walk_end is = sym (append-nil now) ∙ ap (λ (ys : List A). now ++ flat_map f ys) (sym is) ∙ so_far
