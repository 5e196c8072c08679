-- Numbers under keys that follow one another.
use Rattle.std.specs.Prelude.{ℕ, suc, ◌==◌, cond, Option, None, Some, List, [], ◌∷◌}
use Rattle.std.specs.Option.{option_or}

-- what stands under the key in a row whose first place is that of the key `first`
abbrev pub row_at : ℕ → List (Option ℕ) → ℕ → Option ℕ
row_at first [] key = None
row_at first (place ∷ row) key = option_or (cond (key == first) place None) (row_at (suc first) row key)

-- the keys that have a number, and these, in the order of the keys
abbrev pub row_pairs : ℕ → List (Option ℕ) → List (ℕ × ℕ)
row_pairs first [] = []
row_pairs first (None ∷ row) = row_pairs (suc first) row
row_pairs first (Some number ∷ row) = (first, number) ∷ row_pairs (suc first) row
