-- Ids of children in their order.
use Rattle.std.specs.Prelude.{ℕ, ◌==◌, cond, List, [], ◌∷◌}

-- the ids with one more behind another
abbrev pub id_behind : ℕ → ℕ → List ℕ → List ℕ
id_behind previous x [] = []
id_behind previous x (k ∷ ks) = cond (k == previous) (k ∷ x ∷ ks) (k ∷ id_behind previous x ks)

-- the ids with this one put behind the other, or first where the other is 0
abbrev pub id_after : ℕ → ℕ → List ℕ → List ℕ
id_after previous x ks = cond (previous == 0) (x ∷ ks) (id_behind previous x ks)

-- the ids without the first that is this one
abbrev pub without_id : ℕ → List ℕ → List ℕ
without_id x [] = []
without_id x (k ∷ ks) = cond (k == x) ks (k ∷ without_id x ks)
