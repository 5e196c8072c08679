-- How often a number stands in a list, and where.
use Rattle.std.specs.Prelude.{ℕ, suc, ◌+◌, Bool, cond, not, ◌==◌, List, [], ◌∷◌}

-- how often s stands in the list
abbrev pub times : ℕ → List ℕ → ℕ
times s [] = 0
times s (x ∷ xs) = cond {A = ℕ} (x == s) 1 0 + times s xs

-- a number stands in the list at least once
abbrev pub stands_in : ℕ → List ℕ → Bool
stands_in s xs = not (times s xs == 0)

-- the last place, counted from 1, at which s stands; 0 where it stands nowhere
abbrev pub last_standing : List ℕ → ℕ → ℕ
last_standing [] s = 0
last_standing (x ∷ xs) s = cond {A = ℕ} (last_standing xs s == 0) (cond {A = ℕ} (x == s) 1 0) (suc (last_standing xs s))
