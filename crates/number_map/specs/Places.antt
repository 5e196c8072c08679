-- Places in a list of numbers.
use Rattle.std.specs.Prelude.{ℕ, suc, ◌+◌, ◌≤◌, ◌==◌, cond, is_some, List, [], ◌∷◌}
use Rattle.std.specs.Ordering.{nat_cmp}
use Rattle.std.specs.FinMap as map

-- the place of the first that is the number, and else how many they are
abbrev pub number_place : ℕ → List ℕ → ℕ
number_place x [] = 0
number_place x (k ∷ ks) = cond {A = ℕ} (k == x) 0 (suc (number_place x ks))

-- how often the number stands in the list
abbrev pub times_in : ℕ → List ℕ → ℕ
times_in x [] = 0
times_in x (k ∷ ks) = cond {A = ℕ} (k == x) 1 0 + times_in x ks

-- each number of the list has an entry in the map, and none stands twice in the list
abbrev pub HasSeats : map.FinMap nat_cmp ℕ → List ℕ → Type 0
HasSeats seats ks = (x : ℕ) → times_in x ks ≤ cond {A = ℕ} (is_some (map.get seats x)) 1 0
