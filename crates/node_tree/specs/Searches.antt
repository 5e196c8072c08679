-- A name looked for among attributes that ascend by their names' bytes.
use Rattle.std.specs.Prelude.{ℕ, suc, ◌+◌, List, [], ◌∷◌, Result, Ok, Err}
use Rattle.std.specs.Ordering.{nat_cmp, match_ordering}
use Rattle.std.specs.Cmp.Lexicographic.{slice_cmp}
use Rattle.node_tree.specs.Labels.{Pair}

-- a place so many further on
abbrev pub shifted : ℕ → Result ℕ ℕ → Result ℕ ℕ
shifted n (Ok i) = Ok (n + i)
shifted n (Err i) = Err (n + i)

-- the place of a search, or where the name would stand, one further on
abbrev pub further : Result ℕ ℕ → Result ℕ ℕ
further (Ok i) = Ok (suc i)
further (Err i) = Err (suc i)

-- the place of the first attribute whose name is not before this one: Ok where it has the name, and else Err
abbrev pub search_name : List ℕ → List Pair → Result ℕ ℕ
search_name name [] = Err 0
search_name name (q ∷ qs) = match_ordering (slice_cmp nat_cmp name q.0) (Err 0) (Ok 0) (further (search_name name qs))
