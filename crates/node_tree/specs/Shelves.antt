-- Attributes in their order, cut into shelves.
use Rattle.std.specs.Prelude.{◌≡◌, ℕ, suc, ◌+◌, ◌<◌, ◌≤◌, List, [], ◌∷◌, length, take, slice_get, Option, Some, None, Result}
use Rattle.std.specs.Prelude.{Ok, Err, Vec, ⊤}
use Rattle.std.specs.List.{flat_map}
use Rattle.std.specs.declared.alloc.Global.{Global}
use Rattle.node_tree.specs.declared.shelves.Shelves.{Shelves}
use Rattle.node_tree.specs.Labels.{Pair}

-- some pairs that follow one another
abbrev pub Shelf : Type 0
Shelf = Vec Pair Global

-- the pairs of shelves, one behind the other
abbrev pub pairs_of : List Shelf → List Pair
pairs_of shelves = flat_map (λ (s : Shelf). s.items) shelves

-- all shelves, of which the first is at place 0
abbrev pub all_of : Shelves → List Shelf
all_of s = s.first ∷ s.later.items

-- the pairs of all shelves
abbrev pub pairs_in : Shelves → List Pair
pairs_in s = pairs_of (all_of s)

-- the place among all shelves of one among the later ones; none of these is the first
abbrev pub number_of : Option ℕ → ℕ
number_of None = 0
number_of (Some k) = suc k

-- each of the shelves has a pair
abbrev pub AreFilled : List Shelf → Type 0
AreFilled [] = ⊤
AreFilled (s ∷ ss) = (0 < length s.items) × AreFilled ss

-- The pairs are counted, and no later shelf is empty.
pub record Kept (shelves : Shelves) : Type 0 where
  pub count : shelves.len ≡ length (pairs_in shelves)
  pub filled : AreFilled shelves.later.items

-- how many pairs stand before a shelf
abbrev pub start_of : List Shelf → ℕ → ℕ
start_of shelves k = length (pairs_of (take k shelves))

-- the place among all pairs of the one that stands so many behind the start of a shelf
abbrev pub place_of : List Shelf → ℕ → ℕ → ℕ
place_of shelves k j = start_of shelves k + j

-- A place lies in that shelf, or at its end.
pub record IsSpot (shelves : List Shelf) (k j : ℕ) : Type 0 where
  pub shelf : Shelf
  pub is : slice_get shelves k ≡ Some shelf
  pub fits : j ≤ length shelf.items

-- A place lies in that shelf, and not at its end.
pub record IsWithin (shelves : List Shelf) (k j : ℕ) : Type 0 where
  pub shelf : Shelf
  pub is : slice_get shelves k ≡ Some shelf
  pub low : j < length shelf.items

-- What a search in a shelf answers: the place of a pair there, or one to put a pair at.
abbrev pub IsFound : List Shelf → ℕ → Result ℕ ℕ → Type 0
IsFound shelves k (Ok j) = IsWithin shelves k j
IsFound shelves k (Err j) = IsSpot shelves k j
