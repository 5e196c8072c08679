-- Numbers in their order, cut into shelves.
use Rattle.std.specs.Prelude.{◌≡◌, ℕ, ◌+◌, ◌<◌, ◌≤◌, List, Some, length, take, slice_get}
use Rattle.std.specs.List.{flat_map}
use Rattle.number_map.specs.declared.shelves.Shelf.{Shelf}
use Rattle.number_map.specs.declared.shelves.Shelves.{Shelves}

-- the numbers of all shelves, one behind the other
abbrev pub numbers_in : List Shelf → List ℕ
numbers_in shelves = flat_map (λ (s : Shelf). s.numbers.items) shelves

-- the shelf at that place, if there is one, starts behind as many numbers as stand before it
abbrev pub StartAt : List Shelf → ℕ → Type 0
StartAt shelves k = (s : Shelf) → slice_get shelves k ≡ Some s → s.start ≡ length (numbers_in (take k shelves))

-- The numbers are counted, and each shelf knows how many stand before it.
pub record Counted (shelves : Shelves) : Type 0 where
  pub all : shelves.len ≡ length (numbers_in shelves.items.items)
  pub starts : (k : ℕ) → StartAt shelves.items.items k

-- A place among the numbers lies so many behind the start of that shelf, or at its end.
pub record Spot (shelves : List Shelf) (place k j : ℕ) : Type 0 where
  pub shelf : Shelf
  pub is : slice_get shelves k ≡ Some shelf
  pub fits : j ≤ length shelf.numbers.items
  pub before : length (numbers_in (take k shelves)) + j ≡ place

-- A place among the numbers lies so many behind the start of that shelf, and not at its end.
pub record Within (shelves : List Shelf) (place k j : ℕ) : Type 0 where
  pub spot : Spot shelves place k j
  pub low : j < length spot.shelf.numbers.items
