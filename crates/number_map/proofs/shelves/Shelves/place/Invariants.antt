-- The place, by that from here on.
use Rattle.std.proofs.Common.{◌≡◌, ◌+◌, length, take, drop}
use Rattle.number_map.specs.Places.{number_place}
use Rattle.number_map.specs.Shelves.{numbers_in}
use Rattle.number_map.proofs.shelves.Shelves.place.Given as goal

abbrev pub invariant-loop-k : goal.invariant-loop-k
invariant-loop-k l = number_place l.number (numbers_in l.self.items.items)
    ≡ length (numbers_in (take l.k l.self.items.items)) + number_place l.number (numbers_in (drop l.k l.self.items.items))
