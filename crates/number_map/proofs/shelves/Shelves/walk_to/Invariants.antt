-- The place lies behind the shelves that were passed over.
use Rattle.std.proofs.Common.{◌≤◌, length, take}
use Rattle.number_map.specs.Shelves.{numbers_in}
use Rattle.number_map.proofs.shelves.Shelves.walk_to.Given as goal

abbrev pub invariant-loop-k : goal.invariant-loop-k
invariant-loop-k l = length (numbers_in (take l.k l.self.items.items)) ≤ l.place
