-- The ids that were passed over, and the place from here on.
use Rattle.std.proofs.Common.{◌≡◌, ◌+◌, length, take, drop}
use Rattle.number_map.specs.Places.{number_place}
use Rattle.front_mirror.specs.Orders.{ids_in}
use Rattle.front_mirror.proofs.orders.Shelves.first_place.Given as goal

abbrev pub invariant-loop-i : goal.invariant-loop-i
invariant-loop-i l = record {
  before : l.before ≡ length (ids_in (take l.i l.self.items.items));
  place : l.before + number_place l.id (ids_in (drop l.i l.self.items.items)) ≡ number_place l.id (ids_in l.self.items.items);
}
