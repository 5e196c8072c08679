-- The place from here on, and those before.
use Rattle.std.proofs.Common.{◌≡◌, ◌+◌, drop}
use Rattle.number_map.specs.Places.{number_place}
use Rattle.front_mirror.proofs.orders.IdList.place.Given as goal

abbrev pub invariant-loop-i : goal.invariant-loop-i
invariant-loop-i l = number_place l.id l.ids ≡ l.i + number_place l.id (drop l.i l.ids)
