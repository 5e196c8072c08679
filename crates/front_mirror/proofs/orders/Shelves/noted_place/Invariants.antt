-- The ids that were passed over.
use Rattle.std.proofs.Common.{◌≡◌, length, take}
use Rattle.front_mirror.specs.Orders.{ids_in}
use Rattle.front_mirror.proofs.orders.Shelves.noted_place.Given as goal

abbrev pub invariant-loop-i : goal.invariant-loop-i
invariant-loop-i l = l.before ≡ length (ids_in (take l.i l.self.items.items))
