-- The ids that were passed over, and how many are left.
use Rattle.std.proofs.Common.{◌≡◌, ◌+◌, length, take}
use Rattle.front_mirror.specs.Orders.{ids_in}
use Rattle.front_mirror.proofs.orders.Shelves.shelf_at.Given as goal

abbrev pub invariant-loop-i : goal.invariant-loop-i
invariant-loop-i l = length (ids_in (take l.i l.self.items.items)) + l.left ≡ l.place
