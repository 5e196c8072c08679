-- The shelves before stay, and the ids that were taken out stood before those that are left.
use Rattle.std.proofs.Common.{◌≡◌, ◌≤◌, ◌++◌, length, take, drop}
use Rattle.front_mirror.specs.Orders.{ids_in}
use Rattle.front_mirror.proofs.orders.Shelves.take_out.Given as goal

abbrev pub invariant-loop-self : goal.invariant-loop-self
invariant-loop-self l = record {
  known : l.start ≤ length l.self.items.items;
  front : take l.start l.self.items.items ≡ take l.start l.initial.self.items.items;
  rest : l.ids.items ++ ids_in (drop l.start l.self.items.items) ≡ ids_in (drop l.start l.initial.self.items.items);
}

abbrev pub decreases-loop-self : goal.decreases-loop-self
decreases-loop-self l = goal.left-loop-self l
