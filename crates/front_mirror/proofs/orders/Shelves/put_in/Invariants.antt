-- The shelves before stay, and the ids that are left stand before those that were put in.
use Rattle.std.proofs.Common.{◌≡◌, ◌≤◌, ◌++◌, length, take, drop}
use Rattle.front_mirror.specs.Orders.{ids_in}
use Rattle.front_mirror.proofs.orders.Shelves.put_in.Given as goal

abbrev pub invariant-loop-ids : goal.invariant-loop-ids
invariant-loop-ids l = record {
  known : l.start ≤ length l.self.items.items;
  front : take l.start l.self.items.items ≡ take l.start l.initial.self.items.items;
  rest : l.ids.items ++ ids_in (drop l.start l.self.items.items)
      ≡ l.initial.ids.items ++ ids_in (drop l.start l.initial.self.items.items);
}

abbrev pub decreases-loop-ids : goal.decreases-loop-ids
decreases-loop-ids l = length l.ids.items
