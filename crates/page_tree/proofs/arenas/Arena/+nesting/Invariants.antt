-- The trees so far, before those in the slots under the other keys.
use Rattle.std.proofs.Common.{◌≡◌, ◌+◌, ◌-◌, ◌*◌, ◌<◌, drop}
use Rattle.node_tree.specs.Nodes.{nodes_of, beside}
use Rattle.node_tree.specs.Arena.{slot_trees}
use Rattle.page_tree.specs.Arenas.{page_slots, slots_in, stored_trees}
use Rattle.page_tree.proofs.arenas.Arena.+nesting.Given as goal

abbrev pub decreases-nested : goal.decreases-nested
decreases-nested l = 2 * l.levels + 1

abbrev pub decreases-nested_all : goal.decreases-nested_all
decreases-nested_all l = 2 * l.levels

abbrev pub invariant-nested_all-loop-i : goal.invariant-nested_all-loop-i
invariant-nested_all-loop-i l =
    (0 < l.levels)
    × (beside (nodes_of l.trees.items) (slot_trees page_slots (slots_in l.self) (stored_trees l.self (l.levels - 1)) (drop l.i l.keys))
    ≡ slot_trees page_slots (slots_in l.self) (stored_trees l.self (l.levels - 1)) l.keys)
