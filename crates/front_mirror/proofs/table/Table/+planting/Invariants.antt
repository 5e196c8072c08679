-- What is left, planted into what there is, is all of it planted.
use Rattle.std.proofs.Common.{◌≡◌, ◌≤◌, ◌+◌, ◌*◌}
use Rattle.node_tree.specs.Nodes.{nodes_of, node_count, branch_count}
use Rattle.front_mirror.specs.Shown.{shown_of}
use Rattle.front_mirror.specs.Tables.{table_slots, table_ids, planted, serials_listed}
use Rattle.front_mirror.proofs.table.Table.+planting.Given as goal

abbrev pub decreases-plant : goal.decreases-plant
decreases-plant l = 2 * branch_count l.tree

abbrev pub decreases-plant_all : goal.decreases-plant_all
decreases-plant_all l = 2 * node_count (nodes_of l.trees.items) + 1

abbrev pub invariant-plant_all-loop-tree : goal.invariant-plant_all-loop-tree
invariant-plant_all-loop-tree l =
    (goal.iterator-plant_all-loop-tree).can_next l.tree-iterator
    × (goal.iterator-plant_all-loop-tree).is_finite l.tree-iterator
    × (planted l.above (shown_of l.tree-iterator.rest.items) (table_slots l.self)
    ≡ planted l.above (shown_of l.fn.trees.items) (table_slots l.fn.self))
    × (serials_listed (shown_of l.tree-iterator.rest.items) (table_ids l.self)
    ≡ serials_listed (shown_of l.fn.trees.items) (table_ids l.fn.self))
    × (node_count (nodes_of l.tree-iterator.rest.items) ≤ node_count (nodes_of l.fn.trees.items))
