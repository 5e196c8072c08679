-- What is planted so far.
use Rattle.std.proofs.Common.{◌≤◌, ◌+◌, ◌*◌, Some}
use Rattle.node_tree.specs.Nodes.{nodes_of, node_count, branch_count}
use Rattle.node_tree.proofs.ArenaLemmas.{Planting}
use Rattle.page_tree.specs.Arenas.{page_slots, slots_in, Filed}
use Rattle.page_tree.proofs.arenas.Arena.+planting.Given as goal

abbrev pub decreases-plant : goal.decreases-plant
decreases-plant l = 2 * branch_count l.tree

abbrev pub decreases-plant_all : goal.decreases-plant_all
decreases-plant_all l = 2 * node_count (nodes_of l.trees.items) + 1

abbrev pub invariant-plant_all-loop-tree : goal.invariant-plant_all-loop-tree
invariant-plant_all-loop-tree l =
    (goal.iterator-plant_all-loop-tree).can_next l.tree-iterator
    × (goal.iterator-plant_all-loop-tree).is_finite l.tree-iterator
    × Filed l.self
    × Planting page_slots (slots_in l.fn.self) (slots_in l.self) (nodes_of l.fn.trees.items) (nodes_of l.tree-iterator.rest.items)
    (Some l.parent) l.keys
    × (node_count (nodes_of l.tree-iterator.rest.items) ≤ node_count (nodes_of l.fn.trees.items))
