-- What is left of the trees, in the room that is left, gives the same answer.
use Rattle.std.proofs.Common.{◌≡◌, drop}
use Rattle.node_tree.specs.Nodes.{nodes_of, node_count}
use Rattle.page_tree.specs.NodesLeft.{nodes_left}
use Rattle.page_tree.proofs.tree_limits.+room_beside_trees.Given as goal

abbrev pub decreases-room_beside_trees : goal.decreases-room_beside_trees
decreases-room_beside_trees l = goal.size-room_beside_trees l

abbrev pub invariant-loop-tree : goal.invariant-loop-tree
invariant-loop-tree l = nodes_left (node_count (nodes_of (drop l.tree-index l.trees))) l.left
    ≡ nodes_left (node_count (nodes_of l.trees)) l.room
