-- What is left of the trees, in the room that is left, gives the same answer.
use Rattle.std.proofs.Common.{◌≡◌}
use Rattle.node_tree.specs.Nodes.{from, node_count}
use Rattle.page_tree.specs.NodesLeft.{nodes_left}
use Rattle.page_tree.proofs.walks.+room_beside_children.Given as goal

abbrev pub decreases-room_beside_children : goal.decreases-room_beside_children
decreases-room_beside_children l = node_count l.children.now

abbrev pub invariant-loop-i : goal.invariant-loop-i
invariant-loop-i l = nodes_left (node_count (from l.i l.children)) l.left ≡ nodes_left (node_count l.children) l.room
