-- What is left of the forms, in the room that is left, gives the same answer.
use Rattle.std.proofs.Common.{◌≡◌, drop}
use Rattle.node_tree.specs.Nodes.{nodes_of, node_count}
use Rattle.page_tree.specs.NodesLeft.{nodes_left}
use Rattle.page_tree.proofs.limits.+room_beside.Given as goal

abbrev pub decreases-room_beside : goal.decreases-room_beside
decreases-room_beside l = goal.size-room_beside l

abbrev pub invariant-loop-form : goal.invariant-loop-form
invariant-loop-form l = nodes_left (node_count (nodes_of (drop l.form-index l.forms))) l.left
    ≡ nodes_left (node_count (nodes_of l.forms)) l.room
