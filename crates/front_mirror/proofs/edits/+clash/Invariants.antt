use Rattle.std.proofs.Common.{◌≡◌, drop}
use Rattle.node_tree.specs.Nodes.{nodes_of, node_count}
use Rattle.front_mirror.specs.Front.{any_node, clashes}
use Rattle.front_mirror.proofs.edits.+clash.Given as goal

abbrev pub decreases-clash : goal.decreases-clash
decreases-clash l = node_count (nodes_of l.nodes.now)

abbrev pub invariant-loop-node : goal.invariant-loop-node
invariant-loop-node l = any_node (clashes l.mirror) (nodes_of (drop l.node-index l.nodes)) ≡ any_node (clashes l.mirror) (nodes_of l.nodes)
