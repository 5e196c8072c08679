use Rattle.std.proofs.Common.{◌≡◌, drop}
use Rattle.node_tree.specs.Nodes.{nodes_of, node_count}
use Rattle.front_mirror.specs.Front.{is_kin}
use Rattle.front_mirror.proofs.checks.+are_kin.Given as goal

abbrev pub decreases-are_kin : goal.decreases-are_kin
decreases-are_kin l = node_count (nodes_of l.nodes.now)

abbrev pub invariant-loop-node : goal.invariant-loop-node
invariant-loop-node l = is_kin l.parent (nodes_of (drop l.node-index l.nodes)) ≡ is_kin l.parent (nodes_of l.nodes)
