use Rattle.std.proofs.Common.{◌≡◌, drop}
use Rattle.std.specs.Prelude.{nat_le}
use Rattle.node_tree.specs.Nodes.{nodes_of, node_count, height}
use Rattle.front_mirror.proofs.checks.+are_within.Given as goal

abbrev pub decreases-are_within : goal.decreases-are_within
decreases-are_within l = node_count (nodes_of l.nodes.now)

abbrev pub invariant-loop-node : goal.invariant-loop-node
invariant-loop-node l = nat_le (height (nodes_of (drop l.node-index l.nodes))) l.levels ≡ nat_le (height (nodes_of l.nodes)) l.levels
