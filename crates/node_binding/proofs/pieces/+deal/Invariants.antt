use Rattle.std.proofs.Common.{◌≡◌, ◌+◌, ◌*◌, ◌++◌, ◌≤◌, map}
use Rattle.node_tree.specs.Nodes.{node_count, branch_count}
use Rattle.node_binding.specs.Deals.{dealt, more_told}
use Rattle.node_binding.specs.Pieces.{opening_of}
use Rattle.node_binding.proofs.pieces.+deal.Given as goal

abbrev pub decreases-deal_node : goal.decreases-deal_node
decreases-deal_node l = 2 * branch_count l.node.now

abbrev pub decreases-deal_children : goal.decreases-deal_children
decreases-deal_children l = 2 * node_count l.walk.now + 1

abbrev pub invariant-deal_children-loop-node : goal.invariant-deal_children-loop-node
invariant-deal_children-loop-node l = record {
  same : map opening_of l.openings.items ++ dealt more_told l.left l.levels l.walk
      ≡ map opening_of l.initial.openings.items ++ dealt more_told l.left l.levels l.initial.walk;
  few : node_count l.walk ≤ node_count l.initial.walk;
}

abbrev pub decreases-deal_children-loop-node : goal.decreases-deal_children-loop-node
decreases-deal_children-loop-node l = node_count l.walk
