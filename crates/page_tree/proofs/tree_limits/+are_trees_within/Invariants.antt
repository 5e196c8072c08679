-- What is left of the trees gives the same answer.
use Rattle.std.proofs.Common.{◌≡◌, drop, nat_le}
use Rattle.node_tree.specs.Nodes.{nodes_of, height}
use Rattle.page_tree.proofs.tree_limits.+are_trees_within.Given as goal

abbrev pub decreases-are_trees_within : goal.decreases-are_trees_within
decreases-are_trees_within l = goal.size-are_trees_within l

abbrev pub invariant-loop-tree : goal.invariant-loop-tree
invariant-loop-tree l = nat_le (height (nodes_of (drop l.tree-index l.trees))) l.levels ≡ nat_le (height (nodes_of l.trees)) l.levels
