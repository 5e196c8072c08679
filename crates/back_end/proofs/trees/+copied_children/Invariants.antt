-- The copies so far, and the trees that are left, are the trees.
use Rattle.std.proofs.Common.{◌≡◌}
use Rattle.node_tree.specs.Nodes.{nodes_of, beside, from, node_count}
use Rattle.back_end.proofs.trees.+copied_children.Given as goal

abbrev pub decreases-copied_children : goal.decreases-copied_children
decreases-copied_children l = node_count l.children.now

abbrev pub invariant-loop-i : goal.invariant-loop-i
invariant-loop-i l = beside (nodes_of l.trees.items) (from l.i l.children) ≡ l.children
