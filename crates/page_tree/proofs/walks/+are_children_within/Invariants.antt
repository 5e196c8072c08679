-- What is left of the trees gives the same answer.
use Rattle.std.proofs.Common.{◌≡◌, nat_le}
use Rattle.node_tree.specs.Nodes.{from, height}
use Rattle.page_tree.proofs.walks.+are_children_within.Given as goal

abbrev pub decreases-are_children_within : goal.decreases-are_children_within
decreases-are_children_within l = l.levels

abbrev pub invariant-loop-i : goal.invariant-loop-i
invariant-loop-i l = nat_le (height (from l.i l.children)) l.levels ≡ nat_le (height l.children) l.levels
