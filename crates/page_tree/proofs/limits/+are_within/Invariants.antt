-- What is left of the forms gives the same answer.
use Rattle.std.proofs.Common.{◌≡◌, drop, nat_le}
use Rattle.node_tree.specs.Nodes.{nodes_of, height}
use Rattle.page_tree.proofs.limits.+are_within.Given as goal

abbrev pub decreases-are_within : goal.decreases-are_within
decreases-are_within l = goal.size-are_within l

abbrev pub invariant-loop-form : goal.invariant-loop-form
invariant-loop-form l = nat_le (height (nodes_of (drop l.form-index l.forms))) l.levels ≡ nat_le (height (nodes_of l.forms)) l.levels
