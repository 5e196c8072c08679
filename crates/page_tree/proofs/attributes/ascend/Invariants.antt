-- What is left of the pairs gives the same answer.
use Rattle.std.proofs.Common.{◌≡◌, length}
use Rattle.node_tree.specs.Labels.{is_ascending}
use Rattle.page_tree.proofs.attributes.ascend.Given as goal

abbrev pub decreases-loop-first : goal.decreases-loop-first
decreases-loop-first l = length l.rest

abbrev pub invariant-loop-first : goal.invariant-loop-first
invariant-loop-first l = is_ascending l.rest ≡ is_ascending l.pairs
