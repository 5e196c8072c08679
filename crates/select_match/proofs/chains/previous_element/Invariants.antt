-- The siblings that are left give the same answer.
use Rattle.std.proofs.Common.{◌≡◌, length}
use Rattle.page_tree.specs.Zippers.{earlier, first_node}
use Rattle.select_match.specs.Elements.{elements}
use Rattle.select_match.proofs.WalkLemmas.{from}
use Rattle.select_match.proofs.chains.previous_element.Given as goal

abbrev pub invariant-loop-at : goal.invariant-loop-at
invariant-loop-at l = first_node (elements (from earlier l.at)) ≡ first_node (elements (earlier l.node))

abbrev pub decreases-loop-at : goal.decreases-loop-at
decreases-loop-at l = length (from earlier l.at)
