-- The siblings that were taken and those that are left make up the whole.
use Rattle.std.proofs.Common.{◌≡◌, ◌++◌, length}
use Rattle.page_tree.specs.Zippers.{earlier}
use Rattle.select_match.proofs.WalkLemmas.{from}
use Rattle.select_match.proofs.stepped.siblings_before.Given as goal

abbrev pub invariant-loop-at : goal.invariant-loop-at
invariant-loop-at l = l.before.items ++ from earlier l.at ≡ earlier l.node

abbrev pub decreases-loop-at : goal.decreases-loop-at
decreases-loop-at l = length (from earlier l.at)
