-- What is counted and what is left to count make up the row.
use Rattle.std.proofs.Common.{◌≡◌, ◌+◌, ◌∷◌, None, length}
use Rattle.page_tree.specs.Zippers.{later}
use Rattle.select_match.specs.Families.{count_of}
use Rattle.select_match.proofs.WalkLemmas.{from}
use Rattle.select_match.proofs.families.Line.of_row.Given as goal

abbrev pub invariant-loop-at : goal.invariant-loop-at
invariant-loop-at l = l.after + count_of None (from later l.at) ≡ count_of None (l.first ∷ later l.first)

abbrev pub decreases-loop-at : goal.decreases-loop-at
decreases-loop-at l = length (from later l.at)
