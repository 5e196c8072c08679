-- What is counted and what is left to count make up the row.
use Rattle.std.proofs.Common.{◌≡◌, ℕ, ◌+◌, List, ◌∷◌, Option, length}
use Rattle.page_tree.specs.Zippers.{later}
use Rattle.select_match.specs.Families.{tally_count, count_of}
use Rattle.select_match.proofs.WalkLemmas.{from}
use Rattle.select_match.proofs.families.Family.of_row.Given as goal

abbrev pub invariant-loop-at : goal.invariant-loop-at
invariant-loop-at l = (key : Option (List ℕ)) → tally_count key l.after + count_of key (from later l.at)
    ≡ count_of key (l.first ∷ later l.first)

abbrev pub decreases-loop-at : goal.decreases-loop-at
decreases-loop-at l = length (from later l.at)
