-- What was counted and what is left to count make up the index.
use Rattle.std.proofs.Common.{◌≡◌, ◌+◌, length}
use Rattle.std.specs.List.{filter}
use Rattle.select_match.specs.Elements.{counts, side, index}
use Rattle.select_match.proofs.WalkLemmas.{from}
use Rattle.select_match.proofs.elements.index_within.Given as goal

abbrev pub invariant-loop-at : goal.invariant-loop-at
invariant-loop-at l = l.count + length (filter (counts l.kind l.node) (from (side l.kind) l.at)) ≡ index l.kind l.node

abbrev pub decreases-loop-at : goal.decreases-loop-at
decreases-loop-at l = length (from (side l.kind) l.at)
