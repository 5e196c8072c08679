-- The children that are left give the same answer.
use Rattle.std.proofs.Common.{◌≡◌, length}
use Rattle.std.specs.List.{list_any}
use Rattle.page_tree.specs.Zippers.{later, children_of}
use Rattle.select_match.specs.Elements.{fills}
use Rattle.select_match.proofs.WalkLemmas.{from}
use Rattle.select_match.proofs.elements.is_filled.Given as goal

abbrev pub invariant-loop-at : goal.invariant-loop-at
invariant-loop-at l = list_any fills (from later l.at) ≡ list_any fills (children_of l.node)

abbrev pub decreases-loop-at : goal.decreases-loop-at
decreases-loop-at l = length (from later l.at)
