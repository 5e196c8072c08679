-- The nodes that are left give the same answer; a search has fewer compounds than the one that it is part of.
use Rattle.std.proofs.Common.{◌≡◌, ◌+◌, ◌*◌, map, reverse, length}
use Rattle.std.specs.List.{list_any}
use Rattle.page_tree.specs.Zippers.{ancestors, earlier}
use Rattle.selectors.specs.Forms.{compound_seen}
use Rattle.select_match.specs.Matches.{chain_holds}
use Rattle.select_match.proofs.WalkLemmas.{from, above_of}
use Rattle.select_match.proofs.chains.+look.Given as goal

abbrev pub decreases-look_above : goal.decreases-look_above
decreases-look_above l = 3 * length l.left.now + 1

abbrev pub decreases-look_at_parent : goal.decreases-look_at_parent
decreases-look_at_parent l = 3 * length l.left.now + 1

abbrev pub decreases-look_at_previous : goal.decreases-look_at_previous
decreases-look_at_previous l = 3 * length l.left.now + 1

abbrev pub decreases-look_before : goal.decreases-look_before
decreases-look_before l = 3 * length l.left.now + 1

abbrev pub decreases-look_from : goal.decreases-look_from
decreases-look_from l = 3 * length l.compounds.now

abbrev pub decreases-look_left : goal.decreases-look_left
decreases-look_left l = 3 * length l.left.now + 2

abbrev pub invariant-look_above-loop-at : goal.invariant-look_above-loop-at
invariant-look_above-loop-at l = list_any (chain_holds (reverse (map compound_seen l.left))) (from ancestors l.at)
    ≡ list_any (chain_holds (reverse (map compound_seen l.left))) (ancestors l.node)

abbrev pub decreases-look_above-loop-at : goal.decreases-look_above-loop-at
decreases-look_above-loop-at l = length (from ancestors l.at)

abbrev pub invariant-look_before-loop-at : goal.invariant-look_before-loop-at
invariant-look_before-loop-at l = record {
  rest : list_any (chain_holds (reverse (map compound_seen l.left))) (from earlier l.at)
      ≡ list_any (chain_holds (reverse (map compound_seen l.left))) (earlier l.node);
  above : above_of l.node.above l.at ≡ l.node.above;
}

abbrev pub decreases-look_before-loop-at : goal.decreases-look_before-loop-at
decreases-look_before-loop-at l = length (from earlier l.at)
