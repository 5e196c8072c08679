-- The selectors that are left give the same answer.
use Rattle.std.proofs.Common.{◌≡◌, drop}
use Rattle.selectors.specs.Lists.{list_seen}
use Rattle.select_match.specs.Matches.{list_matches}
use Rattle.select_match.proofs.walks.list_matches_node.Given as goal

abbrev pub invariant-loop-i : goal.invariant-loop-i
invariant-loop-i l = list_matches (drop l.i (list_seen l.l)) l.node ≡ list_matches (list_seen l.l) l.node
