-- What is left of the nodes gives the same answer.
use Rattle.std.proofs.Common.{◌≡◌, ◌≤◌}
use Rattle.std.specs.List.{find}
use Rattle.node_tree.specs.Nodes.{node_count}
use Rattle.page_tree.specs.Zippers.{below}
use Rattle.selectors.specs.Lists.{list_seen}
use Rattle.select_match.specs.Matches.{list_matches}
use Rattle.select_match.proofs.WalkLemmas.{all_from, count_from}
use Rattle.select_match.proofs.walks.+first_below.Given as goal

abbrev pub decreases-first_below : goal.decreases-first_below
decreases-first_below l = node_count l.node.now.branch.children

abbrev pub invariant-loop-at : goal.invariant-loop-at
invariant-loop-at l = record {
  rest : find (list_matches (list_seen l.l)) (all_from l.at) ≡ find (list_matches (list_seen l.l)) (below l.node);
  fewer : count_from l.at ≤ node_count l.node.branch.children;
}

abbrev pub decreases-loop-at : goal.decreases-loop-at
decreases-loop-at l = count_from l.at
