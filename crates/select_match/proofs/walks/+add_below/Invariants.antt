-- What was added and what is left make up the whole.
use Rattle.std.proofs.Common.{◌≡◌, ◌≤◌, ◌++◌, map}
use Rattle.std.specs.List.{filter}
use Rattle.node_tree.specs.Nodes.{node_count}
use Rattle.page_tree.specs.Zippers.{below, serial_of}
use Rattle.selectors.specs.Lists.{list_seen}
use Rattle.select_match.specs.Matches.{list_matches}
use Rattle.select_match.proofs.WalkLemmas.{all_from, count_from}
use Rattle.select_match.proofs.walks.+add_below.Given as goal

abbrev pub decreases-add_below : goal.decreases-add_below
decreases-add_below l = node_count l.node.now.branch.children

abbrev pub invariant-loop-at : goal.invariant-loop-at
invariant-loop-at l = record {
  rest : l.found.items ++ map serial_of (filter (list_matches (list_seen l.l)) (all_from l.at))
      ≡ l.initial.found.items ++ map serial_of (filter (list_matches (list_seen l.l)) (below l.node));
  fewer : count_from l.at ≤ node_count l.node.branch.children;
}

abbrev pub decreases-loop-at : goal.decreases-loop-at
decreases-loop-at l = count_from l.at
