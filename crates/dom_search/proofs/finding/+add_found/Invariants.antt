-- What was added and what is left make up the whole, and so does what the list still has.
use Rattle.std.proofs.Common.{◌≡◌, ◌≤◌, ◌++◌}
use Rattle.node_tree.specs.Nodes.{node_count}
use Rattle.page_tree.specs.Zippers.{below}
use Rattle.select_match.proofs.WalkLemmas.{all_from, count_from}
use Rattle.dom_search.specs.Found.{has_text}
use Rattle.dom_search.specs.Merged.{waiting, left_after, merged}
use Rattle.dom_search.proofs.finding.+add_found.Given as goal

abbrev pub decreases-add_found : goal.decreases-add_found
decreases-add_found l = node_count l.node.now.branch.children

abbrev pub invariant-loop-at : goal.invariant-loop-at
invariant-loop-at l = record {
  rest : l.found.items ++ merged (has_text l.part) (waiting l.listed) (all_from l.at)
      ≡ l.initial.found.items ++ merged (has_text l.part) (waiting l.initial.listed) (below l.node);
  left : left_after (waiting l.listed) (all_from l.at) ≡ left_after (waiting l.initial.listed) (below l.node);
  fewer : count_from l.at ≤ node_count l.node.branch.children;
}

abbrev pub decreases-loop-at : goal.decreases-loop-at
decreases-loop-at l = count_from l.at
