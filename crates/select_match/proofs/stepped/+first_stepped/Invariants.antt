-- What is left gives the same answer; what holds around the node that comes next is known.
use Rattle.std.proofs.Common.{◌≡◌, ◌≤◌, [], map, Some}
use Rattle.std.specs.List.{find}
use Rattle.node_tree.specs.Nodes.{node_count}
use Rattle.page_tree.specs.Zippers.{Zipper, below}
use Rattle.select_match.specs.Steps.{step_seen, chains_in, any_ends, around_of}
use Rattle.select_match.specs.Families.{SiblingsFaceNext}
use Rattle.select_match.proofs.WalkLemmas.{all_from, count_from}
use Rattle.select_match.proofs.stepped.+first_stepped.Given as goal

abbrev pub decreases-first_stepped : goal.decreases-first_stepped
decreases-first_stepped l = node_count l.node.now.branch.children

abbrev pub invariant-loop-at : goal.invariant-loop-at
invariant-loop-at l = record {
  rest : find (any_ends [] (map step_seen l.steps)) (all_from l.at) ≡ find (any_ends [] (map step_seen l.steps)) (below l.node);
  fewer : count_from l.at ≤ node_count l.node.branch.children;
  faces : SiblingsFaceNext l.family l.at;
  fits : (z : Zipper) → l.at ≡ Some z → l.around.items ≡ map (around_of z) (chains_in [] (map step_seen l.steps));
}

abbrev pub decreases-loop-at : goal.decreases-loop-at
decreases-loop-at l = count_from l.at
