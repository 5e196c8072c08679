use Rattle.std.proofs.Common.{◌≡◌, ◌+◌, ◌*◌, ◌++◌, ◌≤◌}
use Rattle.node_tree.specs.Nodes.{node_count, branch_count}
use Rattle.dom_objects.specs.Tokens.{data_tokens}
use Rattle.dom_agent.specs.Described.{no_ids, shown_to}
use Rattle.dom_agent.proofs.WritingLemmas.{nodes_data, with_left}
use Rattle.dom_agent.proofs.described.+write_described.Given as goal

abbrev pub decreases-write_described : goal.decreases-write_described
decreases-write_described l = 3 * branch_count l.node.now

abbrev pub decreases-write_reached : goal.decreases-write_reached
decreases-write_reached l = 3 * node_count l.node.now.children + 2

abbrev pub decreases-write_below : goal.decreases-write_below
decreases-write_below l = 3 * node_count l.walk.now + 1

abbrev pub invariant-write_below-loop-child : goal.invariant-write_below-loop-child
invariant-write_below-loop-child l = record {
  tokens : with_left (shown_to no_ids l.levels) 0 l.out.tokens l.walk
      ≡ l.fn.out.tokens ++ data_tokens (nodes_data 0 (shown_to no_ids l.levels l.fn.walk));
  before : l.out.before ≡ l.fn.out.before;
  few : node_count l.walk ≤ node_count l.fn.walk;
}

abbrev pub decreases-write_below-loop-child : goal.decreases-write_below-loop-child
decreases-write_below-loop-child l = node_count l.walk
