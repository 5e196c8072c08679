use Rattle.std.proofs.Common.{◌≡◌, ◌+◌, ◌*◌, ◌++◌, ◌≤◌}
use Rattle.node_tree.specs.Nodes.{node_count, branch_count}
use Rattle.node_binding.specs.Cuts.{cut}
use Rattle.node_binding.specs.Bindings.{opened_in, id_in}
use Rattle.dom_objects.specs.Tokens.{data_tokens}
use Rattle.dom_agent.proofs.WritingLemmas.{nodes_data, with_left}
use Rattle.dom_agent.proofs.told.+write_shown.Given as goal

abbrev pub decreases-write_shown : goal.decreases-write_shown
decreases-write_shown l = 3 * branch_count l.node.now

abbrev pub decreases-write_opened : goal.decreases-write_opened
decreases-write_opened l = 3 * node_count l.node.now.children + 2

abbrev pub decreases-write_children : goal.decreases-write_children
decreases-write_children l = 3 * node_count l.walk.now + 1

abbrev pub invariant-write_children-loop-child : goal.invariant-write_children-loop-child
invariant-write_children-loop-child l = record {
  tokens : with_left (cut (opened_in l.binding) (id_in l.binding)) l.parent l.out.tokens l.walk
      ≡ l.fn.out.tokens ++ data_tokens (nodes_data l.parent (cut (opened_in l.binding) (id_in l.binding) l.fn.walk));
  before : l.out.before ≡ l.fn.out.before;
  few : node_count l.walk ≤ node_count l.fn.walk;
}

abbrev pub decreases-write_children-loop-child : goal.decreases-write_children-loop-child
decreases-write_children-loop-child l = node_count l.walk
