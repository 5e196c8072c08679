use Rattle.std.proofs.Common.{◌≡◌, ◌+◌, ◌*◌, ◌++◌, ◌≤◌, map}
use Rattle.node_tree.specs.Nodes.{node_count, branch_count}
use Rattle.node_binding.specs.Bindings.{opened_in}
use Rattle.dom_agent.specs.Requests.{requested}
use Rattle.dom_agent.specs.Openings.{opening_of}
use Rattle.dom_agent.proofs.openings.+request.Given as goal

abbrev pub decreases-request_node : goal.decreases-request_node
decreases-request_node l = 2 * branch_count l.node.now

abbrev pub decreases-request_children : goal.decreases-request_children
decreases-request_children l = 2 * node_count l.walk.now + 1

abbrev pub invariant-request_children-loop-node : goal.invariant-request_children-loop-node
invariant-request_children-loop-node l = record {
  same : map opening_of l.openings.items ++ requested (opened_in l.binding) l.levels l.walk
      ≡ map opening_of l.initial.openings.items ++ requested (opened_in l.binding) l.levels l.initial.walk;
  few : node_count l.walk ≤ node_count l.initial.walk;
}

abbrev pub decreases-request_children-loop-node : goal.decreases-request_children-loop-node
decreases-request_children-loop-node l = node_count l.walk
