use Rattle.std.proofs.Common.{◌≡◌, ◌++◌, drop}
use Rattle.node_tree.specs.Nodes.{nodes_of, node_count}
use Rattle.front_mirror.specs.Shown.{told_id, told_serial}
use Rattle.client_views.specs.Views.{keys}
use Rattle.front_mirror.proofs.checks.+push_keys.Given as goal

abbrev pub decreases-push_keys : goal.decreases-push_keys
decreases-push_keys l = node_count (nodes_of l.nodes.now)

abbrev pub invariant-loop-node : goal.invariant-loop-node
invariant-loop-node l = record {
  ids : l.ids.items ++ keys told_id (nodes_of (drop l.node-index l.nodes)) ≡ l.initial.ids.items ++ keys told_id (nodes_of l.nodes);
  serials : l.serials.items ++ keys told_serial (nodes_of (drop l.node-index l.nodes))
      ≡ l.initial.serials.items ++ keys told_serial (nodes_of l.nodes);
}
