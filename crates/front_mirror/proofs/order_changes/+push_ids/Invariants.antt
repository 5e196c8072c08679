use Rattle.std.proofs.Common.{◌≡◌, ◌++◌, drop}
use Rattle.node_tree.specs.Nodes.{nodes_of, node_count}
use Rattle.front_mirror.specs.Shown.{told_id}
use Rattle.client_views.specs.Views.{keys}
use Rattle.front_mirror.proofs.order_changes.+push_ids.Given as goal

abbrev pub decreases-push_ids : goal.decreases-push_ids
decreases-push_ids l = node_count (nodes_of l.nodes.now)

abbrev pub invariant-loop-node : goal.invariant-loop-node
invariant-loop-node l =
    l.ids.items ++ keys told_id (nodes_of (drop l.node-index l.nodes)) ≡ l.initial.ids.items ++ keys told_id (nodes_of l.nodes)
