use Rattle.std.proofs.Common.{◌≡◌, ◌+◌, drop}
use Rattle.serde_json.specs.Data.{depth, items_depth}
use Rattle.serde_json.specs.View.{view, items_view}
use Rattle.node_tree.specs.Nodes.{nodes_of}
use Rattle.dom_objects.specs.NodeData.{trees_of}
use Rattle.dom_objects.proofs.TreesRead.{read_beside}
use Rattle.dom_objects.proofs.node_read.+tree_of.Given as goal

abbrev pub invariant-trees_of-loop-value : goal.invariant-trees_of-loop-value
invariant-trees_of-loop-value l = read_beside (nodes_of l.trees.items) (trees_of l.manner (items_view (drop l.value-index l.values)))
    ≡ trees_of l.manner (items_view l.values)

abbrev pub decreases-tree_of : goal.decreases-tree_of
decreases-tree_of l = depth (view l.value.now)

abbrev pub decreases-trees_of : goal.decreases-trees_of
decreases-trees_of l = items_depth (items_view l.values.now) + 1
