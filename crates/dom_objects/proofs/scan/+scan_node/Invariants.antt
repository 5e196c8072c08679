use Rattle.std.proofs.Common.{◌≡◌, ◌+◌, ◌*◌, ◌≤◌, length, true}
use Rattle.node_tree.specs.Nodes.{nodes_of, height}
use Rattle.dom_objects.specs.NodeData.{fits_nodes}
use Rattle.dom_objects.proofs.TokenLists.{branch_tokens}
use Rattle.dom_objects.proofs.ScannedTokens.{IsRead}
use Rattle.dom_objects.proofs.scan.+scan_node.Given as goal

abbrev pub decreases-scan_node : goal.decreases-scan_node
decreases-scan_node l = 3 * l.levels

abbrev pub decreases-children_ahead : goal.decreases-children_ahead
decreases-children_ahead l = 3 * l.levels + 2

abbrev pub decreases-scan_nodes : goal.decreases-scan_nodes
decreases-scan_nodes l = 3 * l.levels + 1

abbrev pub invariant-scan_nodes-trees : goal.invariant-scan_nodes-trees
invariant-scan_nodes-trees l = record {
  read : IsRead branch_tokens l.fn.reader l.trees.items l.reader;
  fits : fits_nodes (nodes_of l.trees.items) ≡ true;
  shallow : height (nodes_of l.trees.items) ≤ l.levels;
}

abbrev pub decreases-scan_nodes-trees : goal.decreases-scan_nodes-trees
decreases-scan_nodes-trees l = length l.reader
