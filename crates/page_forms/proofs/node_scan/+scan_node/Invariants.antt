-- The nodes so far, before those that are left, are those of the list.
use Rattle.std.proofs.Common.{◌+◌, ◌*◌, length}
use Rattle.page_forms.proofs.SpeltLists.{NodesAhead}
use Rattle.page_forms.proofs.node_scan.+scan_node.Given as goal

abbrev pub decreases-scan_node : goal.decreases-scan_node
decreases-scan_node l = 4 * l.levels

abbrev pub decreases-scan_element : goal.decreases-scan_element
decreases-scan_element l = 4 * l.levels + 3

abbrev pub decreases-children_at : goal.decreases-children_at
decreases-children_at l = 4 * l.levels + 2

abbrev pub decreases-scan_nodes : goal.decreases-scan_nodes
decreases-scan_nodes l = 4 * l.levels + 1

abbrev pub invariant-scan_nodes-nodes : goal.invariant-scan_nodes-nodes
invariant-scan_nodes-nodes l = NodesAhead l.levels l.top l.fn.reader l.nodes.items l.reader

abbrev pub decreases-scan_nodes-nodes : goal.decreases-scan_nodes-nodes
decreases-scan_nodes-nodes l = length l.reader
