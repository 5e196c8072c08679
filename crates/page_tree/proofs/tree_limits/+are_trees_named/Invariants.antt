-- What is left of the trees gives the same answer.
use Rattle.std.proofs.Common.{◌≡◌, drop}
use Rattle.node_tree.specs.Nodes.{nodes_of, map_rows}
use Rattle.page_tree.specs.Forms.{are_named}
use Rattle.page_tree.specs.Pages.{row_label}
use Rattle.page_tree.proofs.tree_limits.+are_trees_named.Given as goal

abbrev pub decreases-are_trees_named : goal.decreases-are_trees_named
decreases-are_trees_named l = goal.size-are_trees_named l

abbrev pub invariant-loop-tree : goal.invariant-loop-tree
invariant-loop-tree l = are_named (map_rows row_label (nodes_of (drop l.tree-index l.trees)))
    ≡ are_named (map_rows row_label (nodes_of l.trees))
