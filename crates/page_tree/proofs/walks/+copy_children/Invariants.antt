-- The trees so far, with what is left numbered from the next serial on, are the trees numbered.
use Rattle.std.proofs.Common.{◌≡◌, ◌+◌}
use Rattle.node_tree.specs.Nodes.{nodes_of, beside, from, node_count, map_rows}
use Rattle.page_tree.specs.Pages.{row_label, numbered}
use Rattle.page_tree.proofs.walks.+copy_children.Given as goal

abbrev pub decreases-copy_children : goal.decreases-copy_children
decreases-copy_children l = node_count l.children.now

abbrev pub invariant-loop-i : goal.invariant-loop-i
invariant-loop-i l =
    let rest = from l.i l.children in
    (l.next + node_count rest ≡ l.first + node_count l.children)
    × (beside (nodes_of l.trees.items) (numbered l.next (map_rows row_label rest)) ≡ numbered l.first (map_rows row_label l.children))
