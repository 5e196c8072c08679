-- A tree has the nodes of its form.
use Rattle.std.proofs.Common.{◌≡◌, List, is_some, ap, ◌∙◌, arith}
use Rattle.node_tree.specs.Nodes.{Branch, nodes_of, node_count, branch_count, map_branch}
use Rattle.node_tree.proofs.NodeLemmas.{node_count-map_rows}
use Rattle.page_tree.specs.Pages.{PageRow, row_label}
use Rattle.page_tree.proofs.FaultLemmas.{room_is}
use Rattle.page_tree.proofs.pages.Page.has_room_for_tree.Goals as goal

pub returns : goal.returns
returns c =
    let one = ap (λ (l : List (Branch PageRow)). node_count (nodes_of l)) c.from_ref.ensures.value in
    let same : node_count (nodes_of c.from_ref.result.now)
    ≡ branch_count (map_branch row_label c.args.tree.now) = omega
    (arith, one, node_count-map_rows row_label c.args.tree.now.children) in
    c.is_some.ensures ∙ ap (λ o. is_some o) c.room_beside_trees.ensures ∙ room_is c.room.result
    (branch_count c.args.self.now.tree) _ _ c.room.ensures same
