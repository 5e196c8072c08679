-- Room for the node, and for what is below it.
use Rattle.std.proofs.Common.{◌≡◌, ◌+◌, suc, nat_le, is_some, ap, ◌∙◌, arith}
use Rattle.node_tree.specs.Nodes.{Branch, node_count, branch_count}
use Rattle.node_tree.proofs.NodeLemmas.{node_count-map_rows}
use Rattle.page_tree.specs.Forms.{max_nodes}
use Rattle.page_tree.specs.Pages.{PageRow, row_label, node_at}
use Rattle.page_tree.specs.Edits.{form_at}
use Rattle.page_tree.proofs.FaultLemmas.{room_below}
use Rattle.page_tree.proofs.pages.Page.has_room_for_node.Goals as goal

pub returns : goal.returns
returns c =
    let below = c.children.ensures ∙ ap (λ (b : Branch PageRow). b.children) c.node.ensures in
    let there = branch_count c.args.self.now.tree in
    let all : suc (node_count c.children.result)
    ≡ branch_count (form_at c.args.node c.args.self.now.tree) = omega
    (arith, ap node_count below, node_count-map_rows row_label (node_at c.args.node c.args.self.now.tree).children) in
    c.is_some.ensures ∙ ap (λ o. is_some o) c.room_beside_children.ensures
    ∙ room_below c.room-room.result there (node_count c.children.result) (node_count c.children.result) c.room-room.ensures
    (omega (arith, c.if-room-eq0.false)) (λ i. node_count c.children.result)
    ∙ ap (λ k. nat_le (there + k) max_nodes) all
