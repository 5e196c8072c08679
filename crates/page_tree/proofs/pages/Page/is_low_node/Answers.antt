-- One level for the node, and the others for what is below it.
use Rattle.std.proofs.Common.{◌≡◌, ◌+◌, suc, nat_le, ap, ◌∙◌, arith}
use Rattle.node_tree.specs.Nodes.{Branch, alone, height}
use Rattle.node_tree.proofs.NodeLemmas.{height-map_rows}
use Rattle.node_tree.specs.Levels.{max_level}
use Rattle.page_tree.specs.Pages.{PageRow, row_label, node_at, level_at}
use Rattle.page_tree.specs.Edits.{form_at}
use Rattle.page_tree.proofs.FaultLemmas.{low_below}
use Rattle.page_tree.proofs.pages.Page.is_low_node.Goals as goal

pub returns : goal.returns
returns c =
    let below = c.children.ensures ∙ ap (λ (b : Branch PageRow). b.children) c.node.ensures in
    let level = level_at c.args.parent c.args.self.now.tree in
    let tall : suc (height c.children.result)
    ≡ height (alone (form_at c.args.node c.args.self.now.tree)) = omega
    (arith, ap height below, height-map_rows row_label (node_at c.args.node c.args.self.now.tree).children) in
    c.are_children_within.ensures
    ∙ low_below c.levels_below-levels.result level (height c.children.result) (height c.children.result) c.levels_below-levels.ensures
    (omega (arith, c.if-levels-eq0.false)) (λ i. height c.children.result)
    ∙ ap (λ k. nat_le (level + k) max_level) tall
