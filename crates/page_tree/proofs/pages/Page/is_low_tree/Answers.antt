-- A tree has the levels of its form.
use Rattle.std.proofs.Common.{◌≡◌, List, suc, max, sym, ap, ◌∙◌}
use Rattle.node_tree.specs.Nodes.{Branch, nodes_of, alone, height, map_branch}
use Rattle.node_tree.proofs.NodeLemmas.{height-map_rows}
use Rattle.page_tree.specs.Pages.{PageRow, row_label, level_at}
use Rattle.page_tree.proofs.FaultLemmas.{low_is}
use Rattle.page_tree.proofs.pages.Page.is_low_tree.Goals as goal

pub returns : goal.returns
returns c =
    let same : height (nodes_of c.from_ref.result.now)
    ≡ height (alone (map_branch row_label c.args.tree.now)) = ap
    (λ (l : List (Branch PageRow)). height (nodes_of l)) c.from_ref.ensures.value ∙ ap (λ k. max (suc k) 0)
    (sym (height-map_rows row_label c.args.tree.now.children)) in
    c.are_trees_within.ensures ∙ low_is c.levels_below.result (level_at c.args.parent c.args.self.now.tree) _ _ c.levels_below.ensures same
