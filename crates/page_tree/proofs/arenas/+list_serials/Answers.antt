-- One tree more is listed.
use Rattle.std.proofs.Common.{ap, ◌∙◌, ◌+◌, ◌++◌, ◌∷◌, [], List, vec_len}
use Rattle.node_tree.specs.Nodes.{Branch, nodes_of, node_count, Nodes}
use Rattle.node_tree.specs.Keys.{tally}
use Rattle.page_tree.specs.Pages.{PageRow, row_serial}
use Rattle.page_tree.specs.Arenas.{listed}
use Rattle.page_tree.proofs.ArenaSteps.{list_turn, count_turn}
use Rattle.page_tree.proofs.arenas.+list_serials.Goals as goal

pub loop-tree-preserved : goal.loop-tree-preserved
loop-tree-preserved t c =
    let b = c.tree-item.result in
    let is = c.tree-item.is in
    let serial_is = ap (λ (y : Branch PageRow). y.row.serial) c.tree.view_is in
    let children_are = ap (λ (l : List (Branch PageRow)). nodes_of l) c.deref.ensures.value ∙ ap
    (λ (y : Branch PageRow). y.children) c.tree.view_is in
    let push = c.in_ok-push.ensures {u = tt} in
    let list = c.in_ok-list_serials.ensures {u = tt} in (
      λ x. list_turn x c.args.trees.now c.loop-tree.tree-index b _ _ _ _ c.loop-tree-test.true is (c.loop-tree.invariant.0 x)
          (push.items ∙ ap (λ y. c.loop-tree.serials.items ++ y ∷ []) serial_is)
          (list.listed x ∙ ap (λ (n : Nodes PageRow). listed x c.push.new.self.items + tally row_serial x n) children_are),
      count_turn 0 c.args.trees.now c.loop-tree.tree-index b [] [] [] [] c.loop-tree-test.true is _ _ _ _ c.loop-tree.invariant.1 push.len
          (list.count ∙ ap (λ (n : Nodes PageRow). vec_len c.push.new.self + node_count n) children_are),
    )
