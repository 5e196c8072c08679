-- A copy has the nodes of what is copied.
use Rattle.std.proofs.Common.{◌≡◌, ℕ, ◌+◌, IfOk, ap, subst, arith}
use Rattle.node_tree.specs.Nodes.{Branch, branch_count, map_branch}
use Rattle.page_tree.specs.Pages.{PageRow, PageValue, row_label}
use Rattle.page_tree.proofs.WalkLemmas.{count_node, copied_next}
use Rattle.page_tree.proofs.pages.Page.copied.Goals as goal

pub copy_tree-requires : goal.copy_tree-requires
copy_tree-requires c =
    let few = count_node c.args.self.now c.valid.ensures c.args.node c.requires.live in
    let is = ap (λ (b : Branch PageRow). branch_count b) c.node.ensures in
    let next = ap (λ (p : PageValue). p.next) c.self.view_is in
    omega (arith, few, is, next, c.requires.room)

pub returns-clause-next : goal.returns-clause-next
returns-clause-next c =
    let next = ap (λ (p : PageValue). p.next) c.self.view_is in
    let step = copied_next c.copy_tree.result _ c.self.inside.next c.node.result c.copy_tree.ensures in
    subst (λ (n : ℕ). IfOk c.copy_tree.result (λ r. r.1 ≡ n)) (λ i. next i + branch_count (map_branch row_label (c.node.ensures i))) step
