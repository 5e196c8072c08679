use Rattle.std.proofs.Common.{◌≡◌, ◌<◌, Option, Some, None, sym, ap, ◌∙◌, subst}
use Rattle.node_tree.specs.Nodes.{Branch, width}
use Rattle.node_tree.proofs.NodeLemmas.{from-tree_at}
use Rattle.page_tree.specs.Pages.{PageRow}
use Rattle.shown_pages.specs.ShownPages.{shown_branch}
use Rattle.shown_pages.proofs.readers.shown_at.Goals as goal

pub unreachable-requires : goal.unreachable-requires
unreachable-requires c =
    let inside : c.args.i < width c.of.result.children =
    subst (λ (b : Branch PageRow). c.args.i < width b.children)
    (sym (c.of.ensures ∙ ap (shown_branch c.args.mode) c.node.ensures)) c.requires.in_range in
    let there = from-tree_at c.args.i c.of.result.children inside in
    let e : ◌≡◌ {A = Option (Branch PageRow)} None (Some there.0) = sym (sym c.child_at.ensures ∙ c.in-None.is) ∙ there.1 in
    absurd (cc)
