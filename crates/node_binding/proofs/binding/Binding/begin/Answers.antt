use Rattle.std.proofs.Common.{◌≡◌, ap, ◌∙◌}
use Rattle.node_tree.specs.Nodes.{Branch}
use Rattle.page_tree.specs.Pages.{PageRow}
use Rattle.shown_pages.specs.ShownPages.{shown_page}
use Rattle.shown_pages.proofs.ShownTrees.{shown-valid}
use Rattle.node_binding.specs.Bindings.{BindingValue}
use Rattle.node_binding.proofs.StartLemmas.{start_room, start_root}
use Rattle.node_binding.proofs.binding.Binding.begin.Goals as goal

pub reveal-requires : goal.reveal-requires
reveal-requires c =
    let mode = c.args.self.now.mode in
    let root_is : c.document-root.result ≡ (shown_page c.args.self.now.mode c.args.page.now).tree =
    c.document-root.ensures ∙ ap (λ (b : BindingValue). (shown_page b.mode c.args.page.now).tree) c.self.view_is in
    start_room (shown_page mode c.args.page.now) (shown-valid mode c.args.page.now c.valid.ensures) _ _ c.args.self.now _ _ _
    c.requires.room (c.walk-below.ensures ∙ ap (λ (y : Branch PageRow). y.children) root_is) c.reset.ensures c.in_ok-bind.ensures
    c.in_ok-open.ensures

pub returns : goal.returns
returns c =
    let mode = c.args.self.now.mode in
    let root_is : c.document-root.result ≡ (shown_page c.args.self.now.mode c.args.page.now).tree =
    c.document-root.ensures ∙ ap (λ (b : BindingValue). (shown_page b.mode c.args.page.now).tree) c.self.view_is in
    start_root (shown_page mode c.args.page.now) (shown-valid mode c.args.page.now c.valid.ensures) c.args.levels c.requires.left _ _ _
    c.args.self.now _ _ _ _ c.less.ensures (c.serial-serial.ensures ∙ ap (λ (y : Branch PageRow). y.row.serial) root_is)
    (c.walk-below.ensures ∙ ap (λ (y : Branch PageRow). y.children) root_is) c.reset.ensures c.in_ok-bind.ensures c.in_ok-open.ensures
    c.in_ok-reveal.ensures
