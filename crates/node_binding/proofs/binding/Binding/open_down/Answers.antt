use Rattle.std.proofs.Common.{◌≡◌, IsSome, sym, ap, subst, ◌∙◌, w64}
use Rattle.std.proofs.lemmas.Int.{to_z-of_z}
use Rattle.node_tree.specs.Nodes.{Branch}
use Rattle.node_tree.specs.Labels.{holds}
use Rattle.page_tree.specs.Pages.{PageRow, find_in, node_at}
use Rattle.shown_pages.specs.ShownPages.{shown_page}
use Rattle.shown_pages.proofs.ShownTrees.{shown-valid}
use Rattle.node_binding.specs.Openings.{levels_of}
use Rattle.node_binding.specs.Bindings.{BindingValue, opened_down}
use Rattle.node_binding.proofs.OpenDownLemmas.{open_down_room}
use Rattle.node_binding.proofs.binding.Binding.open_down.Goals as goal

pub at-node-requires : goal.at-node-requires
at-node-requires c =
    subst (λ (b : BindingValue). IsSome (find_in c.args.serial (shown_page b.mode c.args.page.now).tree))
    (sym c.self.view_is) c.requires.live

pub open_tree-requires-clause-container : goal.open_tree-requires-clause-container
open_tree-requires-clause-container c =
    let at_is : c.at-node.result ≡ node_at c.args.serial (shown_page c.args.self.now.mode c.args.page.now).tree =
    c.at-node.ensures ∙ ap (λ (b : BindingValue). node_at c.args.serial (shown_page b.mode c.args.page.now).tree) c.self.view_is in
    ap (λ (y : Branch PageRow). holds y.row.label.kind) at_is ∙ c.requires.container

pub open_tree-requires-clause-room : goal.open_tree-requires-clause-room
open_tree-requires-clause-room c =
    let mode = c.args.self.now.mode in
    let at_is : c.at-node.result ≡ node_at c.args.serial (shown_page c.args.self.now.mode c.args.page.now).tree =
    c.at-node.ensures ∙ ap (λ (b : BindingValue). node_at c.args.serial (shown_page b.mode c.args.page.now).tree) c.self.view_is in
    open_down_room (shown_page mode c.args.page.now) (shown-valid mode c.args.page.now c.valid.ensures) c.args.serial _ at_is
    c.args.self.now c.requires.room

pub returns : goal.returns
returns c =
    let at_is : c.at-node.result ≡ node_at c.args.serial (shown_page c.args.self.now.mode c.args.page.now).tree =
    c.at-node.ensures ∙ ap (λ (b : BindingValue). node_at c.args.serial (shown_page b.mode c.args.page.now).tree) c.self.view_is in
    c.in_ok-open_tree.ensures
    ∙ ap (λ d. opened_down d c.at-node.result c.args.self.now)
    (c.levels_of.ensures ∙ ap levels_of (to_z-of_z w64 c.args.levels c.ranges.levels))
    ∙ ap (λ x. opened_down (levels_of c.args.levels) x c.args.self.now) at_is
