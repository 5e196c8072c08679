use Rattle.std.proofs.Common.{◌≡◌, Some, sym, ap, ◌∙◌}
use Rattle.node_tree.specs.Nodes.{Branch}
use Rattle.page_tree.specs.Pages.{PageRow}
use Rattle.page_tree.specs.Edits.{label_at}
use Rattle.page_tree.specs.declared.edits.TreeEdit.TheVariants.{Detach}
use Rattle.shown_pages.specs.Modes.{hidden_in}
use Rattle.shown_pages.specs.ShownPages.{shown_page}
use Rattle.dom_agent.specs.declared.foresight.Foreseen.TheVariants.{Tells}
use Rattle.dom_agent.proofs.ForesightLemmas.{nothing_foreseen, foreseen_as, hidden_goes, shown_goes, goes_shown, goes_live}
use Rattle.dom_agent.proofs.foresight.foresee_detach.Goals as goal

pub node-requires : goal.node-requires
node-requires c = goes_live c.args.page.now c.args.node c.valid.ensures c.requires

pub returns-then-is_hidden : goal.returns-then-is_hidden
returns-then-is_hidden c =
    let mode = c.args.binding.now.mode in
    let is : hidden_in c.args.binding.now.mode (label_at c.args.node c.args.page.now.tree) ≡ c.is_hidden.result =
    sym (c.is_hidden.ensures ∙ ap (λ m. hidden_in m c.node.result.row.label) c.mode.ensures
    ∙ ap (λ (x : Branch PageRow). hidden_in mode x.row.label) c.node.ensures) in
    nothing_foreseen _ (shown_page mode c.args.page.now) c.args.binding.now
    (hidden_goes mode c.args.page.now c.args.node (is ∙ c.if-is_hidden.true))

pub forget-requires : goal.forget-requires
forget-requires c =
    let mode = c.args.binding.now.mode in
    let is : hidden_in c.args.binding.now.mode (label_at c.args.node c.args.page.now.tree) ≡ c.is_hidden.result =
    sym (c.is_hidden.ensures ∙ ap (λ m. hidden_in m c.node.result.row.label) c.mode.ensures
    ∙ ap (λ (x : Branch PageRow). hidden_in mode x.row.label) c.node.ensures) in
    goes_shown mode c.args.page.now (Detach c.args.node) c.args.node c.valid.ensures (record { fits = c.requires; ready = tt })
    (shown_goes mode c.args.page.now c.args.node (is ∙ c.if-is_hidden.false))

pub returns : goal.returns
returns c =
    let mode = c.args.binding.now.mode in
    let is : hidden_in c.args.binding.now.mode (label_at c.args.node c.args.page.now.tree) ≡ c.is_hidden.result =
    sym (c.is_hidden.ensures ∙ ap (λ m. hidden_in m c.node.result.row.label) c.mode.ensures
    ∙ ap (λ (x : Branch PageRow). hidden_in mode x.row.label) c.node.ensures) in
    foreseen_as _ (Some (Detach c.args.node)) (Tells c.forget.result) (shown_page mode c.args.page.now) c.args.binding.now
    c.forget.new.binding
    (shown_goes mode c.args.page.now c.args.node (is ∙ c.if-is_hidden.false)) c.forget.ensures
