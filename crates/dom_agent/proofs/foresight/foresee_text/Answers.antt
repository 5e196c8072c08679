use Rattle.std.proofs.Common.{Some, sym, ap, ◌∙◌}
use Rattle.node_tree.specs.Nodes.{alone}
use Rattle.page_tree.specs.declared.edits.TreeEdit.TheVariants.{SetText, Detach}
use Rattle.shown_pages.specs.declared.modes.Mode.{Mode}
use Rattle.shown_pages.specs.ShownPages.{shown_page}
use Rattle.shown_pages.specs.ShownEdits.{sight_at}
use Rattle.dom_agent.specs.declared.foresight.Foreseen.TheVariants.{Tells}
use Rattle.dom_agent.proofs.ForesightLemmas.{nothing_foreseen, foreseen_as, text_seen, text_live, text_comes, text_stays, goes_shown}
use Rattle.dom_agent.proofs.foresight.foresee_text.Goals as goal

pub text_sight-requires : goal.text_sight-requires
text_sight-requires c = text_live c.args.page.now c.args.node c.args.value.now c.requires

pub returns-in-Unseen : goal.returns-in-Unseen
returns-in-Unseen c =
    let mode = c.args.binding.now.mode in
    nothing_foreseen _ (shown_page mode c.args.page.now) c.args.binding.now
    (text_seen mode c.args.page.now c.args.node c.args.value.now _
    (sym c.in-Unseen.is ∙ c.text_sight.ensures
    ∙ ap (λ (m : Mode). sight_at m c.args.node c.as_str.result.now c.args.page.now.tree) c.mode.ensures
    ∙ ap (λ v. sight_at mode c.args.node v c.args.page.now.tree) c.as_str.ensures))

pub parent-parent-requires : goal.parent-parent-requires
parent-parent-requires c = text_live c.args.page.now c.args.node c.args.value.now c.requires

pub returns-in-Comes : goal.returns-in-Comes
returns-in-Comes c =
    let mode = c.args.binding.now.mode in
    text_comes mode c.args.page.now c.args.node c.args.value.now c.parent-parent.result c.args.binding.now
    (text_live c.args.page.now c.args.node c.args.value.now c.requires)
    (sym c.in-Comes.is ∙ c.text_sight.ensures
    ∙ ap (λ (m : Mode). sight_at m c.args.node c.as_str.result.now c.args.page.now.tree) c.mode.ensures
    ∙ ap (λ v. sight_at mode c.args.node v c.args.page.now.tree) c.as_str.ensures)
    c.parent-parent.ensures

pub forget-requires : goal.forget-requires
forget-requires c =
    let mode = c.args.binding.now.mode in
    goes_shown mode c.args.page.now (SetText c.args.node c.args.value.now) c.args.node c.valid.ensures
    (record { fits = c.requires; ready = tt })
    (text_seen mode c.args.page.now c.args.node c.args.value.now _
    (sym c.in-Goes.is ∙ c.text_sight.ensures
    ∙ ap (λ (m : Mode). sight_at m c.args.node c.as_str.result.now c.args.page.now.tree) c.mode.ensures
    ∙ ap (λ v. sight_at mode c.args.node v c.args.page.now.tree) c.as_str.ensures))

pub returns-in-Goes : goal.returns-in-Goes
returns-in-Goes c =
    let mode = c.args.binding.now.mode in
    foreseen_as _ (Some (Detach c.args.node)) (Tells c.forget.result) (shown_page mode c.args.page.now) c.args.binding.now
    c.forget.new.binding
    (text_seen mode c.args.page.now c.args.node c.args.value.now _
    (sym c.in-Goes.is ∙ c.text_sight.ensures
    ∙ ap (λ (m : Mode). sight_at m c.args.node c.as_str.result.now c.args.page.now.tree) c.mode.ensures
    ∙ ap (λ v. sight_at mode c.args.node v c.args.page.now.tree) c.as_str.ensures))
    c.forget.ensures

pub returns-in_ok-event-in-Stays : goal.returns-in_ok-event-in-Stays
returns-in_ok-event-in-Stays c =
    let mode = c.args.binding.now.mode in
    text_stays mode c.args.page.now c.args.node c.args.value.now c.in_ok-event-in-Stays.event c.args.binding.now
    (sym c.in-Stays.is ∙ c.text_sight.ensures
    ∙ ap (λ (m : Mode). sight_at m c.args.node c.as_str.result.now c.args.page.now.tree) c.mode.ensures
    ∙ ap (λ v. sight_at mode c.args.node v c.args.page.now.tree) c.as_str.ensures)
    (c.in_ok-event-in-Stays.ensures (alone (shown_page mode c.args.page.now).tree))
