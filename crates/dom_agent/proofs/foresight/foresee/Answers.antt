use Rattle.std.proofs.Common.{refl, sym, subst}
use Rattle.node_tree.specs.Nodes.{alone}
use Rattle.page_tree.specs.declared.edits.TreeEdit.{TreeEdit}
use Rattle.shown_pages.specs.ShownPages.{shown_page}
use Rattle.shown_pages.specs.ShownEdits.{shown_edit}
use Rattle.dom_agent.specs.declared.foresight.Foreseen.TheVariants.{Tells}
use Rattle.dom_agent.specs.Foresight.{IsForeseen}
use Rattle.dom_agent.proofs.foresight.foresee.Goals as goal

pub returns-in_ok-event-in-SetAttr : goal.returns-in_ok-event-in-SetAttr
returns-in_ok-event-in-SetAttr c =
    let b = c.args.binding.now in
    subst (λ (e : TreeEdit). IsForeseen (Tells c.in_ok-event-in-SetAttr.event) (shown_edit b.mode e c.args.page.now.tree)
    (shown_page b.mode c.args.page.now) b b) (sym c.in-SetAttr.is)
    (c.in_ok-event-in-SetAttr.ensures (alone (shown_page b.mode c.args.page.now).tree), refl)

pub returns-in_ok-event-in-DropAttr : goal.returns-in_ok-event-in-DropAttr
returns-in_ok-event-in-DropAttr c =
    let b = c.args.binding.now in
    subst (λ (e : TreeEdit). IsForeseen (Tells c.in_ok-event-in-DropAttr.event) (shown_edit b.mode e c.args.page.now.tree)
    (shown_page b.mode c.args.page.now) b b) (sym c.in-DropAttr.is)
    (c.in_ok-event-in-DropAttr.ensures (alone (shown_page b.mode c.args.page.now).tree), refl)
