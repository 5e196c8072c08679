-- The node that was found is the known one, and an element; what is shown stands in the page.
use Rattle.std.proofs.Common.{sym, ap, ◌∙◌}
use Rattle.node_tree.specs.Labels.{is_element}
use Rattle.page_tree.specs.Pages.{find_in}
use Rattle.shown_pages.specs.ShownPages.{shown_page}
use Rattle.back_end.proofs.SheetSeats.{element-found, found-stands}
use Rattle.back_end.proofs.desk.Desk.element_named.Goals as goal

pub returns-clause-value : goal.returns-clause-value
returns-clause-value c =
    element-found c.args.self.now.agent (shown_page c.args.self.now.agent.mode c.args.page.now).tree _ c.in-Some.serial c.in-Some-find.found
    (sym c.serial_of.ensures ∙ c.in-Some.is)
    (ap (λ m. find_in c.in-Some.serial (shown_page m c.args.page.now).tree) (sym c.mode.ensures) ∙ sym c.find.ensures ∙ c.in-Some-find.is)
    (ap is_element (sym c.kind.ensures) ∙ sym c.is_element.ensures ∙ c.if-not-is_element.false)

pub returns-clause-there : goal.returns-clause-there
returns-clause-there c = found-stands c.mode.result c.args.page.now c.in-Some.serial c.in-Some-find.found c.valid.ensures
    c.shown_law.ensures.found
    (sym c.find.ensures ∙ c.in-Some-find.is)
