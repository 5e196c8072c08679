use Rattle.std.proofs.Common.{◌++◌, ◌∷◌, [], ap, ◌∙◌, sym, subst}
use Rattle.drill_script.specs.DrillNodes.{drill_nodes}
use Rattle.drill_script.specs.Hanging.{AreDivsNumbered}
use Rattle.drill_script.proofs.DivLemmas.{page-numbered}
use Rattle.drill_script.proofs.LineLaws.{divs-few}
use Rattle.drill_script.proofs.PageLaws.{page-can, page-has}
use Rattle.drill_script.proofs.pages.drill_page.Goals as goal

pub drill_nodes-requires : goal.drill_nodes-requires
drill_nodes-requires c = subst (AreDivsNumbered 1) (sym c.in_ok-drawn.ensures.divs) (page-numbered c.args.divs)

pub returns-clause-can : goal.returns-clause-can
returns-clause-can c =
    page-can c.args.divs _ _ _ (c.in_ok-nodes.ensures ∙ ap drill_nodes c.in_ok-drawn.ensures.divs) c.usual_medium.ensures
    ((c.in_ok-push.ensures {u = tt}).items ∙ ap (λ l. l ++ c.in_ok-drill_sheet.field-0 ∷ []) c.new-sheets.ensures.items
    ∙ ap (λ s. s ∷ []) c.in_ok-drill_sheet.ensures) (divs-few c.args.divs c.requires.0)

pub returns-clause-texts : goal.returns-clause-texts
returns-clause-texts c =
    page-has c.args.divs _ _ _ (c.in_ok-nodes.ensures ∙ ap drill_nodes c.in_ok-drawn.ensures.divs) c.usual_medium.ensures
    ((c.in_ok-push.ensures {u = tt}).items ∙ ap (λ l. l ++ c.in_ok-drill_sheet.field-0 ∷ []) c.new-sheets.ensures.items
    ∙ ap (λ s. s ∷ []) c.in_ok-drill_sheet.ensures)
