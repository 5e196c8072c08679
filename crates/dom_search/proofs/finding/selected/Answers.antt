-- What is no selector list selects nothing.
use Rattle.std.proofs.Common.{sym, subst, ◌∙◌}
use Rattle.page_tree.specs.Zippers.{Zipper}
use Rattle.selectors.specs.declared.selector.SelErr.{SelErr}
use Rattle.selectors.specs.Forms.{Fails}
use Rattle.selectors.specs.Reading.{selectors_of}
use Rattle.dom_search.specs.Found.{searched_nodes}
use Rattle.dom_search.proofs.FoundLemmas.{none-selected}
use Rattle.dom_search.proofs.finding.selected.Goals as goal

pub returns-in-Err-Invalid : goal.returns-in-Err-Invalid
returns-in-Err-Invalid c =
    c.new.ensures.items
    ∙ sym (none-selected (searched_nodes c.args.page.now.tree) (selectors_of c.args.query.now)
    (subst (λ (e : SelErr). Fails e (selectors_of c.args.query.now)) c.in-Err-Invalid.field-0-is c.in-Err-Invalid.ensures.exact))
