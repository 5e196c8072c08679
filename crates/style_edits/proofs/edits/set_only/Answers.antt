use Rattle.std.proofs.Common.{◌++◌, ◌∷◌, [], List, ap, ◌∙◌}
use Rattle.style_edits.specs.declared.rule_places.RulePlace.{RulePlace}
use Rattle.style_edits.specs.declared.splice.Splice.{Splice}
use Rattle.style_edits.specs.Edits.{style_in, client_sheet}
use Rattle.style_edits.proofs.DraftForms.{client_done}
use Rattle.style_edits.proofs.EditForms.{one_edit, one_refused, one_stops}
use Rattle.style_edits.proofs.RuleForms.{one_rule}
use Rattle.style_edits.proofs.edits.set_only.Goals as goal

pub returns-in-Err-clause-fault : goal.returns-in-Err-clause-fault
returns-in-Err-clause-fault c = one_refused c.args.edit.now c.args.book.now c.in-Err.fault c.in-Err.ensures.found

pub returns-in-Err-style_in-clause-fault : goal.returns-in-Err-style_in-clause-fault
returns-in-Err-style_in-clause-fault c =
    one_stops
    (Unit {0}) c.args.edit.now c.args.book.now c.in-Ok.entry.now c.in-Err-style_in.stop c.in-Ok.ensures.found
    c.in-Err-style_in.ensures.found

pub returns-clause-done : goal.returns-clause-done
returns-clause-done c =
    let done = client_done (style_in c.args.edit.now) (client_sheet c.args.edit.now.sheet c.args.book.now) c.args.book.now
    c.apply-back.new.book c.in-Ok.entry.now c.in-Ok-style_in.draft c.apply-back.result c.in-Ok.ensures.found c.in-Ok.ensures.there
    c.in-Ok-style_in.ensures.found c.apply-back.ensures.changed c.apply-back.ensures.back in
    one_edit c.args.edit.now c.args.book.now c.apply-back.new.book c.apply-back.result c.add_back.new.backs.items done
    (c.add_back.ensures ∙ ap (λ (bs : List Splice). bs ++ c.apply-back.result ∷ []) c.in_ok-backs.ensures.items)

pub returns-clause-rules : goal.returns-clause-rules
returns-clause-rules c =
    let done = client_done (style_in c.args.edit.now) (client_sheet c.args.edit.now.sheet c.args.book.now) c.args.book.now
    c.apply-back.new.book c.in-Ok.entry.now c.in-Ok-style_in.draft c.apply-back.result c.in-Ok.ensures.found c.in-Ok.ensures.there
    c.in-Ok-style_in.ensures.found c.apply-back.ensures.changed c.apply-back.ensures.back in
    one_rule c.args.edit.now c.args.rules.now.items c.add_rule_place.new.rules.items c.args.book.now c.apply-back.new.book
    c.apply-back.result
    done
    (c.add_rule_place.ensures ∙ ap (λ (rs : List RulePlace). rs ++ c.edited_rule.result ∷ []) c.reserve.ensures.items
    ∙ ap (λ (p : RulePlace). c.args.rules.now.items ++ p ∷ []) c.edited_rule.ensures)
