use Rattle.std.proofs.Common.{[], ◌∷◌, ◌++◌, ap, ◌∙◌}
use Rattle.style_edits.specs.declared.edits.StyleEdit.{StyleEdit}
use Rattle.css_agent.specs.Edits.{style_edit}
use Rattle.css_agent.proofs.EditLemmas.{made-turn}
use Rattle.css_agent.proofs.edit_words.style_edits.Goals as goal

pub loop-edit-preserved : goal.loop-edit-preserved
loop-edit-preserved c =
    made-turn style_edit c.args.edits.now c.loop-edit.edit-index c.edit-item.result c.loop-edit.made.items c.push.new.self.items
    c.loop-edit-test.true c.edit-item.is c.loop-edit.invariant
    (c.in_ok-push.ensures.items ∙ ap (λ (e : StyleEdit). c.loop-edit.made.items ++ e ∷ []) c.in_ok-style_edit.ensures)
