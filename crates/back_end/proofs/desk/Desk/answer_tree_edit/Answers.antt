-- A client's edit of the tree is refused while DOM is off, and where a node is not known.
use Rattle.std.proofs.Common.{◌++◌, sym, ap, subst, ◌∙◌, Err}
use Rattle.client_views.specs.Moves.{frames_of_moves}
use Rattle.std.specs.FinMap as map
use Rattle.back_end.specs.Texts.{HasTreeTexts}
use Rattle.back_end.specs.Steps.{Step, edit_named}
use Rattle.back_end.proofs.SeatLemmas.{on_ok}
use Rattle.back_end.proofs.TreeSteps.{named-plain, lowered-texts}
use Rattle.back_end.proofs.ScriptLemmas.{in_any}
use Rattle.back_end.proofs.TreeSeats.{edit-is, named-both, unnamed-both, edited-sent}
use Rattle.back_end.specs.Outside.{command_outward}
use Rattle.cdp_messages.specs.declared.command.Command.TheVariants as commands
use Rattle.back_end.proofs.GuestSteps.{named-outward, named-hears, unchanged-hears}
use Rattle.back_end.proofs.desk.Desk.answer_tree_edit.Goals as goal

pub answer_node_edit-requires-clause-plain : goal.answer_node_edit-requires-clause-plain
answer_node_edit-requires-clause-plain c =
    named-plain (map.get c.args.self.now.agent.serials) c.in_ok-edit.edit c.in-Ok.edit
    (subst HasTreeTexts (sym c.in_ok-edit.ensures) (lowered-texts c.args.edit c.requires.texts)) (sym c.in-Ok.ensures)

pub returns-in-Ok-clause-stands : goal.returns-in-Ok-clause-stands
returns-in-Ok-clause-stands c = λ state both.
    let named = c.in-Ok.ensures ∙ ap (edit_named (map.get c.args.self.now.agent.serials)) c.in_ok-edit.ensures in
    named-both c.answer_node_edit.result c.args.self.now c.answer_node_edit.new.self c.args.history.now c.answer_node_edit.new.history
    c.args.side.now c.answer_node_edit.new.side state c.args.id c.args.edit c.in-Ok.edit
    both.stands c.requires.on named (c.answer_node_edit.ensures.stands state both)

pub returns-in-Ok-clause-sent : goal.returns-in-Ok-clause-sent
returns-in-Ok-clause-sent c = λ state stands.
    let named = c.in-Ok.ensures ∙ ap (edit_named (map.get c.args.self.now.agent.serials)) c.in_ok-edit.ensures in
    edited-sent c.answer_node_edit.result c.args.self.now c.args.side.now state c.args.id c.args.edit c.in-Ok.edit c.args.out.now.items
    c.answer_node_edit.new.out.items stands c.requires.on named
    (c.answer_node_edit.ensures.sent state stands)

pub returns-in-Err-clause-stands : goal.returns-in-Err-clause-stands
returns-in-Err-clause-stands c = λ state both.
    let named = c.in-Err.ensures ∙ ap (edit_named (map.get c.args.self.now.agent.serials)) c.in_ok-edit.ensures in
    in_any c.refuse.result _
    (unnamed-both c.args.self.now c.args.history.now c.args.side.now state c.args.id c.args.edit c.in-Err.why both c.requires.on
    named)

pub returns-in-Err-clause-sent : goal.returns-in-Err-clause-sent
returns-in-Err-clause-sent c = λ state stands.
    let named = c.in-Err.ensures ∙ ap (edit_named (map.get c.args.self.now.agent.serials)) c.in_ok-edit.ensures in
    on_ok c.refuse.result _ _ (c.refuse.ensures state)
    (λ sent. sent ∙ ap (λ (done : Step). c.args.out.now.items ++ frames_of_moves done.moves)
    (edit-is c.args.self.now c.args.side.now state c.args.id c.args.edit (Err c.in-Err.why) stands c.requires.on named))

pub returns-in-Ok-clause-told : goal.returns-in-Ok-clause-told
returns-in-Ok-clause-told c = λ state other first stands.
    let named = c.in-Ok.ensures ∙ ap (edit_named (map.get c.args.self.now.agent.serials)) c.in_ok-edit.ensures in
    named-hears c.answer_node_edit.result c.args.guest.now c.answer_node_edit.new.guest c.args.self.now c.args.side.now
    c.answer_node_edit.new.side state other c.args.edit c.in-Ok.edit first c.requires.on named
    (c.answer_node_edit.ensures.told state other first stands)

pub returns-in-Err-clause-told : goal.returns-in-Err-clause-told
returns-in-Err-clause-told c = λ state other first stands.
    let named = c.in-Err.ensures ∙ ap (edit_named (map.get c.args.self.now.agent.serials)) c.in_ok-edit.ensures in
    in_any c.refuse.result _
    (unchanged-hears c.args.guest.now c.args.self.now c.args.side.now state other (command_outward (commands.EditDom c.args.edit) state)
    first stands (named-outward c.args.self.now c.args.side.now state c.args.edit (Err c.in-Err.why) first c.requires.on named))
