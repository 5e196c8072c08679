-- An act that a client asks for is judged by the page, or refused before.
use Rattle.serde_json.specs.View.{view}
use Rattle.back_end.proofs.SeatLemmas.{on_ok}
use Rattle.back_end.proofs.ScriptLemmas.{in_any}
use Rattle.back_end.proofs.OwnSeats.{commands-why, changed-both, changed-sent, unread-both, unread-sent}
use Rattle.back_end.proofs.GuestSteps.{judged-hears, unread-hears}
use Rattle.back_end.proofs.desk.Desk.answer_act.Goals as goal

pub returns-in-Ok-clause-stands : goal.returns-in-Ok-clause-stands
returns-in-Ok-clause-stands c = λ state both.
    on_ok c.answer_changed.result _ _ (c.answer_changed.ensures.stands state both)
    (λ done. changed-both _ _ _ state c.args.id (view c.args.params.now) c.in-Ok.act c.in-Ok.ensures.finds done)

pub returns-in-Ok-clause-sent : goal.returns-in-Ok-clause-sent
returns-in-Ok-clause-sent c = λ state stands.
    on_ok c.answer_changed.result _ _ (c.answer_changed.ensures.sent state stands)
    (λ sent. changed-sent state c.args.id (view c.args.params.now) c.in-Ok.act c.args.out.now.items _ c.in-Ok.ensures.finds sent)

pub returns-in-Err-Refused-clause-stands : goal.returns-in-Err-Refused-clause-stands
returns-in-Err-Refused-clause-stands c = λ state both.
    in_any c.refuse.result _ (unread-both _ _ _ state c.args.id (view c.args.params.now) c.in-Err-Refused.why
    (commands-why c.in-Err-Refused.field-0 c.in-Err-Refused.why _ c.in-Err-Refused.field-0-is c.in-Err-Refused.ensures.finds) both)

pub returns-in-Err-Refused-clause-sent : goal.returns-in-Err-Refused-clause-sent
returns-in-Err-Refused-clause-sent c = λ state stands.
    on_ok c.refuse.result _ _ (c.refuse.ensures state)
    (λ sent. unread-sent state c.args.id (view c.args.params.now) c.in-Err-Refused.why c.args.out.now.items _
    (commands-why c.in-Err-Refused.field-0 c.in-Err-Refused.why _ c.in-Err-Refused.field-0-is c.in-Err-Refused.ensures.finds) sent)

pub returns-in-Ok-clause-told : goal.returns-in-Ok-clause-told
returns-in-Ok-clause-told c = λ state other first stands.
    on_ok c.answer_changed.result _ _ (c.answer_changed.ensures.told other stands)
    (judged-hears c.args.guest.now c.answer_changed.new.guest c.args.self.now c.args.side.now c.answer_changed.new.side state other
    (view c.args.params.now) c.in-Ok.act first stands c.in-Ok.ensures.finds)

pub returns-in-Err-Refused-clause-told : goal.returns-in-Err-Refused-clause-told
returns-in-Err-Refused-clause-told c = λ state other first stands.
    in_any c.refuse.result _
    (unread-hears c.args.guest.now c.args.self.now c.args.side.now state other (view c.args.params.now) c.in-Err-Refused.why first stands
    (commands-why c.in-Err-Refused.field-0 c.in-Err-Refused.why _ c.in-Err-Refused.field-0-is c.in-Err-Refused.ensures.finds))
