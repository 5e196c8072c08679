-- A load that a client asks for is the step of the state, and then the reply.
use Rattle.serde_json.specs.View.{view}
use Rattle.page_forms.specs.Pages.{loaded_page}
use Rattle.back_end.proofs.SeatLemmas.{on_ok}
use Rattle.back_end.proofs.ScriptLemmas.{in_any}
use Rattle.back_end.proofs.OwnSeats.{finds-why, loaded-sent, loaded-both, unloaded-both, unloaded-sent}
use Rattle.back_end.proofs.GuestSteps.{loaded-hears, unloaded-hears}
use Rattle.back_end.proofs.desk.Desk.answer_load.Goals as goal

pub returns-in_ok-load-in-Ok-clause-stands : goal.returns-in_ok-load-in-Ok-clause-stands
returns-in_ok-load-in-Ok-clause-stands c = λ state both.
    in_any c.write_reply.result _
    (loaded-both c.load.new.self c.clear.new.self c.load.new.side state c.args.id (view c.args.params.now)
    (loaded_page c.in-Ok.page) c.in-Ok.ensures.finds c.clear.ensures
    (c.in_ok-load-in-Ok.ensures.stands state both.stands))

pub returns-in_ok-load-in-Ok-clause-sent : goal.returns-in_ok-load-in-Ok-clause-sent
returns-in_ok-load-in-Ok-clause-sent c = λ state stands.
    on_ok c.write_reply.result _ _ c.write_reply.ensures.ok
    (λ sent. loaded-sent state c.args.id (view c.args.params.now)
    (loaded_page c.in-Ok.page) c.args.out.now.items c.load.new.out.items _ c.in-Ok.ensures.finds
    (c.in_ok-load-in-Ok.ensures.sent state stands) sent)

pub returns-in-Err-Refused-clause-stands : goal.returns-in-Err-Refused-clause-stands
returns-in-Err-Refused-clause-stands c = λ state both.
    in_any c.refuse.result _ (unloaded-both _ _ _ state c.args.id (view c.args.params.now) c.in-Err-Refused.why
    (finds-why loaded_page c.in-Err-Refused.field-0 c.in-Err-Refused.why _ c.in-Err-Refused.field-0-is c.in-Err-Refused.ensures.finds) both)

pub returns-in-Err-Refused-clause-sent : goal.returns-in-Err-Refused-clause-sent
returns-in-Err-Refused-clause-sent c = λ state stands.
    on_ok c.refuse.result _ _ (c.refuse.ensures state)
    (λ sent. unloaded-sent state c.args.id (view c.args.params.now) c.in-Err-Refused.why c.args.out.now.items _
    (finds-why loaded_page c.in-Err-Refused.field-0 c.in-Err-Refused.why _ c.in-Err-Refused.field-0-is c.in-Err-Refused.ensures.finds) sent)

pub returns-in_ok-load-in-Ok-clause-told : goal.returns-in_ok-load-in-Ok-clause-told
returns-in_ok-load-in-Ok-clause-told c = λ state other first stands.
    in_any c.write_reply.result _
    (loaded-hears c.args.guest.now c.load.new.guest c.load.new.side state other (view c.args.params.now) (loaded_page c.in-Ok.page)
    c.in-Ok.ensures.finds (c.in_ok-load-in-Ok.ensures.told other stands))

pub returns-in-Err-Refused-clause-told : goal.returns-in-Err-Refused-clause-told
returns-in-Err-Refused-clause-told c = λ state other first stands.
    in_any c.refuse.result _
    (unloaded-hears c.args.guest.now c.args.self.now c.args.side.now state other (view c.args.params.now) c.in-Err-Refused.why first stands
    (finds-why loaded_page c.in-Err-Refused.field-0 c.in-Err-Refused.why _ c.in-Err-Refused.field-0-is c.in-Err-Refused.ensures.finds))
