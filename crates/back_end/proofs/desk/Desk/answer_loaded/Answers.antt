-- A page that was read is loaded, and then comes the reply.
use Rattle.page_forms.specs.Pages.{loaded_page}
use Rattle.back_end.proofs.SeatLemmas.{on_ok}
use Rattle.back_end.proofs.ScriptLemmas.{in_any}
use Rattle.back_end.proofs.OwnSeats.{loaded-sent, loaded-both}
use Rattle.back_end.proofs.GuestSteps.{loaded-hears}
use Rattle.back_end.proofs.desk.Desk.answer_loaded.Goals as goal

pub returns-clause-stands : goal.returns-clause-stands
returns-clause-stands c = λ state params finds both.
    in_any c.write_reply.result _
    (loaded-both c.load.new.self c.clear.new.self c.load.new.side state c.args.id params (loaded_page c.args.page) finds c.clear.ensures
    (c.in_ok-load.ensures.stands state both.stands))

pub returns-clause-sent : goal.returns-clause-sent
returns-clause-sent c = λ state params finds stands.
    on_ok c.write_reply.result _ _ c.write_reply.ensures.ok
    (λ sent. loaded-sent state c.args.id params (loaded_page c.args.page) c.args.out.now.items c.load.new.out.items _ finds
    (c.in_ok-load.ensures.sent state stands) sent)

pub returns-clause-told : goal.returns-clause-told
returns-clause-told c = λ state other params finds stands.
    in_any c.write_reply.result _
    (loaded-hears c.args.guest.now c.load.new.guest c.load.new.side state other params (loaded_page c.args.page) finds
    (c.in_ok-load.ensures.told other stands))
