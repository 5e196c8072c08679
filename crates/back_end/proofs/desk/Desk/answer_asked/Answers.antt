-- What was asked is answered as the command that was read, or refused.
use Rattle.std.proofs.Common.{◌≡◌, ◌++◌, Result, Ok, true, sym, subst}
use Rattle.std.specs.Result.{OnOk}
use Rattle.std.specs.Prelude.{IfOk}
use Rattle.cdp_messages.specs.Asked.{fits_command}
use Rattle.back_end.specs.Texts.{HasServedTexts}
use Rattle.cdp_messages.specs.Answers.{ReadsAsked}
use Rattle.cdp_messages.specs.declared.command.Asked.{Asked}
use Rattle.cdp_messages.specs.declared.command.ReadErr.{ReadErr}
use Rattle.cdp_messages.specs.declared.command.Refused.{Refused}
use Rattle.client_views.specs.Moves.{frames_of_moves}
use Rattle.back_end.specs.Steps.{asked_step}
use Rattle.back_end.specs.Seats.{BothStandFor}
use Rattle.back_end.specs.Outside.{asked_outward}
use Rattle.back_end.specs.Guests.{Hears, heard_step}
use Rattle.back_end.proofs.desk.Desk.answer_asked.Goals as goal

pub answer-requires-clause-command : goal.answer-requires-clause-command
answer-requires-clause-command c =
    subst (λ (a : Result Asked ReadErr). IfOk a (λ x. fits_command x.command ≡ true)) c.in-Ok.is c.requires.fits

pub answer-requires-clause-texts : goal.answer-requires-clause-texts
answer-requires-clause-texts c =
    subst (λ (a : Result Asked ReadErr). IfOk a (λ x. HasServedTexts x.command)) c.in-Ok.is c.requires.texts

pub returns-in-Ok-clause-stands : goal.returns-in-Ok-clause-stands
returns-in-Ok-clause-stands c = λ r state reads both.
    let is : r ≡ Ok c.in-Ok.asked = subst (λ (a : Result Asked ReadErr). ReadsAsked a r) c.in-Ok.is reads in
    subst (λ (x : Result Asked Refused). OnOk c.answer.result
    (BothStandFor c.answer.new.self c.answer.new.history c.answer.new.side (asked_step x state).state)) (sym is)
    (c.answer.ensures.stands state both)

pub returns-in-Ok-clause-sent : goal.returns-in-Ok-clause-sent
returns-in-Ok-clause-sent c = λ r state reads both.
    let is : r ≡ Ok c.in-Ok.asked = subst (λ (a : Result Asked ReadErr). ReadsAsked a r) c.in-Ok.is reads in
    subst (λ (x : Result Asked Refused). OnOk c.answer.result
    (c.answer.new.out.items ≡ c.args.out.now.items ++ frames_of_moves (asked_step x state).moves)) (sym is)
    (c.answer.ensures.sent state both)

pub returns-in-Ok-clause-told : goal.returns-in-Ok-clause-told
returns-in-Ok-clause-told c = λ r state other reads both stands.
    let is : r ≡ Ok c.in-Ok.asked = subst (λ (a : Result Asked ReadErr). ReadsAsked a r) c.in-Ok.is reads in
    subst (λ (x : Result Asked Refused). OnOk c.answer.result
    (Hears c.args.guest.now c.answer.new.guest c.answer.new.side (heard_step (asked_outward x state) other))) (sym is)
    (c.answer.ensures.told state other both stands)
