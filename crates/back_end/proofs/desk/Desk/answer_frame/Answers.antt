-- A load that is read token by token is the step on its frame.
use Rattle.std.proofs.Common.{◌≡◌, ◌++◌, Option, true, subst}
use Rattle.std.specs.Prelude.{IfSome}
use Rattle.std.specs.Result.{OnOk}
use Rattle.cdp_messages.specs.Asked.{asked}
use Rattle.client_views.specs.Moves.{frames_of_moves}
use Rattle.page_forms.specs.Pages.{loaded_page}
use Rattle.back_end.specs.declared.load_scan.LoadFrame.{LoadFrame}
use Rattle.back_end.specs.LoadFrames.{AsksLoad}
use Rattle.back_end.specs.Steps.{Step}
use Rattle.back_end.specs.Seats.{BothStandFor}
use Rattle.back_end.proofs.OwnTexts.{frame-texts, read-texts}
use Rattle.back_end.proofs.LoadSpelt.{load_step_is, load_outward_is}
use Rattle.back_end.specs.Outside.{Outward}
use Rattle.back_end.specs.Guests.{Hears, heard_step}
use Rattle.back_end.proofs.desk.Desk.answer_frame.Goals as goal

pub returns-in-Some-clause-stands : goal.returns-in-Some-clause-stands
returns-in-Some-clause-stands c =
    let load = c.in-Some.load in
    let own = subst (λ (o : Option LoadFrame). IfSome o (λ f. c.args.own ≡ true)) c.in-Some.is c.requires.known in
    let asks = subst (λ (o : Option LoadFrame). IfSome o (λ f. AsksLoad c.args.frame.now f.id (loaded_page f.page)))
    c.in-Some.is c.requires.asks in
    λ state both.
    subst (λ (s : Step). OnOk c.answer_loaded.result
    (BothStandFor c.answer_loaded.new.self c.answer_loaded.new.history c.answer_loaded.new.side s.state))
    (load_step_is c.args.own c.args.frame.now load.id (loaded_page load.page) own asks state)
    (c.answer_loaded.ensures.stands state asks.params asks.loads both)

pub returns-in-Some-clause-sent : goal.returns-in-Some-clause-sent
returns-in-Some-clause-sent c =
    let load = c.in-Some.load in
    let own = subst (λ (o : Option LoadFrame). IfSome o (λ f. c.args.own ≡ true)) c.in-Some.is c.requires.known in
    let asks = subst (λ (o : Option LoadFrame). IfSome o (λ f. AsksLoad c.args.frame.now f.id (loaded_page f.page)))
    c.in-Some.is c.requires.asks in
    λ state both.
    subst (λ (s : Step). OnOk c.answer_loaded.result
    (c.answer_loaded.new.out.items ≡ c.args.out.now.items ++ frames_of_moves s.moves))
    (load_step_is c.args.own c.args.frame.now load.id (loaded_page load.page) own asks state)
    (c.answer_loaded.ensures.sent state asks.params asks.loads both.stands)

pub returns-in-Some-clause-told : goal.returns-in-Some-clause-told
returns-in-Some-clause-told c =
    let load = c.in-Some.load in
    let own = subst (λ (o : Option LoadFrame). IfSome o (λ f. c.args.own ≡ true)) c.in-Some.is c.requires.known in
    let asks = subst (λ (o : Option LoadFrame). IfSome o (λ f. AsksLoad c.args.frame.now f.id (loaded_page f.page)))
    c.in-Some.is c.requires.asks in
    λ state other both stands.
    subst (λ (out : Outward). OnOk c.answer_loaded.result
    (Hears c.args.guest.now c.answer_loaded.new.guest c.answer_loaded.new.side (heard_step out other)))
    (load_outward_is c.args.own c.args.frame.now load.id (loaded_page load.page) own asks state)
    (c.answer_loaded.ensures.told state other asks.params asks.loads stands)

pub answer_asked-requires-clause-texts : goal.answer_asked-requires-clause-texts
answer_asked-requires-clause-texts c =
    read-texts c.read_command-asked.result (asked c.args.frame.now c.args.own) c.read_command-asked.ensures.asked
    (frame-texts c.args.own c.args.frame.now)

pub returns-clause-stands : goal.returns-clause-stands
returns-clause-stands c = λ state both.
    c.answer_asked.ensures.stands (asked c.args.frame.now c.args.own) state c.read_command-asked.ensures.asked both

pub returns-clause-sent : goal.returns-clause-sent
returns-clause-sent c = λ state both.
    c.answer_asked.ensures.sent (asked c.args.frame.now c.args.own) state c.read_command-asked.ensures.asked both

pub returns-clause-told : goal.returns-clause-told
returns-clause-told c = λ state other both stands.
    c.answer_asked.ensures.told (asked c.args.frame.now c.args.own) state other c.read_command-asked.ensures.asked both stands
