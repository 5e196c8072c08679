-- A command is refused while a domain is off that it needs, and served else.
use Rattle.std.proofs.Common.{◌++◌, sym, ap, subst, ◌∙◌}
use Rattle.client_views.specs.Moves.{frames_of_moves}
use Rattle.back_end.specs.Steps.{Step}
use Rattle.back_end.specs.Outside.{command_outward}
use Rattle.back_end.specs.Seats.{BothStandFor}
use Rattle.back_end.proofs.SeatLemmas.{on_ok}
use Rattle.back_end.proofs.ScriptLemmas.{in_any}
use Rattle.back_end.proofs.DomainLemmas.{missing-is}
use Rattle.back_end.proofs.GuestSteps.{unchanged-hears}
use Rattle.back_end.proofs.DomainLemmas.{missing-outward}
use Rattle.back_end.proofs.desk.Desk.answer.Goals as goal

pub returns-in-Some-clause-stands : goal.returns-in-Some-clause-stands
returns-in-Some-clause-stands c = λ state both.
    in_any c.refuse.result _
    (subst (λ (done : Step). BothStandFor c.args.self.now c.args.history.now c.args.side.now done.state)
    (sym (missing-is c.args.self.now c.args.side.now state c.args.id c.args.command c.in-Some.why both.stands c.in-Some.ensures)) both)

pub returns-in-Some-clause-sent : goal.returns-in-Some-clause-sent
returns-in-Some-clause-sent c = λ state both.
    on_ok c.refuse.result _ _ (c.refuse.ensures state)
    (λ sent. sent ∙ ap (λ (done : Step). c.args.out.now.items ++ frames_of_moves done.moves)
    (sym (missing-is c.args.self.now c.args.side.now state c.args.id c.args.command c.in-Some.why both.stands c.in-Some.ensures)))

pub returns-in-Some-clause-told : goal.returns-in-Some-clause-told
returns-in-Some-clause-told c = λ state other both stands.
    in_any c.refuse.result _
    (unchanged-hears c.args.guest.now c.args.self.now c.args.side.now state other (command_outward c.args.command state) both.stands stands
    (missing-outward c.args.self.now c.args.side.now state c.args.command c.in-Some.why both.stands c.in-Some.ensures))
