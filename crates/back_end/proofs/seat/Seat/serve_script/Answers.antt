-- An act that is carried out empties the history, and one that is refused leaves it.
use Rattle.std.proofs.Common.{sym, ◌∙◌}
use Rattle.std.proofs.Math.Logic.{∥∥₁_map}
use Rattle.back_end.specs.States.{State}
use Rattle.back_end.specs.Steps.{act_step}
use Rattle.back_end.specs.Seats.{StandsFor}
use Rattle.back_end.proofs.OwnSeats.{acted-both, unacted-both}
use Rattle.back_end.proofs.seat.Seat.serve_script.Goals as goal

pub returns-in-Some-clause-stands : goal.returns-in-Some-clause-stands
returns-in-Some-clause-stands c = λ state both.
    unacted-both c.args.self.now.desk c.script.new.self c.args.self.now.history c.args.side.now c.script.new.side state c.args.act
    c.in-Some.fault both
    (sym c.in-Some.is ∙ c.in_ok-fault.ensures.fault) (c.in_ok-fault.ensures.stands state both.stands)

pub returns-in-Some-clause-seated : goal.returns-in-Some-clause-seated
returns-in-Some-clause-seated c = λ seated alive.
    ∥∥₁_map (seated c.if-self.false)
    (λ (x : ((state : State) × StandsFor c.args.self.now c.args.side.now state)). (
      (act_step c.args.act x.0).state,
      unacted-both c.args.self.now.desk c.script.new.self c.args.self.now.history c.args.side.now c.script.new.side x.0 c.args.act
          c.in-Some.fault x.1
          (sym c.in-Some.is ∙ c.in_ok-fault.ensures.fault) (c.in_ok-fault.ensures.stands x.0 x.1.stands),
    ))

pub returns-clause-stands : goal.returns-clause-stands
returns-clause-stands c = λ state both.
    acted-both c.args.self.now.desk c.script.new.self c.args.self.now.history c.cross.new.self c.args.side.now c.script.new.side state
    c.args.act both
    (sym c.in_default.is ∙ c.in_ok-fault.ensures.fault) c.cross.ensures (c.in_ok-fault.ensures.stands state both.stands)

pub returns-clause-seated : goal.returns-clause-seated
returns-clause-seated c = λ seated alive.
    ∥∥₁_map (seated c.if-self.false)
    (λ (x : ((state : State) × StandsFor c.args.self.now c.args.side.now state)). (
      (act_step c.args.act x.0).state,
      acted-both c.args.self.now.desk c.script.new.self c.args.self.now.history c.cross.new.self c.args.side.now c.script.new.side x.0
          c.args.act x.1
          (sym c.in_default.is ∙ c.in_ok-fault.ensures.fault) c.cross.ensures (c.in_ok-fault.ensures.stands x.0 x.1.stands),
    ))
