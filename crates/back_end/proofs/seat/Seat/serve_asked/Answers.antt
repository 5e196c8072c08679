-- A seat that stands for some state does so after what was asked.
use Rattle.std.proofs.Math.Logic.{∥∥₁_map}
use Rattle.back_end.specs.States.{State}
use Rattle.back_end.specs.Steps.{asked_step}
use Rattle.back_end.specs.Seats.{StandsFor}
use Rattle.back_end.proofs.seat.Seat.serve_asked.Goals as goal

pub returns-clause-seated : goal.returns-clause-seated
returns-clause-seated c = λ r reads alive.
    ∥∥₁_map (c.requires.seated c.if-self.false)
    (λ (x : ((state : State) × StandsFor c.args.self.now c.args.side.now state)).
    ((asked_step r x.0).state, (c.in_ok-answer_asked.ensures {u = tt}).stands r x.0 reads x.1))
