-- A seat that stands for some state does so after a frame.
use Rattle.std.proofs.Math.Logic.{∥∥₁_map}
use Rattle.back_end.specs.States.{State}
use Rattle.back_end.specs.Steps.{frame_step}
use Rattle.back_end.specs.Seats.{StandsFor}
use Rattle.back_end.proofs.seat.Seat.serve_frame.Goals as goal

pub returns-clause-seated : goal.returns-clause-seated
returns-clause-seated c = λ alive.
    ∥∥₁_map (c.requires.seated c.if-self.false)
    (λ (x : ((state : State) × StandsFor c.args.self.now c.args.side.now state)).
    ((frame_step c.args.own c.args.frame.now x.0).state, (c.in_ok-answer_frame.ensures {u = tt}).stands x.0 x.1))
