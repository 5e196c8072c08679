-- A load clears the history.
use Rattle.std.proofs.Math.Logic.{∥∥₁_map}
use Rattle.page_forms.specs.Pages.{loaded_page}
use Rattle.back_end.specs.States.{State}
use Rattle.back_end.specs.Steps.{load_step}
use Rattle.back_end.specs.Seats.{StandsFor}
use Rattle.back_end.proofs.OwnSeats.{load-both}
use Rattle.back_end.proofs.seat.Seat.serve_load.Goals as goal

pub returns-clause-stands : goal.returns-clause-stands
returns-clause-stands c = λ state both.
    load-both c.load.new.self c.clear.new.self c.load.new.side state (loaded_page c.args.form) c.clear.ensures
    ((c.in_ok-load.ensures {u = tt}).stands state both.stands)

pub returns-clause-seated : goal.returns-clause-seated
returns-clause-seated c = λ seated alive.
    ∥∥₁_map (seated c.if-self.false)
    (λ (x : ((state : State) × StandsFor c.args.self.now c.args.side.now state)). (
      (load_step (loaded_page c.args.form) x.0).state,
      load-both c.load.new.self c.clear.new.self c.load.new.side x.0 (loaded_page c.args.form) c.clear.ensures
          ((c.in_ok-load.ensures {u = tt}).stands x.0 x.1.stands),
    ))
