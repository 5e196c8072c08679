-- The steps of the back end as bytes.
use Rattle.std.specs.Prelude.{ℕ, false, List}
use Rattle.client_views.specs.Moves.{frames_of_moves}
use Rattle.back_end.specs.States.{State}
use Rattle.back_end.specs.Steps.{Step, Turn, frame_step, turn_step}
use Rattle.session_runs.specs.World.{Stepped}

-- a step as the bytes of its messages
abbrev pub as_bytes : Step → Stepped State
as_bytes done = record { state = done.state; sent = frames_of_moves done.moves }

-- the step on one frame of a front end, as bytes: our own two methods are unknown
abbrev pub step : State → List ℕ → Stepped State
step state frame = as_bytes (frame_step false frame state)

-- the script's own step, as bytes
abbrev pub turn : Turn → State → Stepped State
turn x state = as_bytes (turn_step x state)
