-- What the two ends hold while a script is carried out over a link, and that they follow the run.
use Rattle.std.specs.Prelude.{◌≡◌, ℕ, ◌+◌, false, List, [], Option, None, Ok}
use Rattle.pipe_frames.specs.Pipe.{Pipe}
use Rattle.pipe_frames.specs.Frames.{frames_of}
use Rattle.front_mirror.specs.Front.{FrontValue, FrontState, first_value, take_frame}
use Rattle.front_mirror.specs.declared.panels.PanelKind.{PanelKind}
use Rattle.session_runs.specs.Stream.{sent, held}
use Rattle.inspect_world.specs.World.{World, AlreadyTold}
use Rattle.inspect_world.specs.RunStates.{RunState}
use Rattle.session_runs.specs.Fold.{folded, asks_joined}
use Rattle.session_runs.specs.LinkRuns.{OnLink}
use Rattle.back_end.specs.declared.seat.Seat.{Seat}
use Rattle.back_end.specs.declared.side.PageSide.{PageSide}
use Rattle.back_end.specs.Seats.{StandsFor}
use Rattle.inspect_world.specs.Fits.{join, IsFit, replay}

-- The client's seat and the page's side; what the back end has of a frame that is not whole; the front end; how many bytes of
-- each pipe were sent and not given; and how many of the replies and of the pauses were told.
pub record Ends : Type 0 where
  pub seat : Seat
  pub side : PageSide
  pub back_rest : List ℕ
  pub front : FrontState
  pub up_there : ℕ
  pub down_there : ℕ
  pub told : AlreadyTold

-- a front end without panels that has met no fault, by the id of its next ask and by how many fetches it has made
abbrev pub good_front : FrontValue → List ℕ → ℕ → ℕ → FrontState
good_front value rest next fetches =
    record { value = value; rest = rest; fault = None; next = next; fetches = fetches; dead = false; panels = [] }

-- the same front end with panels of these kinds, none where one was dropped
abbrev pub with_panels : List (Option PanelKind) → FrontState → FrontState
with_panels panels front = record front { panels = panels }

-- Since the pipes were as `up0` and `down0`, the link and the ends have come to where the run is, the fetches of its settles
-- included; `frames` are whole at the back end and not yet answered, or on their way to it.
pub record InWorld (up0 down0 up down : Pipe) (w : World RunState) (frames : List (List ℕ)) (e : Ends) : Type 0 where
  pub on_link : OnLink replay IsFit (first_value []) (record { up = up0; down = down0 }) (record { up = up; down = down }) w frames
      (record { back_rest = e.back_rest; up_there = e.up_there; down_there = e.down_there })
  pub stands : StandsFor e.seat e.side w.state.back
  pub value : FrontValue
  pub front_is : e.front ≡ with_panels w.told.panels (good_front value (held w.down) (w.spent.asks + 1) w.spent.fetches)
  pub is_fold : folded take_frame (asks_joined join (first_value []) (frames_of (sent w.up)).whole) (frames_of
      w.down.given).whole ≡ Ok value
  pub told_is : e.told ≡ w.told.so_far
