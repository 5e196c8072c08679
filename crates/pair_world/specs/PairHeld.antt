-- What the two ends hold while a script with two front ends is carried out over a link, and that they follow the run.
use Rattle.std.specs.Prelude.{◌≡◌, ℕ, ◌+◌, false, All, List, [], Option, Some, None, ⊤}
use Rattle.std.specs.Option.{option_to_list}
use Rattle.pipe_frames.specs.Pipe.{Pipe}
use Rattle.front_mirror.specs.Front.{FrontState}
use Rattle.session_runs.specs.Stream.{sent}
use Rattle.session_runs.specs.LinkRuns.{OnLink}
use Rattle.session_runs.specs.Pairs.{attach, WaitingTarget, Second}
use Rattle.multi_replay.specs.Folds.{UpReads}
use Rattle.session_mux.specs.Sessions.{session_text}
use Rattle.multi_replay.specs.States.{StatePair, FrontsState}
use Rattle.multi_replay.specs.Laws.{IsFoldOfBoth}
use Rattle.back_end.specs.declared.mux.Mux.{Mux}
use Rattle.back_end.specs.declared.side.PageSide.{PageSide}
use Rattle.back_end.specs.PairSeats.{PairStandsFor}
use Rattle.inspect_world.specs.World.{AlreadyTold}
use Rattle.inspect_world.specs.Fits.{ask_of_frame}
use Rattle.pair_world.specs.SessionWays.{frame_way}
use Rattle.pair_world.specs.FrameLaws.{IsUsual}
use Rattle.pair_world.specs.SameSteps.{clients_of}
use Rattle.pair_world.specs.PairRuns.{PairSpent, PairRun, next_target}
use Rattle.pair_world.specs.PairFresh.{pair_runner, FrontValues, PairIsCalm, PairIsFit, no_fronts}
use Rattle.pair_world.specs.PairFits.{PageSessions}

-- the frames that go up, as the fold of two front ends reads them
abbrev pub up_reads : UpReads
up_reads = record { way = frame_way; asks = λ text. option_to_list (ask_of_frame text) }

-- The seats of both clients and the page's side; what the back end has of a frame that is not whole; the two front ends; how many bytes of
-- each pipe were sent and not given; and how much was told of each front end.
pub record PairEnds : Type 0 where
  pub mux : Mux
  pub side : PageSide
  pub back_rest : List ℕ
  pub fronts : FrontsState
  pub up_there : ℕ
  pub down_there : ℕ
  pub first_told : AlreadyTold
  pub second_told : AlreadyTold

-- the second front end, where it stands, numbers its asks and its fetches as the run counts them
abbrev pub SecondCounted : PairSpent → Option (Second FrontState (List ℕ)) → Type 0
SecondCounted n None = ⊤
SecondCounted n (Some w) = (w.value.next ≡ n.second_asks + 1) × (w.value.fetches ≡ n.second_fetches)

-- where a command that waits is an attach, the second front end that comes of it has sent nothing
abbrev pub CountsNone : PairSpent → WaitingTarget → Type 0
CountsNone n t = t.kind ≡ attach → (n.second_asks ≡ 0) × (n.second_fetches ≡ 0)

-- front ends number what they send as the run counts it
pub record NumberAsCounted (n : PairSpent) (s : FrontsState) : Type 0 where
  pub asks : s.pair.one.next ≡ n.asks + 1
  pub fetches : s.pair.one.fetches ≡ n.fetches
  pub second : SecondCounted n s.pair.two
  pub attaching : All (CountsNone n) s.pair.waiting
  pub targets : s.next ≡ next_target n

-- Whether an attach or a detach is on its way, as it is between the two settles of its line alone.
pub data PairMode : Type 0 where
  calm : PairMode
  targeted : PairMode

-- what ties the front ends to the sessions meanwhile
abbrev pub fit_in : PairMode → PairSpent → FrontValues → PageSessions → List (List ℕ) → Type 0
fit_in calm = PairIsCalm
fit_in targeted = PairIsFit

-- the second front end that has taken what was given stands just where a session is attached, and has its text
abbrev pub IsSecondOf : Option (Second FrontState (List ℕ)) → Option ℕ → Type 0
IsSecondOf None None = ⊤
IsSecondOf None (Some k) = ⊥
IsSecondOf (Some w) None = ⊥
IsSecondOf (Some w) (Some k) = w.text ≡ session_text k

-- while no attach and no detach is on its way, the front ends wait for none, and know which session is attached
abbrev pub KnowSession : PairMode → StatePair → Option ℕ → Type 0
KnowSession calm p attached = (p.waiting ≡ []) × IsSecondOf p.two attached
KnowSession targeted p attached = ⊤

-- Since the pipes were as `up0` and `down0`, the link and the ends have come to where the run is, the fetches of its settles included;
-- `frames` are whole at the back end and not yet answered, or on their way to it; all are frames as front ends send them.
pub record InPairWorld (mode : PairMode) (up0 down0 up down : Pipe) (w : PairRun) (frames : List (List ℕ)) (e : PairEnds) : Type 0 where
  pub on_link : OnLink pair_runner (fit_in mode) no_fronts (record { up = up0; down = down0 }) (record { up = up; down = down }) w frames
      (record { back_rest = e.back_rest; up_there = e.up_there; down_there = e.down_there })
  pub usual : All IsUsual frames
  pub stands : PairStandsFor e.mux e.side (clients_of w.state)
  pub fronts_are : IsFoldOfBoth up_reads (sent w.up) w.down.given e.fronts
  pub numbered : NumberAsCounted w.spent e.fronts
  pub session : KnowSession mode e.fronts.pair w.state.attached
  pub alive : e.fronts.dead ≡ false
  pub first_alive : e.fronts.pair.one.dead ≡ false
  pub panels : e.fronts.pair.one.panels ≡ w.told.panels
  pub first_told : e.first_told ≡ w.told.first
  pub second_told : e.second_told ≡ w.told.second
