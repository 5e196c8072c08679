-- A run with two front ends in hand: the link is honest, and the link and the ends have come to where the run of the script is.
use Rattle.std.specs.Prelude.{◌≡◌, ◌≤◌, ℕ, ◌+◌, List, [], ◌∷◌, ◌++◌, Option, Some, None, Bool, cond, Result, Ok, Err, OnOk, ⊤}
use Rattle.front_mirror.specs.declared.panels.Panel.{Ghosts}
use Rattle.front_mirror.specs.declared.faults.FrontKind.{FrontKind}
use Rattle.pipe_frames.specs.Pipe.{Pipe}
use Rattle.session_runs.specs.Stream.{arriving, awaited}
use Rattle.session_runs.specs.World.{sent_up, answered, delivered_up, delivered_down}
use Rattle.session_runs.specs.Passages.{turning}
use Rattle.session_runs.specs.PairRuns.{passing}
use Rattle.session_runs.specs.Agreement.{IsAtRest}
use Rattle.back_end.specs.Steps.{Turn}
use Rattle.session_runs.specs.Fold.{RoomThroughout}
use Rattle.session_runs.specs.Pairs.{pair_step}
use Rattle.session_runs.specs.Fetches.{Fetcher, front_in, fetched, fetched_if, all_fetched}
use Rattle.inspect_world.specs.Fits.{most_fetches}
use Rattle.pair_world.specs.Clients.{pair_reads, client_steps}
use Rattle.pair_world.specs.PairRuns.{PairSpent, PairRun, after_deed_by, pair_settled, fetches_on}
use Rattle.pair_world.specs.PairFresh.{FrontValues, pair_runner, no_fronts, pair_refreshes}
use Rattle.pair_world.specs.PairFresh.{PairHasLeft, PairTogether, PairRoom, SettleHasRoom, WhereTrue}
use Rattle.pair_world.specs.PairFresh.{RefreshHasRoom}
use Rattle.pair_world.specs.PairHeld.{PairMode, calm, targeted, InPairWorld}
use Rattle.pair_world.specs.PairHeld as held
use Rattle.replay_parts.specs.declared.stop.Stop.{Stop}
use Rattle.replay_parts.specs.Moments.{Moment}
use Rattle.replay_parts.specs.LinkEnds.{LinkEnds, EachAnswered, OverHonest}
use Rattle.pair_replay.specs.declared.two_fronts.TwoFronts.{TwoFronts}
use Rattle.pair_replay.specs.Tellings.{told_seen}
use Rattle.multi_replay.specs.States.{StatePair, is_there, front_meant, attach_text, detach_text}
use Rattle.front_mirror.specs.Sheets.{stale_of}
use Rattle.cdp_messages.specs.Asked.{command_text}
use Rattle.replay_script.specs.Forms.{AskForm}
use Rattle.pair_world.specs.PairRuns.{one_ask_on, one_attach, one_detach, asks_on, next_target}
use Rattle.pair_world.specs.PairScripts.{session_on, pair_telling}
pub use Rattle.pair_world.specs.PairSendings.{attached_text, fetcher_on, by_fetcher, PairHasIds}
use Rattle.pair_replay.specs.PairAnswers.{RoomTold}
pub use Rattle.pair_world.specs.FetchShown.{IsPlainOfPair}

-- what both ends hold, with so much of the link
abbrev pub with_ends : LinkEnds → held.PairEnds → held.PairEnds
with_ends s e = record e { back_rest = s.splitter.rest; up_there = s.up_there; down_there = s.down_there }

-- what the ends of the program hold
abbrev pub pair_ends_of : {P : Type 0} {g : Ghosts P} → TwoFronts P g → held.PairEnds
pair_ends_of e = record {
  mux = e.mux;
  side = e.side;
  back_rest = e.ends.splitter.rest;
  fronts = e.fronts;
  up_there = e.ends.up_there;
  down_there = e.ends.down_there;
  first_told = told_seen e.first_told;
  second_told = told_seen e.second_told;
}

-- Over an honest link the run, with the fetches of its settles, has come to w since the pipes were as `up0` and `down0`, with nothing left
-- to give. The frames that `waiting` holds came up whole, and are not yet answered.
abbrev pub HonestPair : PairMode → Type 0 → (up0 down0 up down : Pipe) → PairRun → held.PairEnds → List (List ℕ) → Type 0
HonestPair mode honest up0 down0 up down w e waiting = OverHonest honest (InPairWorld mode up0 down0 up down w (waiting ++ awaited w.up) e)

-- the ends are in a run, and the splitter may hold whole frames
abbrev pub InPairRunWith : {P : Type 0} {g : Ghosts P} → PairMode → Type 0 → (up0 down0 up down : Pipe) → PairRun → TwoFronts P g → Type 0
InPairRunWith mode honest up0 down0 up down w e = HonestPair mode honest up0 down0 up down w (pair_ends_of e) e.ends.splitter.whole

-- the ends are in a run, each frame that came up whole being answered
abbrev pub InPairRun : {P : Type 0} {g : Ghosts P} → PairMode → Type 0 → (up0 down0 up down : Pipe) → PairRun → TwoFronts P g → Type 0
InPairRun mode honest up0 down0 up down w e =
    EachAnswered (HonestPair mode honest up0 down0 up down w (pair_ends_of e)) e.ends.splitter.whole

-- Where a call takes a run, and for which steps there has to be room; when it may come, and whether an attach or a detach is on its
-- way then.
pub record Aim : Type 1 where
  pub may : PairMode → PairRun → Type 0
  pub to : PairRun → PairRun
  pub mode : PairMode → PairMode
  pub room : PairRun → Type 0

-- A call takes each run over an honest link, while lines of so many bytes more may come, to where it aims; unless a step meets no room.
abbrev pub PairSteps : {P : Type 0} {g : Ghosts P} {T : Type 0} → ℕ → Moment (TwoFronts P g) → Moment (TwoFronts P g) → Result T Stop → Aim
    → Type 0
PairSteps bytes old new result aim =
    (mode : PairMode) (up0 down0 : Pipe) (w : PairRun) → PairHasLeft w.spent bytes → aim.may mode w
    → InPairRun mode old.honest up0 down0 old.up old.down w old.ends
    → RoomTold result (aim.room w) × OnOk result (InPairRun (aim.mode mode) new.honest up0 down0 new.up new.down (aim.to w) new.ends)

-- a call takes each run over an honest link to where it aims, whatever was spent
abbrev pub PairGoes : {P : Type 0} {g : Ghosts P} {T : Type 0} → Moment (TwoFronts P g) → Moment (TwoFronts P g) → Result T Stop → Aim
    → Type 0
PairGoes old new result aim =
    (mode : PairMode) (up0 down0 : Pipe) (w : PairRun) → aim.may mode w
    → InPairRun mode old.honest up0 down0 old.up old.down w old.ends
    → RoomTold result (aim.room w) × OnOk result (InPairRun (aim.mode mode) new.honest up0 down0 new.up new.down (aim.to w) new.ends)

-- a frame of either front end is sent
abbrev pub sends_up : (PairRun → List ℕ) → (PairSpent → PairSpent) → Aim
sends_up text more = record { may = λ mode w. mode ≡ calm; to = λ w. sent_up (text w) more w; mode = λ mode. mode; room = λ w. ⊤ }

-- an ask of the front end that is meant
abbrev pub sending_ask : Bool → AskForm → Aim
sending_ask second a =
    sends_up (λ w. command_text (asks_on second w.spent + 1) a.method a.params (session_on second w.state.attached)) (one_ask_on second)

-- an attach or a detach is sent, once all has come
abbrev pub targets_up : (PairRun → List ℕ) → (PairSpent → PairSpent) → Aim
targets_up text more = record {
  may = λ mode w. (mode ≡ calm) × IsAtRest w;
  to = λ w. sent_up (text w) more w;
  mode = λ mode. targeted;
  room = λ w. ⊤;
}

-- the command that attaches a session
abbrev pub sending_attach : Aim
sending_attach = targets_up (λ w. attach_text (next_target w.spent)) one_attach

-- the command that detaches it
abbrev pub sending_detach : Aim
sending_detach = targets_up (λ w. detach_text (next_target w.spent) (attached_text w.state.attached)) one_detach

-- the script makes a step
abbrev pub turns_page : Turn → Aim
turns_page x = record {
  may = λ mode w. ⊤;
  to = λ w. after_deed_by pair_refreshes (passing (turning x)) w;
  mode = λ mode. mode;
  room = λ w. PairRoom w.state;
}

-- so many bytes are delivered up
abbrev pub delivers_up : ℕ → Aim
delivers_up n = record {
  may = λ mode w. ⊤;
  to = λ w. delivered_up (pair_step pair_reads client_steps) n w;
  mode = λ mode. mode;
  room = λ w. RoomThroughout (pair_step pair_reads client_steps) PairRoom w.state (arriving n w.up);
}

-- or down
abbrev pub delivers_down : ℕ → Aim
delivers_down n = record { may = λ mode w. ⊤; to = λ w. delivered_down n w; mode = λ mode. mode; room = λ w. ⊤ }

-- All is delivered: then no attach and no detach is on its way.
abbrev pub delivers_all : Aim
delivers_all = record { may = λ mode w. ⊤; to = pair_settled; mode = λ mode. calm; room = SettleHasRoom }

-- so it is after a settle, with its fetches
abbrev pub refreshing : Aim
refreshing = record { may = λ mode w. ⊤; to = pair_refreshes; mode = λ mode. calm; room = RefreshHasRoom }

-- a call that answers the frames that came up whole
abbrev pub PairAnswersAll : {P : Type 0} {g : Ghosts P} {T : Type 0} → Moment (TwoFronts P g) → Moment (TwoFronts P g) → Result T Stop
    → Type 0
PairAnswersAll old new result =
    (mode : PairMode) (up0 down0 : Pipe) (w : PairRun) → InPairRunWith mode old.honest up0 down0 old.up old.down w old.ends
    → RoomTold result (RoomThroughout (pair_step pair_reads client_steps) PairRoom w.state old.ends.ends.splitter.whole)
    × OnOk result (InPairRun mode new.honest up0 down0 new.up new.down
    (answered (pair_step pair_reads client_steps) old.ends.ends.splitter.whole w) new.ends)

-- a call that answers one frame, before those that the splitter holds
abbrev pub PairAnswersOne : {P : Type 0} {g : Ghosts P} {T : Type 0} → List ℕ → Moment (TwoFronts P g) → Moment (TwoFronts P g)
    → Result T Stop → Type 0
PairAnswersOne frame old new result =
    (mode : PairMode) (up0 down0 : Pipe) (w : PairRun) → old.honest
    → InPairWorld mode up0 down0 old.up old.down w (frame ∷ (old.ends.ends.splitter.whole ++ awaited w.up)) (pair_ends_of old.ends)
    → RoomTold result (PairRoom w.state)
    × OnOk result (InPairRunWith mode new.honest up0 down0 new.up new.down
    (answered (pair_step pair_reads client_steps) (frame ∷ []) w) new.ends)

-- ---- the fetches of a settle

-- where no second front end stands, no step of its fetches asks for room
abbrev pub room_by : Option (Fetcher FrontValues PairSpent) → (Fetcher FrontValues PairSpent → PairRun → Type 0) → PairRun → Type 0
room_by None Room w = ⊤
room_by (Some fetcher) Room w = Room fetcher w

-- the fetch of a sheet is sent
abbrev pub sending_fetch : Bool → ℕ → Aim
sending_fetch second number = record {
  may = λ mode w. (mode ≡ calm) × IsAtRest w;
  mode = λ mode. mode;
  to = λ w. by_fetcher (fetcher_on second w.state.attached)
      (λ fetcher v. sent_up (fetcher.text (fetcher.count v.spent) number) fetcher.one_more v) w;
  room = λ w. ⊤;
}

-- a sheet that the front end knows is fetched
abbrev pub fetching_known : Bool → ℕ → Aim
fetching_known second number = record {
  may = λ mode w. (mode ≡ calm) × IsAtRest w;
  mode = λ mode. mode;
  to = λ w. by_fetcher (fetcher_on second w.state.attached) (λ fetcher v. fetched pair_runner fetcher number v) w;
  room = λ w. PairRoom w.state;
}

-- the sheets whose text the front end that is meant lacks or knows to be old; none where it does not stand
abbrev pub stale_meant : Bool → StatePair → List ℕ
stale_meant second p = cond (is_there second p) (stale_of (front_meant second p).value.sheets) []

-- where the front end knows the sheet, there is room for its fetch
abbrev pub KnownHasRoom : Fetcher FrontValues PairSpent → ℕ → Result FrontValues FrontKind → PairRun → Type 0
KnownHasRoom fetcher number (Ok fronts) w = WhereTrue (fetcher.knows fronts number) (PairRoom w.state)
KnownHasRoom fetcher number (Err fault) w = ⊤

-- a sheet that the front end still knows is fetched
abbrev pub fetching : Bool → ℕ → Aim
fetching second number = record {
  may = λ mode w. (mode ≡ calm) × IsAtRest w;
  mode = λ mode. mode;
  to = λ w. by_fetcher (fetcher_on second w.state.attached)
      (λ fetcher v. fetched_if pair_runner fetcher (front_in pair_runner no_fronts v) number v) w;
  room = λ w. room_by (fetcher_on second w.state.attached)
      (λ fetcher v. KnownHasRoom fetcher number (front_in pair_runner no_fronts v) v) w;
}

-- before each of these fetches that is made there is room
abbrev pub AllHaveRoom : Fetcher FrontValues PairSpent → List ℕ → PairRun → Type 0
AllHaveRoom fetcher [] w = ⊤
AllHaveRoom fetcher (number ∷ numbers) w =
    KnownHasRoom fetcher number (front_in pair_runner no_fronts w) w
    × AllHaveRoom fetcher numbers (fetched_if pair_runner fetcher (front_in pair_runner no_fronts w) number w)

-- these sheets are fetched, one after the other
abbrev pub fetching_all : Bool → List ℕ → Aim
fetching_all second numbers = record {
  may = λ mode w. (mode ≡ calm) × IsAtRest w;
  mode = λ mode. mode;
  to = λ w. by_fetcher (fetcher_on second w.state.attached) (λ fetcher v. all_fetched pair_runner fetcher no_fronts numbers v) w;
  room = λ w. room_by (fetcher_on second w.state.attached) (λ fetcher v. AllHaveRoom fetcher numbers v) w;
}

-- a call that makes fetches for the front end that is meant takes each run there, while there are ids, and for so many
abbrev pub PairFetches : {P : Type 0} {g : Ghosts P} {T : Type 0} → Bool → ℕ → Moment (TwoFronts P g) → Moment (TwoFronts P g)
    → Result T Stop → Aim → Type 0
PairFetches second count old new result aim =
    (up0 down0 : Pipe) (w : PairRun) → PairHasIds w.spent → fetches_on second w.spent + count ≤ most_fetches → aim.may calm w
    → InPairRun calm old.honest up0 down0 old.up old.down w old.ends
    → RoomTold result (aim.room w) × OnOk result (InPairRun calm new.honest up0 down0 new.up new.down (aim.to w) new.ends)

-- ---- beside the run that the report tells

-- The run that the report tells has come to w, and over an honest link the run with fetches to v, which goes together with w; lines of so
-- many bytes more may be carried out. As much was told as in w.
pub record InPairPlay {P : Type 0} {g : Ghosts P} (honest : Type 0) (up0 down0 up down : Pipe) (bytes : ℕ) (w v : PairRun)
    (e : TwoFronts P g) : Type 0 where
  pub both : PairTogether IsPlainOfPair bytes w v
  pub in_run : InPairRun calm honest up0 down0 up down (pair_telling w.told v) e
