-- A run in hand: the link is honest, and the link and the ends have come to where the run of the script is.
use Rattle.std.specs.Prelude.{◌≡◌, ◌≤◌, ◌+◌, ℕ, List, [], ◌∷◌, ◌++◌, length, Result, OnOk}
use Rattle.front_mirror.specs.declared.panels.Panel.{Ghosts}
use Rattle.pipe_frames.specs.Pipe.{Pipe}
use Rattle.session_runs.specs.Stream.{awaited}
use Rattle.session_runs.specs.World.{sent_up, answered}
use Rattle.inspect_world.specs.World.{World, one_fetch}
use Rattle.inspect_world.specs.RunStates.{RunState, run_step}
use Rattle.front_mirror.specs.Front.{first_value}
use Rattle.inspect_world.specs.Fits.{HasLeft, IsPlainFrame, most_fetches, replay}
use Rattle.session_runs.specs.Fetches.{front_in, fetched, fetched_if, all_fetched}
use Rattle.inspect_world.specs.FreshRuns.{front_fetcher, refreshes, Together}
use Rattle.inspect_world.specs.Held.{Ends as HeldEnds, InWorld}
use Rattle.inspect_replay.specs.declared.one_front.OneFront.{OneFront}
use Rattle.replay_parts.specs.declared.stop.Stop.{Stop}
use Rattle.replay_parts.specs.Moments.{Moment, Passage}
use Rattle.replay_parts.specs.LinkEnds.{LinkEnds, EachAnswered, OverHonest}
use Rattle.replay_parts.specs.Stops.{GoesWell}

-- what both ends hold, with so much of the link
abbrev pub with_ends : LinkEnds → HeldEnds → HeldEnds
with_ends s e = record e { back_rest = s.splitter.rest; up_there = s.up_there; down_there = s.down_there }

-- what the ends of the program hold
abbrev pub ends_of : {P : Type 0} {g : Ghosts P} → OneFront P g → HeldEnds
ends_of e = record {
  seat = e.seat;
  side = e.side;
  back_rest = e.ends.splitter.rest;
  front = e.front;
  up_there = e.ends.up_there;
  down_there = e.ends.down_there;
  told = record { replies = e.told; pauses = e.told_pauses };
}

-- Over an honest link the run, with the fetches of its settles, has come to the world w since the pipes were as `up0` and
-- `down0`, with nothing left to give. The frames that `waiting` holds came up whole, and are not yet answered.
abbrev pub HonestRun : Type 0 → (up0 down0 up down : Pipe) → World RunState → HeldEnds → List (List ℕ) → Type 0
HonestRun honest up0 down0 up down w e waiting = OverHonest honest (InWorld up0 down0 up down w (waiting ++ awaited w.up) e)

-- the ends are in a run, and the splitter may hold whole frames
abbrev pub InRunWith : {P : Type 0} {g : Ghosts P} → Type 0 → (up0 down0 up down : Pipe) → World RunState → OneFront P g → Type 0
InRunWith honest up0 down0 up down w e = HonestRun honest up0 down0 up down w (ends_of e) e.ends.splitter.whole

-- the ends are in a run, each frame that came up whole being answered
abbrev pub InRun : {P : Type 0} {g : Ghosts P} → Type 0 → (up0 down0 up down : Pipe) → World RunState → OneFront P g → Type 0
InRun honest up0 down0 up down w e = EachAnswered (HonestRun honest up0 down0 up down w (ends_of e)) e.ends.splitter.whole

-- a call takes each run over an honest link to where the script takes it, and never stops at the front end
abbrev pub Steps : {P : Type 0} {g : Ghosts P} {T : Type 0} → Moment (OneFront P g) → Moment (OneFront P g) → Result T Stop
    → (World RunState → World RunState)
    → Type 0
Steps old new result f =
    (up0 down0 : Pipe) (w : World RunState) → InRun old.honest up0 down0 old.up old.down w old.ends
    → GoesWell result × OnOk result (InRun new.honest up0 down0 new.up new.down (f w) new.ends)

-- a call that sends a frame or makes a step of the script takes each run to where the script takes it, while there is room for a line of
-- so many bytes
abbrev pub Spends : {P : Type 0} {g : Ghosts P} {T : Type 0} → ℕ → Passage (OneFront P g) → Result T Stop
    → (World RunState → World RunState)
    → Type 0
Spends bytes m result f =
    (up0 down0 : Pipe) (w : World RunState) → HasLeft w.spent bytes
    → InRun m.before.honest up0 down0 m.before.up m.before.down w m.before.ends
    → GoesWell result × OnOk result (InRun m.after.honest up0 down0 m.after.up m.after.down (f w) m.after.ends)

-- a call that answers the frames that came up whole takes each run to where the script takes it
abbrev pub AnswersAll : {P : Type 0} {g : Ghosts P} {T : Type 0} → Moment (OneFront P g) → Moment (OneFront P g) → Result T Stop → Type 0
AnswersAll old new result =
    (up0 down0 : Pipe) (w : World RunState) → InRunWith old.honest up0 down0 old.up old.down w old.ends
    → GoesWell result × OnOk result (InRun new.honest up0 down0 new.up new.down (answered run_step old.ends.ends.splitter.whole w) new.ends)

-- a call that answers one frame, before those that the splitter holds, takes each run to where the script takes it
abbrev pub AnswersOne : {P : Type 0} {g : Ghosts P} {T : Type 0} → Moment (OneFront P g) → Moment (OneFront P g) → List ℕ → Result T Stop
    → Type 0
AnswersOne old new frame result =
    (up0 down0 : Pipe) (w : World RunState) → old.honest
    → InWorld up0 down0 old.up old.down w (frame ∷ (old.ends.ends.splitter.whole ++ awaited w.up)) (ends_of old.ends)
    → GoesWell result × OnOk result (InRunWith new.honest up0 down0 new.up new.down (answered run_step (frame ∷ []) w) new.ends)

-- ---- the fetches of a settle

-- a call that makes fetches takes each run to where the script takes it, while there is room for so many
abbrev pub SpendsFetches : {P : Type 0} {g : Ghosts P} {T : Type 0} → Moment (OneFront P g) → Moment (OneFront P g) → ℕ → Result T Stop →
    (World RunState → World RunState) → Type 0
SpendsFetches old new count result f =
    (up0 down0 : Pipe) (w : World RunState) → w.spent.fetches + count ≤ most_fetches → InRun old.honest up0 down0 old.up old.down w old.ends
    → GoesWell result × OnOk result (InRun new.honest up0 down0 new.up new.down (f w) new.ends)

-- of one that sends the fetch of a sheet's text
abbrev pub SendsFetch : {P : Type 0} {g : Ghosts P} {T : Type 0} → Moment (OneFront P g) → Moment (OneFront P g) → ℕ → Result T Stop
    → Type 0
SendsFetch old new number result =
    SpendsFetches old new 1 result (λ w. sent_up (front_fetcher.text w.spent.fetches number) one_fetch w)

-- of one that fetches it
abbrev pub FetchesText : {P : Type 0} {g : Ghosts P} {T : Type 0} → Moment (OneFront P g) → Moment (OneFront P g) → ℕ → Result T Stop
    → Type 0
FetchesText old new number result = SpendsFetches old new 1 result (fetched replay front_fetcher number)

-- of one that fetches it, unless the sheet is passed over
abbrev pub FetchesOne : {P : Type 0} {g : Ghosts P} {T : Type 0} → Moment (OneFront P g) → Moment (OneFront P g) → ℕ → Result T Stop
    → Type 0
FetchesOne old new number result =
    SpendsFetches old new 1 result (λ w. fetched_if replay front_fetcher (front_in replay (first_value []) w) number w)

-- of one that fetches the texts of these sheets
abbrev pub FetchesAll : {P : Type 0} {g : Ghosts P} {T : Type 0} → Moment (OneFront P g) → Moment (OneFront P g) → List ℕ → Result T Stop
    → Type 0
FetchesAll old new numbers result =
    SpendsFetches old new (length numbers) result (all_fetched replay front_fetcher (first_value []) numbers)

-- a settle with its fetches takes each run to where the script takes it, while there is room for those of one settle
abbrev pub Refreshes : {P : Type 0} {g : Ghosts P} {T : Type 0} → Moment (OneFront P g) → Moment (OneFront P g) → Result T Stop → Type 0
Refreshes old new result =
    (up0 down0 : Pipe) (w : World RunState) → HasLeft w.spent 0 → InRun old.honest up0 down0 old.up old.down w old.ends
    → GoesWell result × OnOk result (InRun new.honest up0 down0 new.up new.down (refreshes front_fetcher w) new.ends)

-- ---- beside the run that the report tells

-- The run that the report tells has come to w, and over an honest link the run with fetches to a world that goes together with
-- w; lines of so many bytes more may be carried out. As many replies and pauses were told in both.
pub record InPlay {P : Type 0} {g : Ghosts P} (honest : Type 0) (up0 down0 up down : Pipe) (bytes : ℕ) (w : World RunState)
    (e : OneFront P g) : Type 0 where
  pub fresh : World RunState
  pub both : Together IsPlainFrame bytes w fresh
  pub in_run : InRun honest up0 down0 up down fresh e
  pub told_is : fresh.told ≡ w.told
