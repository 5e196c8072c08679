-- The numbers that are told at the end of a drill.
use Rattle.std.proofs.Common.{◌≡◌, ℕ, List, [], Option, Result, Ok, Err, refl, ap, ◌∙◌, subst}
use Rattle.std.specs.Io.KnownBytes.{Appends}
use Rattle.std.specs.Result.{OnOk, OnErr}
use Rattle.front_mirror.specs.declared.panels.Panel.{Ghosts}
use Rattle.pipe_frames.specs.Frames.{frames_of}
use Rattle.pipe_frames.specs.Pipe.{Pipe}
use Rattle.pipe_frames.specs.Whole.{WrotePart}
use Rattle.pipe_frames.proofs.WholeLemmas.{Appends-nil}
use Rattle.front_mirror.specs.Front.{FrontValue}
use Rattle.session_runs.specs.Stream.{sent}
use Rattle.session_runs.specs.World.{settled}
use Rattle.inspect_world.specs.World.{World}
use Rattle.inspect_world.specs.RunStates.{RunState, run_step}
use Rattle.inspect_world.specs.Fits.{HasLeft}
use Rattle.inspect_world.specs.FreshRuns.{front_fetcher, refreshes}
use Rattle.inspect_world.specs.Links.{Started, Follows}
use Rattle.inspect_world.proofs.FetchesFit.{ShownThen}
use Rattle.inspect_world.proofs.LinkLemmas.{follows-fold, follows-replies}
use Rattle.inspect_replay.specs.declared.one_front.OneFront.{OneFront}
use Rattle.replay_parts.specs.declared.stop.Stop.{Stop}
use Rattle.replay_parts.specs.Moments.{moment, scene}
use Rattle.inspect_replay.specs.Runs.{InRun, ends_of}
use Rattle.replay_parts.specs.Stops.{GoesWell}
use Rattle.inspect_replay.specs.Followed.{FollowsRun, StopFolds, AnswersInOrder, fold_since}
use Rattle.inspect_replay.specs.Tallies.{TalliesShown, tally_of, tally_in, tally_text}
use Rattle.inspect_replay.specs.Drilled.{Tells}
use Rattle.inspect_replay.proofs.EndLemmas.{run-front}
use Rattle.inspect_replay.proofs.RunLemmas.{SettlesTo, prints-same, shown-settled}
use Rattle.inspect_replay.proofs.FollowLemmas.{run-good, stop-folds}
use Rattle.inspect_replay.proofs.TallyLemmas.{AreMarked, marked-all, tally-told}

-- over an honest link the numbers that were printed are those of the run
pub tells-well : {P : Type 0} {g : Ghosts P} (result : Result (Unit {0}) Stop) (honest honest1 : Type 0) (up down up1 down1 : Pipe)
    (taken taken1 : Option (List ℕ)) (e e1 : OneFront P g) (value : FrontValue)
    → SettlesTo honest honest1 up down up1 down1 e e1 → value ≡ e1.front.value → GoesWell result
    → OnOk result (Appends taken taken1 (tally_text (tally_of value)))
    → OnErr result (WrotePart taken taken1 (tally_text (tally_of value)))
    → Tells (scene (moment honest up down e) taken) taken1 result
tells-well result honest honest1 up down up1 down1 taken taken1 e e1 value settles same never ok err = λ up0 down0 w play.
    let v : World RunState = play.fresh in
    let after : InRun honest1 up0 down0 up1 down1 (refreshes front_fetcher v) e1 = settles up0 down0 v play.both.left play.in_run in
    let shown : ShownThen w e1.front.value = shown-settled honest1 up0 down0 up1 down1 0 w v e1 play.both after in
    let fold = run-front honest1 up0 down0 up1 down1 (refreshes front_fetcher v) e1 after in
    let marked : AreMarked e1.front.value.replies
    = marked-all (frames_of (sent (refreshes front_fetcher v).up)).whole (frames_of (refreshes front_fetcher v).down.given).whole
    e1.front.value fold in (
      never,
      prints-same result taken taken1 (tally_text (tally_of value)) (tally_text (tally_in (settled run_step w)))
          (ap (λ x. tally_text (tally_of x)) same ∙ ap tally_text (tally-told w e1.front.value shown marked)) ok err,
    )

-- or none were
pub tells-not : {P : Type 0} {g : Ghosts P} (stop : Stop) (honest : Type 0) (up down : Pipe) (taken : Option (List ℕ)) (e : OneFront P g)
    → ((up0 down0 : Pipe) (w : World RunState) → HasLeft w.spent 0 → InRun honest up0 down0 up down w e
    → GoesWell {T = Unit {0}} (Err stop))
    → Tells {T = Unit {0}} (scene (moment honest up down e) taken) taken (Err stop)
tells-not stop honest up down taken e never = λ up0 down0 w play. (
  never up0 down0 play.fresh play.both.left play.in_run,
  record { part = []; rest = tally_text (tally_in (settled run_step w)); whole = refl; wrote = Appends-nil taken },
)

-- over every link they are those of the fold
pub tells-shown : {P : Type 0} {g : Ghosts P} (result : Result (Unit {0}) Stop) (state0 : Started) (up0 down0 up down : Pipe)
    (before after : Option (List ℕ)) (e : OneFront P g) (value : FrontValue)
    → FollowsRun state0 up0 down0 up down e → value ≡ e.front.value → GoesWell result
    → OnOk result (Appends before after (tally_text (tally_of value)))
    → OnOk result (TalliesShown before after (fold_since up0 down0 up down) × AnswersInOrder up0 down0 up down)
    × StopFolds result (fold_since up0 down0 up down)
tells-shown (Ok u) state0 up0 down0 up down before after e value run same never printed = (
  (
    record {
      value = e.front.value;
      is_fold = follows-fold state0 up0 down0 up down e.ends.splitter.whole (ends_of e) run.so_far;
      printed = subst (λ x. Appends before after (tally_text (tally_of x))) same printed;
    },
    follows-replies state0 up0 down0 up down (ends_of e)
        (subst (λ frames. Follows state0 up0 down0 up down frames (ends_of e)) run.none_whole run.so_far),
  ),
  run-good state0 up0 down0 up down e run,
)
tells-shown (Err stop) state0 up0 down0 up down before after e value run same never printed =
    (tt, stop-folds stop (fold_since up0 down0 up down) never (run-good state0 up0 down0 up down e run))
