-- What the parts of a drill take a run to.
use Rattle.std.specs.Prelude.{◌≡◌, ◌+◌, ℕ, List, length, Option, Result, Ok, Err, OnOk, ⊤}
use Rattle.front_mirror.specs.declared.panels.Panel.{Ghosts}
use Rattle.pipe_frames.specs.Pipe.{Pipe}
use Rattle.replay_script.specs.Forms.{LineForm}
use Rattle.session_runs.specs.World.{settled}
use Rattle.inspect_world.specs.World.{World}
use Rattle.inspect_world.specs.RunStates.{RunState, run_step}
use Rattle.inspect_world.specs.Costs.{lines_cost}
use Rattle.inspect_world.specs.Scripts.{after_lines}
use Rattle.inspect_world.specs.Links.{Started, run_started}
use Rattle.inspect_replay.specs.declared.one_front.OneFront.{OneFront}
use Rattle.replay_parts.specs.declared.stop.Stop.{Stop}
use Rattle.replay_parts.specs.declared.stop.Stop.TheVariants.{Line, TooLong, ReadFault, WriteFault, LinkFault, FrontRefused, NoRoom}
use Rattle.replay_parts.specs.declared.stop.Stop.TheVariants.{Memory}
use Rattle.replay_parts.specs.declared.status.Status.{Status}
use Rattle.replay_parts.specs.declared.status.Status.TheVariants as status
use Rattle.replay_parts.specs.Moments.{Moment, Scene}
use Rattle.inspect_replay.specs.Runs.{InPlay}
use Rattle.replay_parts.specs.Stops.{GoesWell}
use Rattle.replay_parts.specs.Answers.{Prints}
use Rattle.inspect_replay.specs.Followed.{FollowsRun, StopFolds, AnswersInOrder, fold_since}
use Rattle.inspect_replay.specs.Tallies.{tally_text, tally_in, TalliesShown}

-- so many lines more may be carried out
abbrev pub lines_more : ℕ → Started → Started
lines_more n start = run_started start.state (start.lines + n) start.shown start.panels

-- a call that carries out these lines, none of which drops a panel, goes on following or stops as the fold says
abbrev pub FormsFollow : {P : Type 0} {g : Ghosts P} {T : Type 0} → List LineForm → Moment (OneFront P g) → Moment (OneFront P g)
    → Result T Stop
    → Type 0
FormsFollow forms old new result =
    (state0 : Started) (up0 down0 : Pipe) → FollowsRun (lines_more (length forms) state0) up0 down0 old.up old.down old.ends
    → OnOk result (FollowsRun state0 up0 down0 new.up new.down new.ends) × StopFolds result (fold_since up0 down0 new.up new.down)

-- over an honest link it takes the run to where the lines take it
abbrev pub RunsForms : {P : Type 0} {g : Ghosts P} {T : Type 0} → List LineForm → Moment (OneFront P g) → Moment (OneFront P g)
    → Result T Stop
    → Type 0
RunsForms forms old new result =
    (up0 down0 : Pipe) (more : ℕ) (w : World RunState)
    → InPlay old.honest up0 down0 old.up old.down (more + lines_cost forms) w old.ends
    → GoesWell result × OnOk result (InPlay new.honest up0 down0 new.up new.down more (after_lines forms w) new.ends)

-- the numbers are printed after a settle
abbrev pub Tells : {P : Type 0} {g : Ghosts P} {T : Type 0} → Scene (OneFront P g) → Option (List ℕ) → Result T Stop → Type 0
Tells old taken result =
    (up0 down0 : Pipe) (w : World RunState) → InPlay old.now.honest up0 down0 old.now.up old.now.down 0 w old.now.ends
    → GoesWell result × Prints result old.taken taken (tally_text (tally_in (settled run_step w)))

-- over every link they are those of the fold
abbrev pub TellsShown : {P : Type 0} {g : Ghosts P} {T : Type 0} → Scene (OneFront P g) → Scene (OneFront P g) → Result T Stop → Type 0
TellsShown old new result =
    (state0 : Started) (up0 down0 : Pipe) → FollowsRun state0 up0 down0 old.now.up old.now.down old.now.ends
    → OnOk result (TalliesShown old.taken new.taken (fold_since up0 down0 new.now.up new.now.down)
    × AnswersInOrder up0 down0 new.now.up new.now.down)
    × StopFolds result (fold_since up0 down0 new.now.up new.now.down)

-- a stop that comes of writing
abbrev pub IsOfWriting : Stop → Type 0
IsOfWriting (Line number fault) = ⊥
IsOfWriting TooLong = ⊥
IsOfWriting ReadFault = ⊥
IsOfWriting WriteFault = ⊤
IsOfWriting LinkFault = ⊥
IsOfWriting (FrontRefused place fault) = ⊥
IsOfWriting NoRoom = ⊥
IsOfWriting Memory = ⊤

-- where a call stops but of writing, nothing was written
abbrev pub WritesAtEnd : {T : Type 0} → Result T Stop → Option (List ℕ) → Option (List ℕ) → Type 0
WritesAtEnd (Ok value) before after = ⊤
WritesAtEnd (Err (Line number fault)) before after = after ≡ before
WritesAtEnd (Err TooLong) before after = after ≡ before
WritesAtEnd (Err ReadFault) before after = after ≡ before
WritesAtEnd (Err WriteFault) before after = ⊤
WritesAtEnd (Err LinkFault) before after = after ≡ before
WritesAtEnd (Err (FrontRefused place fault)) before after = after ≡ before
WritesAtEnd (Err NoRoom) before after = after ≡ before
WritesAtEnd (Err Memory) before after = ⊤

-- the same of the whole call: the six lines are written at once, on Done; a sink that fails may have taken a part of them
abbrev pub DrillWrites : Status → Option (List ℕ) → Option (List ℕ) → Type 0
DrillWrites status.Done before after = ⊤
DrillWrites status.Usage before after = after ≡ before
DrillWrites (status.Line number fault) before after = after ≡ before
DrillWrites status.TooLong before after = after ≡ before
DrillWrites status.ReadFault before after = after ≡ before
DrillWrites status.WriteFault before after = ⊤
DrillWrites status.LinkFault before after = after ≡ before
DrillWrites (status.FrontRefused place fault) before after = after ≡ before
DrillWrites status.NoRoom before after = after ≡ before
DrillWrites status.Memory before after = ⊤

-- an answer that a drill gives: it reads nothing, and none of its lines is refused
abbrev pub IsDrillStatus : Status → Type 0
IsDrillStatus status.Done = ⊤
IsDrillStatus status.Usage = ⊥
IsDrillStatus (status.Line number fault) = ⊥
IsDrillStatus status.TooLong = ⊥
IsDrillStatus status.ReadFault = ⊥
IsDrillStatus status.WriteFault = ⊤
IsDrillStatus status.LinkFault = ⊤
IsDrillStatus (status.FrontRefused place fault) = ⊤
IsDrillStatus status.NoRoom = ⊤
IsDrillStatus status.Memory = ⊤
