-- What the parts of a run with two front ends take it to over an honest link, and print; and how each call goes.
use Rattle.std.specs.Prelude.{ℕ, ◌+◌, Bool, List, [], Option, Some, None, Result, OnOk, ⊤}
use Rattle.front_mirror.specs.declared.panels.Panel.{Ghosts}
use Rattle.pipe_frames.specs.Pipe.{Pipe}
use Rattle.back_end.specs.Steps.{Turn}
use Rattle.replay_script.specs.Script.{numbered_or}
use Rattle.replay_script.specs.declared.faults.LineFault.{LineFault}
use Rattle.replay_script.specs.PairScript.{pair_first_bad, pair_good_lines}
use Rattle.inspect_world.specs.Costs.{least_line, line_bytes}
use Rattle.pair_world.specs.PairRuns.{PairRun}
use Rattle.pair_world.specs.PairScripts.{after_pair_line, after_pair_lines, pair_line_text, pair_lines_text, pair_closing, pair_lacking}
use Rattle.pair_world.specs.PairScripts.{pair_shown_lines, pair_rest_refused}
use Rattle.pair_world.specs.PairFresh.{fresh_pair_line, fresh_pair_lines, line_or, LinesHaveRoom, RefreshHasRoom}
use Rattle.replay_parts.specs.declared.stop.Stop.{Stop}
use Rattle.replay_parts.specs.Answers.{RunTells}
use Rattle.replay_parts.specs.Stops.{RunRose}
use Rattle.replay_parts.specs.Moments.{Scene}
pub use Rattle.replay_parts.specs.Manners.{Manner, Goes, PrintManner, Plays}
use Rattle.pair_replay.specs.declared.two_fronts.TwoFronts.{TwoFronts}
use Rattle.pair_replay.specs.PairAnswers.{PairRunTook, RoomTold}
use Rattle.pair_replay.specs.Running.{InPairPlay, Aim, PairSteps, PairGoes, PairAnswersAll, PairAnswersOne, PairFetches}
use Rattle.pair_replay.specs.Running.{turns_page}
use Rattle.pair_replay.specs.Following.{KeepsPair, KeepsPairAnswers, KeepsPairAnswer, PairLineFollows, PairLinePasses}
use Rattle.pair_replay.specs.Following.{PairLinesFollow}
pub use Rattle.pair_replay.specs.Following.{NumberedPair, numbered_pair}

-- ---- calls that print nothing

-- the run goes where this aims, while lines of so many bytes more may come
abbrev pub aims : {P : Type 0} {g : Ghosts P} {T : Type 0} → ℕ → Aim → Manner (TwoFronts P g) T
aims bytes aim = record {
  follows = λ old new result. KeepsPair old new result;
  steps = λ old new result. PairSteps bytes old new result aim;
}

-- the run goes where this aims, whatever was spent
abbrev pub goes_to : {P : Type 0} {g : Ghosts P} {T : Type 0} → Aim → Manner (TwoFronts P g) T
goes_to aim = record {
  follows = λ old new result. KeepsPair old new result;
  steps = λ old new result. PairGoes old new result aim;
}

-- the script makes a step
abbrev pub pair_turning : {P : Type 0} {g : Ghosts P} {T : Type 0} → Turn → Manner (TwoFronts P g) T
pair_turning x = record {
  follows = λ old new result. PairLineFollows old new result;
  steps = λ old new result. PairSteps 0 old new result (turns_page x);
}

-- the frames that are whole are answered
abbrev pub pair_answering_all : {P : Type 0} {g : Ghosts P} {T : Type 0} → Manner (TwoFronts P g) T
pair_answering_all = record {
  follows = λ old new result. KeepsPairAnswers old new result;
  steps = λ old new result. PairAnswersAll old new result;
}

-- this frame is answered
abbrev pub pair_answering : {P : Type 0} {g : Ghosts P} {T : Type 0} → List ℕ → Manner (TwoFronts P g) T
pair_answering frame = record {
  follows = λ old new result. KeepsPairAnswer frame old new result;
  steps = λ old new result. PairAnswersOne frame old new result;
}

-- sheets are fetched for the front end that is meant: so many at most
abbrev pub pair_fetching : {P : Type 0} {g : Ghosts P} {T : Type 0} → Bool → ℕ → Aim → Manner (TwoFronts P g) T
pair_fetching second count aim = record {
  follows = λ old new result. KeepsPair old new result;
  steps = λ old new result. PairFetches second count old new result aim;
}

-- ---- calls that print

-- a line that is refused prints nothing
abbrev pub text_unless : Option LineFault → List ℕ → List ℕ
text_unless None text = text
text_unless (Some fault) text = []

-- Any line is carried out, and prints what it prints. One that names a front end that does not stand or attaches one where one stands,
-- drops a panel where none stands open, or shows what did not come, is refused, and nothing is printed of it.
abbrev pub PairCarries : {P : Type 0} {g : Ghosts P} {T : Type 0} → NumberedPair → Scene (TwoFronts P g) → Scene (TwoFronts P g)
    → Result T Stop → Type 0
PairCarries line old new result =
    (up0 down0 : Pipe) (more : ℕ) (w v : PairRun)
    → InPairPlay old.now.honest up0 down0 old.now.up old.now.down (more + least_line) w v old.now.ends
    → OnOk result (InPairPlay new.now.honest up0 down0 new.now.up new.now.down more (after_pair_line line.form w)
    (fresh_pair_line line.form v) new.now.ends)
    × PairRunTook result old.taken new.taken (text_unless (pair_lacking line.form w) (pair_line_text line.number line.form w))
    × RunTells result (numbered_or line.number (pair_lacking line.form w) None)
    × RoomTold result (line_or (pair_lacking line.form w) line.form v ⊤)

-- the lines after the load are carried out, up to the first that is refused
abbrev pub PairRunsLines : {P : Type 0} {g : Ghosts P} {T : Type 0} → List (List ℕ) → Scene (TwoFronts P g) → Scene (TwoFronts P g)
    → Result T Stop → Type 0
PairRunsLines lines old new result =
    (up0 down0 : Pipe) (w v : PairRun)
    → InPairPlay old.now.honest up0 down0 old.now.up old.now.down (line_bytes lines) w v old.now.ends
    → let forms = pair_good_lines 2 lines in
    let bad = pair_first_bad 2 lines in
    let shown = pair_shown_lines forms w in
    OnOk result (InPairPlay new.now.honest up0 down0 new.now.up new.now.down 0 (after_pair_lines shown w) (fresh_pair_lines shown v)
    new.now.ends)
    × PairRunTook result old.taken new.taken (pair_lines_text 2 shown w)
    × RunTells result (pair_rest_refused bad forms w)
    × RoomTold result (LinesHaveRoom (λ x. ⊤) forms w v)

-- the closing part is printed
abbrev pub PairCloses : {P : Type 0} {g : Ghosts P} {T : Type 0} → Scene (TwoFronts P g) → Option (List ℕ) → Result T Stop → Type 0
PairCloses old taken result =
    (up0 down0 : Pipe) (w v : PairRun) → InPairPlay old.now.honest up0 down0 old.now.up old.now.down 0 w v old.now.ends
    → PairRunTook result old.taken taken (pair_closing w) × RoomTold result (RefreshHasRoom v)

-- any line
abbrev pub pair_carrying : {P : Type 0} {g : Ghosts P} {T : Type 0} → NumberedPair → PrintManner (TwoFronts P g) T
pair_carrying line = record {
  cause = λ c result. RunRose c result;
  follows = λ old new result. PairLinePasses line.form old new result;
  runs = λ old new result. PairCarries line old new result;
}

-- the lines after the load
abbrev pub pair_running : {P : Type 0} {g : Ghosts P} {T : Type 0} → List (List ℕ) → PrintManner (TwoFronts P g) T
pair_running lines = record {
  cause = λ c result. RunRose c result;
  follows = λ old new result. PairLinesFollow lines old new result;
  runs = λ old new result. PairRunsLines lines old new result;
}
