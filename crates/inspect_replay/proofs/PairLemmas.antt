-- What the answers of a script with two front ends follow from.
use Rattle.std.proofs.Common.{◌≡◌, ℕ, List, [], Option, Err, refl}
use Rattle.std.proofs.Common.{Bool, true}
use Rattle.pipe_frames.specs.Pipe.{Pipe}
use Rattle.replay_parts.specs.declared.status.Status.{Status}
use Rattle.replay_parts.specs.declared.stop.Stop.{Stop}
use Rattle.replay_parts.specs.declared.stop.Stop.TheVariants.{Line, TooLong, ReadFault, WriteFault, LinkFault, FrontRefused, NoRoom}
use Rattle.replay_parts.specs.declared.stop.Stop.TheVariants.{Memory}
use Rattle.replay_parts.specs.Says.{Phase, untouched, reading, underway, ended, anywhen, Lie, Says, says, status_of}
use Rattle.replay_parts.specs.Answers.{OnTrue, is_too_long, AtEnd, InReadOnly, InputTells, IsInputStop}
use Rattle.pair_replay.specs.PairAnswers.{PairTook, PairTookAt, PairRunTook, TellsRoom, IsPairHonest, PairPassed, pair_since}
use Rattle.pair_replay.specs.PairAnswers.{PairFolds, PairLess, PairStopFolds}
use Rattle.pair_world.specs.PairLinks.{sent_when_pair_is_full}
use Rattle.replay_parts.specs.LinkFolds.{LessAt, IsWell}
use Rattle.replay_parts.proofs.FoldLemmas as parts
use Rattle.inspect_replay.specs.Followed.{StatusLess, fold_since}
use Rattle.pipe_frames.proofs.WholeLemmas.{Appends-nil}

-- the status that a stop is says of the fold what the stop says
pub pair-status-folds : (stop : Stop) (status : Status) (passed : PairPassed) → status ≡ status_of stop
    → PairStopFolds {T = Unit {0}} (Err stop) passed → PairFolds status passed
pair-status-folds stop status passed is folds = parts.status-folds sent_when_pair_is_full stop status passed is folds

pub pair-status-less : (stop : Stop) (status : Status) (passed : PairPassed) → status ≡ status_of stop
    → PairStopFolds {T = Unit {0}} (Err stop) passed → PairLess status passed
pair-status-less stop status passed is folds = parts.status-less sent_when_pair_is_full stop status passed is folds

-- ---- an input that is not read

pub pair-input-folds : (stop : Stop) (before after : ℕ) (passed : PairPassed) → IsInputStop before after (Err stop)
    → IsWell passed → PairStopFolds {T = Unit {0}} (Err stop) passed
pair-input-folds stop before after passed is good = parts.input-folds sent_when_pair_is_full stop before after passed is good

-- it leaves the sink alone
pub pair-stop-took : (stop : Stop) (input : List ℕ) (taken : Option (List ℕ)) (report : List ℕ) → InputTells (Err stop) input
    → PairTook (status_of stop) taken taken report
pair-stop-took stop input taken report tells = let s : Says = says (status_of stop) in at-input s.phase s.lie s.over tells
  where
    at-input : (phase : Phase) (lie : Option Lie) (over : Bool) → InReadOnly phase (OnTrue over (is_too_long input ≡ true))
        → PairTookAt phase lie taken taken report
    at-input untouched lie over tells = refl
    at-input reading lie over tells = refl
    at-input underway lie over tells = absurd tells
    at-input ended lie over tells = absurd tells
    at-input anywhen lie over tells = record { part = []; rest = report; whole = refl; wrote = Appends-nil taken }

-- and says nothing of room, of messages and of lines
pub pair-stop-honest : (stop : Stop) (before after : ℕ) → IsInputStop before after (Err stop) → IsPairHonest (status_of stop)
pair-stop-honest (Line number fault) before after is = tt
pair-stop-honest TooLong before after is = tt
pair-stop-honest ReadFault before after is = tt
pair-stop-honest WriteFault before after is = tt
pair-stop-honest LinkFault before after is = tt
pair-stop-honest (FrontRefused place kind) before after is = absurd is
pair-stop-honest NoRoom before after is = tt
pair-stop-honest Memory before after is = tt

pub pair-stop-room : (stop : Stop) (before after : ℕ) (Room : Type 0) → IsInputStop before after (Err stop)
    → TellsRoom (status_of stop) Room
pair-stop-room (Line number fault) before after Room is = absurd is
pair-stop-room TooLong before after Room is = tt
pair-stop-room ReadFault before after Room is = tt
pair-stop-room WriteFault before after Room is = tt
pair-stop-room LinkFault before after Room is = tt
pair-stop-room (FrontRefused place kind) before after Room is = absurd is
pair-stop-room NoRoom before after Room is = absurd is
pair-stop-room Memory before after Room is = tt

pub pair-stop-line : (stop : Stop) (before after : ℕ) (P : Type 0) → IsInputStop before after (Err stop)
    → AtEnd (says (status_of stop)).phase P
pair-stop-line (Line number fault) before after P is = absurd is
pair-stop-line TooLong before after P is = tt
pair-stop-line ReadFault before after P is = tt
pair-stop-line WriteFault before after P is = tt
pair-stop-line LinkFault before after P is = tt
pair-stop-line (FrontRefused place kind) before after P is = tt
pair-stop-line NoRoom before after P is = tt
pair-stop-line Memory before after P is = tt

-- ---- a run

-- an answer of a run that takes the sink to a text is none by which a front end refuses a message
pub pair-run-honest : (stop : Stop) (before after : Option (List ℕ)) (text : List ℕ)
    → PairRunTook {T = Unit {0}} (Err stop) before after text → IsPairHonest (status_of stop)
pair-run-honest (Line number fault) before after text took = tt
pair-run-honest TooLong before after text took = tt
pair-run-honest ReadFault before after text took = tt
pair-run-honest WriteFault before after text took = tt
pair-run-honest LinkFault before after text took = tt
pair-run-honest (FrontRefused place kind) before after text took = absurd took
pair-run-honest NoRoom before after text took = tt
pair-run-honest Memory before after text took = tt

-- ---- the whole call

-- of each pipe no more was given than sent, as the clause of every word says it
pub pair-less : (status : Status) (up0 down0 up down : Pipe) → PairLess status (pair_since up0 down0 up down)
    → StatusLess status (fold_since up0 down0 up down)
pair-less status up0 down0 up down less = by (says status).phase less where
  by : (phase : Phase) → LessAt phase (pair_since up0 down0 up down) → LessAt phase (fold_since up0 down0 up down)
  by untouched less = less
  by reading less = less
  by underway less = less
  by ended less = less
  by anywhen less = tt
