-- What the answers of the whole call follow from.
use Rattle.std.proofs.Common.{◌≡◌, ◌∙◌, ℕ, List, [], Option, Some, None, Result, Err, Bool, true, ap, refl, sym, subst}
use Rattle.std.specs.Result.{IsErrAnd}
use Rattle.std.proofs.lemmas.Result.{err_from_is_err_and}
use Rattle.pipe_frames.specs.Whole.{IsAllOf}
use Rattle.replay_parts.specs.declared.status.Status.{Status}
use Rattle.replay_parts.specs.declared.status.Status.TheVariants as status
use Rattle.replay_parts.specs.declared.stop.Stop.{Stop}
use Rattle.replay_parts.specs.declared.stop.Stop.TheVariants.{Line, TooLong, ReadFault, WriteFault, LinkFault, FrontRefused, NoRoom}
use Rattle.replay_parts.specs.declared.stop.Stop.TheVariants.{Memory}
use Rattle.inspect_replay.specs.Serving.{IsServeStatus}
use Rattle.pipe_frames.proofs.WholeLemmas.{Appends-nil}
use Rattle.replay_parts.specs.Says.{Phase, untouched, reading, underway, ended, anywhen, Lie, Says, says, status_of}
use Rattle.replay_parts.specs.Answers.{OnTrue, is_too_long, LimitsAt, InReadOnly, FitsLimits, InputTells, IsInputStop, TookAt, RunTook}
use Rattle.replay_parts.specs.Answers.{Took, IsHonest}

-- an input that is not read is refused by its limits
pub stop-limits : (stop : Stop) (input : List ℕ) → InputTells (Err stop) input → FitsLimits (status_of stop) input
stop-limits stop input tells = let s : Says = says (status_of stop) in at-limits s.phase s.over tells
  where
    at-limits : (phase : Phase) (over : Bool) → InReadOnly phase (OnTrue over (is_too_long input ≡ true)) → LimitsAt phase over input
    at-limits untouched over tells = tt
    at-limits reading over tells = tells
    at-limits underway over tells = absurd tells
    at-limits ended over tells = absurd tells
    at-limits anywhen over tells = tt

-- an input that is not read leaves the sink alone
pub stop-took : (stop : Stop) (input : List ℕ) (taken : Option (List ℕ)) (report : List ℕ) → InputTells (Err stop) input
    → Took (status_of stop) taken taken report
stop-took stop input taken report tells = let s : Says = says (status_of stop) in at-input s.phase s.lie s.over tells
  where
    at-input : (phase : Phase) (lie : Option Lie) (over : Bool) → InReadOnly phase (OnTrue over (is_too_long input ≡ true))
        → TookAt phase lie taken taken report
    at-input untouched lie over tells = refl
    at-input reading lie over tells = refl
    at-input underway lie over tells = absurd tells
    at-input ended lie over tells = absurd tells
    at-input anywhen lie over tells = record { part = []; rest = report; whole = refl; wrote = Appends-nil taken }

-- nor does it come of a link that is not honest
pub stop-honest : (stop : Stop) (before after : ℕ) → IsInputStop before after (Err stop) → IsHonest (status_of stop)
stop-honest (Line number fault) before after is = tt
stop-honest TooLong before after is = tt
stop-honest ReadFault before after is = tt
stop-honest WriteFault before after is = tt
stop-honest LinkFault before after is = tt
stop-honest (FrontRefused place kind) before after is = absurd is
stop-honest NoRoom before after is = absurd is
stop-honest Memory before after is = tt

-- an answer of a run that takes the sink to a text is none of those that come over no honest link
pub run-honest : (stop : Stop) (before after : Option (List ℕ)) (text : List ℕ) → RunTook {T = Unit {0}} (Err stop) before after text
    → IsHonest (status_of stop)
run-honest (Line number fault) before after text took = tt
run-honest TooLong before after text took = tt
run-honest ReadFault before after text took = tt
run-honest WriteFault before after text took = tt
run-honest LinkFault before after text took = tt
run-honest (FrontRefused place kind) before after text took = absurd took
run-honest NoRoom before after text took = absurd took
run-honest Memory before after text took = tt

-- and so is an answer of `serve`
pub serve-honest : (s : Status) → IsServeStatus s → IsHonest s
serve-honest status.Done is = tt
serve-honest status.Usage is = tt
serve-honest (status.Line number fault) is = tt
serve-honest status.TooLong is = tt
serve-honest status.ReadFault is = tt
serve-honest status.WriteFault is = tt
serve-honest status.LinkFault is = tt
serve-honest (status.FrontRefused place kind) is = absurd is
serve-honest status.NoRoom is = absurd is
serve-honest status.Memory is = tt

-- where a source tells its bytes, a whole input is all of them, and none is left
pub none-left : (before after : Option (List ℕ)) (input bytes : List ℕ) → IsAllOf before after bytes → before ≡ Some input → after ≡ Some []
none-left None after input bytes all is = let no : ◌≡◌ {A = Option (List ℕ)} None (Some input) = is in absurd cc
none-left (Some left) None input bytes all is = absurd all
none-left (Some left) (Some rest) input bytes all is = ap (λ r. Some r) all.1

-- a run for whose ends no memory was left prints nothing
pub nothing-ran : (result : Result (Unit {0}) Stop) (taken : Option (List ℕ)) (text : List ℕ) → IsErrAnd result (λ stop. stop ≡ Memory)
    → RunTook result taken taken text
nothing-ran result taken text lost =
    let p = err_from_is_err_and result lost in
    let is : result ≡ Err Memory = p.1 ∙ ap (λ (stop : Stop). Err stop) p.2 in
    subst (λ (r : Result (Unit {0}) Stop). RunTook r taken taken text) (sym is)
    (record { part = []; rest = text; whole = refl; wrote = Appends-nil taken })
