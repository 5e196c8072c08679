-- What a call that stops says of lines and of the end, and what a call printed that goes well.
use Rattle.std.proofs.Common.{◌≡◌, ◌∙◌, ℕ, List, [], ◌++◌, Option, None, Result, Ok, Err, refl, ap}
use Rattle.std.specs.Result.{OnOk, OnErr, IsErrAnd}
use Rattle.std.specs.Io.KnownBytes.{Appends}
use Rattle.std.proofs.lemmas.Result.{err_from_is_err_and}
use Rattle.pipe_frames.specs.Whole.{WrotePart}
use Rattle.pipe_frames.proofs.WholeLemmas.{Appends-nil, Appends-append}
use Rattle.replay_script.specs.declared.faults.LineFault.{LineFault}
use Rattle.replay_parts.specs.declared.stop.Stop.{Stop}
use Rattle.replay_parts.specs.declared.stop.Stop.TheVariants.{Memory}
use Rattle.replay_parts.specs.Says.{Phase, untouched, reading, underway, ended, anywhen, PartRose, Says, says, says_of, status_of}
use Rattle.replay_parts.specs.Stops.{AmidRun, two_counts, HasStopCause}
use Rattle.replay_parts.specs.Answers.{AtEnd, InRunOnly, RunTells}
use Rattle.replay_parts.specs.Printed.{PrintedSome}

-- ---- what was written

-- a sink that took nothing took a front part of any text
pub wrote-none : (taken : Option (List ℕ)) (text : List ℕ) → WrotePart taken taken text
wrote-none taken text = record { part = []; rest = text; whole = refl; wrote = Appends-nil taken }

-- so does a call that stops before it writes
pub wrote-nothing : (result : Result (Unit {0}) Stop) (taken : Option (List ℕ)) (text : List ℕ) → OnErr result (WrotePart taken taken text)
wrote-nothing (Ok value) taken text = tt
wrote-nothing (Err stop) taken text = wrote-none taken text

-- something was printed, or nothing
pub some-printed : {T : Type 0} (result : Result T Stop) (before after : Option (List ℕ)) (text : List ℕ)
    → OnOk result (Appends before after text) → OnOk result (PrintedSome before after)
some-printed (Ok value) before after text printed = record { written = text; printed = printed }
some-printed (Err stop) before after text printed = tt

pub none-printed : {T : Type 0} (result : Result T Stop) (taken : Option (List ℕ)) → OnOk result (PrintedSome taken taken)
none-printed (Ok value) taken = record { written = []; printed = Appends-nil taken }
none-printed (Err stop) taken = tt

-- and more
pub more-printed : (before middle after : Option (List ℕ)) → PrintedSome before middle → PrintedSome middle after → PrintedSome before after
more-printed before middle after a b = record {
  written = a.written ++ b.written;
  printed = Appends-append before middle after a.written b.written a.printed b.printed;
}

-- ---- which line is refused

tells-at : (phase : Phase) (P Q : Type 0) → AmidRun phase P → InRunOnly phase (AtEnd phase Q)
tells-at untouched P Q amid = absurd amid
tells-at reading P Q amid = absurd amid
tells-at underway P Q amid = tt
tells-at ended P Q amid = absurd amid
tells-at anywhen P Q amid = tt

-- a stop amid a run tells of no line
pub part-tells : (stop : Stop) (sink0 sink1 link0 link1 : ℕ) (bad : Option (ℕ × LineFault))
    → HasStopCause {T = Unit {0}} sink0 sink1 link0 link1 (Err stop) → RunTells {T = Unit {0}} (Err stop) bad
part-tells stop sink0 sink1 link0 link1 bad cause =
    let s : Says = says (status_of stop) in
    tells-at s.phase (PartRose (two_counts sink0 sink1 link0 link1) s.failed) (bad ≡ s.line) cause.rose

-- nor does a part of a run that comes through
pub closed-tells : (result : Result (Unit {0}) Stop) (sink0 sink1 link0 link1 : ℕ) (bad : Option (ℕ × LineFault)) → bad ≡ None
    → HasStopCause sink0 sink1 link0 link1 result → RunTells result bad
closed-tells (Ok value) sink0 sink1 link0 link1 bad none cause = none
closed-tells (Err stop) sink0 sink1 link0 link1 bad none cause = part-tells stop sink0 sink1 link0 link1 bad cause

-- ---- the end

pub at-end : (phase : Phase) (P : Type 0) → P → AtEnd phase P
at-end untouched P p = tt
at-end reading P p = tt
at-end underway P p = tt
at-end ended P p = p
at-end anywhen P p = tt

not-ended : (phase : Phase) (P Q : Type 0) → AmidRun phase P → AtEnd phase Q
not-ended untouched P Q amid = tt
not-ended reading P Q amid = tt
not-ended underway P Q amid = tt
not-ended ended P Q amid = absurd amid
not-ended anywhen P Q amid = tt

-- a stop amid a run is at no end
pub part-not-ended : (stop : Stop) (sink0 sink1 link0 link1 : ℕ) (Q : Type 0)
    → HasStopCause {T = Unit {0}} sink0 sink1 link0 link1 (Err stop) → AtEnd (says_of {T = Unit {0}} (Err stop)).phase Q
part-not-ended stop sink0 sink1 link0 link1 Q cause =
    let s : Says = says (status_of stop) in
    not-ended s.phase (PartRose (two_counts sink0 sink1 link0 link1) s.failed) Q cause.rose

-- what holds at each end holds of a part that came through
pub came-through : (result : Result (Unit {0}) Stop) (sink0 sink1 link0 link1 : ℕ) (P : Type 0)
    → HasStopCause sink0 sink1 link0 link1 result → OnOk result P → AtEnd (says_of result).phase P
came-through (Ok value) sink0 sink1 link0 link1 P cause p = p
came-through (Err stop) sink0 sink1 link0 link1 P cause p = part-not-ended stop sink0 sink1 link0 link1 P cause

-- ---- results

pub after-ok : {T P : Type 0} (result : Result T Stop) → P → OnOk result P
after-ok (Ok value) p = p
after-ok (Err stop) p = tt

-- where memory is all that a call stops by, that is why it stopped
pub memory-is : (result : Result (Unit {0}) Stop) → IsErrAnd result (λ stop. stop ≡ Memory) → result ≡ Err Memory
memory-is result lost = let p = err_from_is_err_and result lost in p.1 ∙ ap (λ (stop : Stop). Err stop) p.2
