-- Causes of stops: of calls on a link alone, and on a sink alone, as those of both.
use Rattle.std.proofs.Common.{◌≡◌, ℕ, Option, Some, None, refl, subst, sym, arith, Result, Ok, Err}
use Rattle.pipe_frames.specs.Fault.{Rose}
use Rattle.replay_script.specs.declared.faults.LineFault.{LineFault}
use Rattle.replay_parts.specs.declared.stop.Stop.{Stop}
use Rattle.replay_parts.specs.declared.stop.Stop.TheVariants.{Line, TooLong, ReadFault, WriteFault, LinkFault, FrontRefused, NoRoom}
use Rattle.replay_parts.specs.declared.stop.Stop.TheVariants.{Memory}
use Rattle.replay_parts.specs.Says.{Phase, untouched, reading, underway, ended, anywhen, Part, source, sink, link, PartRose, Says, says}
use Rattle.replay_parts.specs.Says.{OthersStill, says_of, status_of}
use Rattle.replay_parts.specs.Reads.{IsRead}
use Rattle.replay_parts.specs.Stops.{AmidRun, two_counts, HasStopCause, HasRunCause}
use Rattle.replay_parts.specs.Answers.{InRunOnly}

-- no count rises from nothing to nothing
zero-rose : Rose 0 0 → ⊥
zero-rose rose = omega arith

-- a part over a link alone
link-alone : (sink0 link0 link1 : ℕ) (failed : Option Part) → PartRose (two_counts 0 0 link0 link1) failed
    → PartRose (two_counts sink0 sink0 link0 link1) failed
link-alone sink0 link0 link1 None rose = tt
link-alone sink0 link0 link1 (Some source) rose = rose
link-alone sink0 link0 link1 (Some sink) rose = absurd (zero-rose rose)
link-alone sink0 link0 link1 (Some link) rose = rose

-- and a sink alone
sink-alone : (sink0 sink1 link0 link1 : ℕ) (failed : Option Part) → PartRose (two_counts sink0 sink1 0 0) failed
    → PartRose (two_counts sink0 sink1 link0 link1) failed
sink-alone sink0 sink1 link0 link1 None rose = tt
sink-alone sink0 sink1 link0 link1 (Some source) rose = rose
sink-alone sink0 sink1 link0 link1 (Some sink) rose = rose
sink-alone sink0 sink1 link0 link1 (Some link) rose = absurd (zero-rose rose)

run-at : (phase : Phase) (P Q : Type 0) → InRunOnly phase P → (P → Q) → InRunOnly phase Q
run-at untouched P Q in_run f = absurd in_run
run-at reading P Q in_run f = absurd in_run
run-at underway P Q in_run f = f in_run
run-at ended P Q in_run f = f in_run
run-at anywhen P Q in_run f = f in_run

-- the others over a link alone
others-of-link : (sink0 link0 link1 : ℕ) (failed : Option Part) → OthersStill (two_counts 0 0 link0 link1) failed
    → OthersStill (two_counts sink0 sink0 link0 link1) failed
others-of-link sink0 link0 link1 None others = (refl, refl, others.2)
others-of-link sink0 link0 link1 (Some source) others = (refl, others.1)
others-of-link sink0 link0 link1 (Some sink) others = others
others-of-link sink0 link0 link1 (Some link) others = (refl, refl)

-- and over a sink alone, where the link did not fail before
others-of-sink : (sink0 sink1 link0 link1 : ℕ) (failed : Option Part) → link1 ≡ link0 → OthersStill (two_counts sink0 sink1 0 0) failed
    → OthersStill (two_counts sink0 sink1 link0 link1) failed
others-of-sink sink0 sink1 link0 link1 None same others = (refl, others.1, same)
others-of-sink sink0 sink1 link0 link1 (Some source) same others = (others.0, same)
others-of-sink sink0 sink1 link0 link1 (Some sink) same others = (refl, same)
others-of-sink sink0 sink1 link0 link1 (Some link) same others = others

amid-at : (phase : Phase) (P Q : Type 0) → AmidRun phase P → (P → Q) → AmidRun phase Q
amid-at untouched P Q amid f = absurd amid
amid-at reading P Q amid f = absurd amid
amid-at underway P Q amid f = f amid
amid-at ended P Q amid f = absurd amid
amid-at anywhen P Q amid f = f amid

-- a call over a link alone, beside a sink that was not used
pub link-cause : (result : Result (Unit {0}) Stop) (sink0 link0 link1 : ℕ) → HasStopCause 0 0 link0 link1 result
    → HasStopCause sink0 sink0 link0 link1 result
link-cause (Ok value) sink0 link0 link1 cause = record {
  sink_later = omega arith;
  link_later = cause.link_later;
  rose = tt;
  others = (refl, refl, cause.others.2);
}
link-cause (Err stop) sink0 link0 link1 cause =
    let s : Says = says (status_of stop) in
    record {
      sink_later = omega arith;
      link_later = cause.link_later;
      rose = amid-at s.phase (PartRose (two_counts 0 0 link0 link1) s.failed)
          (PartRose (two_counts sink0 sink0 link0 link1) s.failed) cause.rose (link-alone sink0 link0 link1 s.failed);
      others = others-of-link sink0 link0 link1 s.failed cause.others;
    }

-- a call over a sink alone, beside a link that was not used
pub sink-cause : (result : Result (Unit {0}) Stop) (sink0 sink1 link0 : ℕ) → HasStopCause sink0 sink1 0 0 result
    → HasStopCause sink0 sink1 link0 link0 result
sink-cause (Ok value) sink0 sink1 link0 cause = record {
  sink_later = cause.sink_later;
  link_later = omega arith;
  rose = tt;
  others = (refl, cause.others.1, refl);
}
sink-cause (Err stop) sink0 sink1 link0 cause =
    let s : Says = says (status_of stop) in
    record {
      sink_later = cause.sink_later;
      link_later = omega arith;
      rose = amid-at s.phase (PartRose (two_counts sink0 sink1 0 0) s.failed)
          (PartRose (two_counts sink0 sink1 link0 link0) s.failed) cause.rose (sink-alone sink0 sink1 link0 link0 s.failed);
      others = others-of-sink sink0 sink1 link0 link0 s.failed refl cause.others;
    }

-- a settle, and then what a call over the sink alone does
pub settled-cause : (result : Result (Unit {0}) Stop) (sink0 sink1 link0 link1 : ℕ) → HasStopCause {T = Unit {0}} 0 0 link0 link1 (Ok tt)
    → HasStopCause sink0 sink1 0 0 result → HasStopCause sink0 sink1 link0 link1 result
settled-cause result sink0 sink1 link0 link1 settles cause =
    subst (λ n. HasStopCause sink0 sink1 link0 n result) (sym settles.others.2) (sink-cause result sink0 sink1 link0 cause)

-- a settle, and then what was printed, where a line may be refused
pub settled-run : (result : Result (Unit {0}) Stop) (sink0 sink1 link0 link1 : ℕ) → HasStopCause {T = Unit {0}} 0 0 link0 link1 (Ok tt)
    → HasRunCause sink0 sink1 0 0 result
    → HasRunCause sink0 sink1 link0 link1 result
settled-run (Ok value) sink0 sink1 link0 link1 settles cause = record {
  sink_later = cause.sink_later;
  link_later = settles.link_later;
  rose = tt;
  others = (refl, cause.others.1, settles.others.2);
}
settled-run (Err stop) sink0 sink1 link0 link1 settles cause =
    let s : Says = says (status_of stop) in
    record {
      sink_later = cause.sink_later;
      link_later = settles.link_later;
      rose = run-at s.phase (PartRose (two_counts sink0 sink1 0 0) s.failed)
          (PartRose (two_counts sink0 sink1 link0 link1) s.failed) cause.rose (sink-alone sink0 sink1 link0 link1 s.failed);
      others = others-of-sink sink0 sink1 link0 link1 s.failed settles.others.2 cause.others;
    }

-- a line over the link alone, beside a sink that was not used
pub link-run : {T : Type 0} (result : Result T Stop) (sink0 link0 link1 : ℕ) → HasRunCause 0 0 link0 link1 result
    → HasRunCause sink0 sink0 link0 link1 result
link-run result sink0 link0 link1 cause =
    let s : Says = says_of result in
    record {
      sink_later = omega arith;
      link_later = cause.link_later;
      rose = run-at s.phase (PartRose (two_counts 0 0 link0 link1) s.failed) (PartRose (two_counts sink0 sink0 link0 link1) s.failed)
          cause.rose (link-alone sink0 link0 link1 s.failed);
      others = others-of-link sink0 link0 link1 s.failed cause.others;
    }

-- ---- the causes of a run

rose-at : (phase : Phase) (P : Type 0) → AmidRun phase P → InRunOnly phase P
rose-at untouched P amid = absurd amid
rose-at reading P amid = absurd amid
rose-at underway P amid = amid
rose-at ended P amid = absurd amid
rose-at anywhen P amid = amid

-- a stop amid a run is one of a run
pub stop-run : (result : Result (Unit {0}) Stop) (sink0 sink1 link0 link1 : ℕ) → HasStopCause sink0 sink1 link0 link1 result
    → HasRunCause sink0 sink1 link0 link1 result
stop-run (Ok value) sink0 sink1 link0 link1 cause =
    record { sink_later = cause.sink_later; link_later = cause.link_later; rose = tt; others = cause.others }
stop-run (Err stop) sink0 sink1 link0 link1 cause =
    let s : Says = says (status_of stop) in
    record {
      sink_later = cause.sink_later;
      link_later = cause.link_later;
      rose = rose-at s.phase (PartRose (two_counts sink0 sink1 link0 link1) s.failed) cause.rose;
      others = cause.others;
    }

-- a settle that did not come through
pub settled-stop : (stop : Stop) (sink0 link0 link1 : ℕ) → HasStopCause {T = Unit {0}} 0 0 link0 link1 (Err stop)
    → HasRunCause {T = Unit {0}} sink0 sink0 link0 link1 (Err stop)
settled-stop stop sink0 link0 link1 cause =
    stop-run (Err stop) sink0 sink0 link0 link1 (link-cause (Err stop) sink0 link0 link1 cause)

-- a part of a run stops by a fault of what failed in the whole run, where nothing failed before
pub later-cause : (result : Result (Unit {0}) Stop) (sink0 sink1 sink2 link0 link1 link2 : ℕ) → sink1 ≡ sink0 → link1 ≡ link0
    → HasRunCause sink1 sink2 link1 link2 result → HasRunCause sink0 sink2 link0 link2 result
later-cause result sink0 sink1 sink2 link0 link1 link2 same_sink same_link cause =
    subst (λ n. HasRunCause n sink2 link0 link2 result) same_sink
    (subst (λ n. HasRunCause sink1 sink2 n link2 result) same_link cause)

-- so does the part after the lines
pub closed-cause : (result : Result (Unit {0}) Stop) (sink0 sink1 sink2 link0 link1 link2 : ℕ) → sink1 ≡ sink0 → link1 ≡ link0
    → HasStopCause sink1 sink2 link1 link2 result → HasRunCause sink0 sink2 link0 link2 result
closed-cause result sink0 sink1 sink2 link0 link1 link2 same_sink same_link cause =
    later-cause result sink0 sink1 sink2 link0 link1 link2 same_sink same_link (stop-run result sink1 sink2 link1 link2 cause)

-- a line that is not read, where nothing failed before
pub unread-cause : (stop : Stop) (number : ℕ) (bad : Option LineFault) (sink0 sink1 link0 link1 : ℕ) → sink1 ≡ sink0 → link1 ≡ link0
    → IsRead {T = Unit {0}} (Err stop) number bad → HasRunCause {T = Unit {0}} sink0 sink1 link0 link1 (Err stop)
unread-cause (Line n fault) number bad sink0 sink1 link0 link1 same_sink same_link read = record {
  sink_later = omega (arith, same_sink);
  link_later = omega (arith, same_link);
  rose = tt;
  others = (refl, same_sink, same_link);
}
unread-cause TooLong number bad sink0 sink1 link0 link1 same_sink same_link read = absurd read
unread-cause ReadFault number bad sink0 sink1 link0 link1 same_sink same_link read = absurd read
unread-cause WriteFault number bad sink0 sink1 link0 link1 same_sink same_link read = absurd read
unread-cause LinkFault number bad sink0 sink1 link0 link1 same_sink same_link read = absurd read
unread-cause (FrontRefused place kind) number bad sink0 sink1 link0 link1 same_sink same_link read = absurd read
unread-cause NoRoom number bad sink0 sink1 link0 link1 same_sink same_link read = absurd read
unread-cause Memory number bad sink0 sink1 link0 link1 same_sink same_link read = record {
  sink_later = omega (arith, same_sink);
  link_later = omega (arith, same_link);
  rose = tt;
  others = (refl, same_sink, same_link);
}
