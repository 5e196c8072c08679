-- What a call that stops says of a line: what was written, which line is refused, and of room.
use Rattle.std.proofs.Common.{◌≡◌, ℕ, List, [], Option, Some, None, refl, sym, subst, arith, Result, Ok, Err}
use Rattle.std.specs.Result.{OnOk, OnErr}
use Rattle.std.specs.Io.KnownBytes.{Appends}
use Rattle.pipe_frames.specs.Whole.{WrotePart}
use Rattle.pipe_frames.proofs.WholeLemmas.{Appends-nil}
use Rattle.replay_script.specs.declared.faults.LineFault.{LineFault}
use Rattle.replay_parts.specs.declared.stop.Stop.{Stop}
use Rattle.replay_parts.specs.declared.stop.Stop.TheVariants.{Line}
use Rattle.replay_parts.specs.Says.{Phase, untouched, reading, underway, ended, anywhen, Lie, refused, no_room, PartRose, Says, says}
use Rattle.replay_parts.specs.Says.{says_of}
use Rattle.replay_parts.specs.Says.{status_of}
use Rattle.replay_parts.specs.Stops.{AmidRun, two_counts, HasStopCause, HasRunCause, GoesWell}
use Rattle.replay_parts.proofs.CauseLemmas.{settled-cause}
use Rattle.replay_parts.specs.Answers.{Absent, InRunOnly, TookAt, RunTook}
use Rattle.pair_replay.specs.PairAnswers.{PairTookAt, PairRunTook, RoomAt, RoomTold}
use Rattle.replay_parts.proofs.StopLemmas.{wrote-none}
use Rattle.replay_parts.proofs.CauseLemmas.{stop-run}

-- ---- what was written

-- a stop amid a run that refuses no message
took-at : (phase : Phase) (lie : Option Lie) (P R : Type 0) (before after : Option (List ℕ)) (text : List ℕ)
    → AmidRun phase P → RoomAt phase lie R → WrotePart before after text → InRunOnly phase (PairTookAt phase lie before after text)
took-at untouched lie P R before after text amid told wrote = absurd amid
took-at reading lie P R before after text amid told wrote = absurd amid
took-at underway None P R before after text amid told wrote = wrote
took-at underway (Some no_room) P R before after text amid told wrote = wrote
took-at underway (Some (refused fault)) P R before after text amid told wrote = absurd told
took-at ended lie P R before after text amid told wrote = absurd amid
took-at anywhen lie P R before after text amid told wrote = wrote

pub part-took : (stop : Stop) (sink0 sink1 link0 link1 : ℕ) (R : Type 0) (before after : Option (List ℕ)) (text : List ℕ)
    → HasStopCause {T = Unit {0}} sink0 sink1 link0 link1 (Err stop) → RoomTold {T = Unit {0}} (Err stop) R → WrotePart before after text
    → PairRunTook {T = Unit {0}} (Err stop) before after text
part-took stop sink0 sink1 link0 link1 R before after text cause told wrote =
    let s : Says = says (status_of stop) in
    took-at s.phase s.lie (PartRose (two_counts sink0 sink1 link0 link1) s.failed) R before after text cause.rose told wrote

-- what a run of one front end says of what was written, a run of two does
took-too : (phase : Phase) (lie : Option Lie) (before after : Option (List ℕ)) (text : List ℕ)
    → InRunOnly phase (TookAt phase lie before after text) → InRunOnly phase (PairTookAt phase lie before after text)
took-too untouched lie before after text took = absurd took
took-too reading lie before after text took = absurd took
took-too underway None before after text took = took
took-too underway (Some lie) before after text took = absurd took
took-too ended lie before after text took = took
took-too anywhen lie before after text took = took

pub run-took : {T : Type 0} (result : Result T Stop) (before after : Option (List ℕ)) (text : List ℕ)
    → RunTook result before after text → PairRunTook result before after text
run-took result before after text took = took-too (says_of result).phase (says_of result).lie before after text took

-- an answer that goes well says nothing against room that is there
room-at-hand : (phase : Phase) (lie : Option Lie) (R : Type 0) → Absent lie → R → RoomAt phase lie R
room-at-hand untouched lie R well room = tt
room-at-hand reading lie R well room = tt
room-at-hand underway None R well room = tt
room-at-hand underway (Some lie) R well room = absurd well
room-at-hand ended lie R well room = room
room-at-hand anywhen lie R well room = tt

pub room-there : {T : Type 0} (result : Result T Stop) (R : Type 0) → GoesWell result → R → RoomTold result R
room-there result R well room = room-at-hand (says_of result).phase (says_of result).lie R well room

-- a part that prints a text, and is not one that refuses lines
pub prints-took : (result : Result (Unit {0}) Stop) (sink0 sink1 link0 link1 : ℕ) (before after : Option (List ℕ)) (text : List ℕ)
    → HasStopCause sink0 sink1 link0 link1 result → GoesWell result → OnOk result (Appends before after text)
    → OnErr result (WrotePart before after text) → PairRunTook result before after text
prints-took (Ok value) sink0 sink1 link0 link1 before after text cause well ok err = ok
prints-took (Err stop) sink0 sink1 link0 link1 before after text cause well ok err =
    part-took stop sink0 sink1 link0 link1 (Unit {0}) before after text cause (room-there {T = Unit {0}} (Err stop) (Unit {0}) well tt) err

-- ---- room

room-amid : (phase : Phase) (lie : Option Lie) (P R Q : Type 0) → AmidRun phase P → (Q → R) → RoomAt phase lie R → RoomAt phase lie Q
room-amid untouched lie P R Q amid f told = tt
room-amid reading lie P R Q amid f told = tt
room-amid underway None P R Q amid f told = tt
room-amid underway (Some no_room) P R Q amid f told = λ room. told (f room)
room-amid underway (Some (refused fault)) P R Q amid f told = told
room-amid ended lie P R Q amid f told = absurd amid
room-amid anywhen lie P R Q amid f told = tt

-- where a stop says that there was no room, there is none for more
pub room-stops : (stop : Stop) (sink0 sink1 link0 link1 : ℕ) (R Q : Type 0)
    → HasStopCause {T = Unit {0}} sink0 sink1 link0 link1 (Err stop) → (Q → R) → RoomTold {T = Unit {0}} (Err stop) R
    → RoomTold {T = Unit {0}} (Err stop) Q
room-stops stop sink0 sink1 link0 link1 R Q cause f told =
    let s : Says = says (status_of stop) in
    room-amid s.phase s.lie (PartRose (two_counts sink0 sink1 link0 link1) s.failed) R Q cause.rose f told

-- ---- causes

-- a call over the link alone that came through, and then what was printed
pub settled-printed : (result : Result (Unit {0}) Stop) (sink0 sink1 link0 link1 : ℕ)
    → HasStopCause {T = Unit {0}} 0 0 link0 link1 (Ok tt) → HasStopCause sink0 sink1 0 0 result
    → HasRunCause sink0 sink1 link0 link1 result
settled-printed result sink0 sink1 link0 link1 settles cause =
    stop-run result sink0 sink1 link0 link1 (settled-cause result sink0 sink1 link0 link1 settles cause)

-- a line that is refused once all has come fails nothing outside
pub refused-cause : (stop : Stop) (number : ℕ) (fault : LineFault) (sink0 link0 link1 : ℕ) → stop ≡ Line number fault
    → HasStopCause {T = Unit {0}} 0 0 link0 link1 (Ok tt) → HasRunCause {T = Unit {0}} sink0 sink0 link0 link1 (Err stop)
refused-cause stop number fault sink0 link0 link1 is settles =
    subst (λ s. HasRunCause {T = Unit {0}} sink0 sink0 link0 link1 (Err s)) (sym is)
    (record { sink_later = omega arith; link_later = settles.link_later; rose = tt; others = (refl, refl, settles.others.2) })

-- a line that is refused is none that is the front ends' fault
pub bad-session-well : (stop : Stop) (number : ℕ) {fault : LineFault} → stop ≡ Line number fault → GoesWell {T = Unit {0}} (Err stop)
bad-session-well stop number is = subst (λ s. GoesWell {T = Unit {0}} (Err s)) (sym is) tt

-- a cause is the same whatever the value
pub ok-cause : {T : Type 0} (value : T) (sink0 sink1 : ℕ) → HasStopCause {T = T} sink0 sink1 0 0 (Ok value)
    → HasStopCause {T = Unit {0}} sink0 sink1 0 0 (Ok tt)
ok-cause value sink0 sink1 cause =
    record { sink_later = cause.sink_later; link_later = cause.link_later; rose = tt; others = cause.others }

pub stop-cause : {T : Type 0} (stop : Stop) (sink0 sink1 : ℕ) → HasStopCause {T = T} sink0 sink1 0 0 (Err stop)
    → HasStopCause {T = Unit {0}} sink0 sink1 0 0 (Err stop)
stop-cause stop sink0 sink1 cause =
    record { sink_later = cause.sink_later; link_later = cause.link_later; rose = cause.rose; others = cause.others }

pub link-stop-cause : {T : Type 0} (stop : Stop) (link0 link1 : ℕ) → HasStopCause {T = T} 0 0 link0 link1 (Err stop)
    → HasStopCause {T = Unit {0}} 0 0 link0 link1 (Err stop)
link-stop-cause stop link0 link1 cause =
    record { sink_later = cause.sink_later; link_later = cause.link_later; rose = cause.rose; others = cause.others }

pub link-ok-cause : {T : Type 0} (value : T) (link0 link1 : ℕ) → HasStopCause {T = T} 0 0 link0 link1 (Ok value)
    → HasStopCause {T = Unit {0}} 0 0 link0 link1 (Ok tt)
link-ok-cause value link0 link1 cause =
    record { sink_later = cause.sink_later; link_later = cause.link_later; rose = tt; others = cause.others }

-- a line that is refused at once fails nothing outside
pub refused-still : (stop : Stop) (number : ℕ) (fault : LineFault) (sink0 link0 : ℕ) → stop ≡ Line number fault
    → HasRunCause {T = Unit {0}} sink0 sink0 link0 link0 (Err stop)
refused-still stop number fault sink0 link0 is =
    subst (λ s. HasRunCause {T = Unit {0}} sink0 sink0 link0 link0 (Err s)) (sym is)
    (record { sink_later = omega arith; link_later = omega arith; rose = tt; others = (refl, refl, refl) })

-- ---- the cause of the whole run

-- the same room, in other words
pub room-iff : {T : Type 0} (result : Result T Stop) (R Q : Type 0) → (Q → R) → (R → Q) → RoomTold result R → RoomTold result Q
room-iff result R Q f back told = by (says_of result).phase (says_of result).lie told where
  by : (phase : Phase) (lie : Option Lie) → RoomAt phase lie R → RoomAt phase lie Q
  by untouched lie told = tt
  by reading lie told = tt
  by underway None told = tt
  by underway (Some no_room) told = λ room. told (f room)
  by underway (Some (refused fault)) told = told
  by ended lie told = back told
  by anywhen lie told = tt
