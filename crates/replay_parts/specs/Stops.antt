-- Why a run stops, and what a stop says of the outside.
use Rattle.std.specs.Prelude.{◌≤◌, ℕ, Result, Ok, Err, ⊤}
use Rattle.replay_parts.specs.declared.stop.Stop.{Stop}
use Rattle.replay_parts.specs.Says.{Phase, untouched, reading, underway, ended, anywhen, Counts, PartRose, OthersStill, says, says_of}
use Rattle.replay_parts.specs.Says.{status_of}
use Rattle.replay_parts.specs.Answers.{Absent, InRunOnly}

-- a statement of stops amid a run: a line that is refused is none
abbrev pub AmidRun : Phase → Type 0 → Type 0
AmidRun untouched P = ⊥
AmidRun reading P = ⊥
AmidRun underway P = P
AmidRun ended P = ⊥
AmidRun anywhen P = P

-- the counts of a sink and of a link, with no source
abbrev pub two_counts : (sink_before sink_after link_before link_after : ℕ) → Counts
two_counts sink_before sink_after link_before link_after =
    record {
      source_before = 0;
      source_after = 0;
      sink_before = sink_before;
      sink_after = sink_after;
      link_before = link_before;
      link_after = link_after;
    }

-- the same of a source, and of a sink and a link
abbrev pub three_counts : (source_before source_after : ℕ) → Counts → Counts
three_counts source_before source_after others =
    record {
      source_before = source_before;
      source_after = source_after;
      sink_before = others.sink_before;
      sink_after = others.sink_after;
      link_before = others.link_before;
      link_after = others.link_after;
    }

-- a run over a sink and a link stops by a fault of the one or the other only where its count rose
abbrev pub RoseFor : Counts → Stop → Type 0
RoseFor c stop = AmidRun (says (status_of stop)).phase (PartRose c (says (status_of stop)).failed)

-- a result stops by a fault of the sink or the link only where its count rose
abbrev pub RoseAt : {T : Type 0} → Counts → Result T Stop → Type 0
RoseAt c (Ok value) = ⊤
RoseAt c (Err stop) = RoseFor c stop

-- neither count fell, a fault has its cause, and no fault is hidden
pub record HasStopCause {T : Type 0} (sink_before sink_after link_before link_after : ℕ) (result : Result T Stop) : Type 0 where
  pub sink_later : sink_before ≤ sink_after
  pub link_later : link_before ≤ link_after
  pub rose : RoseAt (two_counts sink_before sink_after link_before link_after) result
  pub others : OthersStill (two_counts sink_before sink_after link_before link_after) (says_of result).failed

-- a stop by a fault of the sink or the link comes only where its count rose, the counts being in one record
abbrev pub StopRose : {T : Type 0} → Counts → Result T Stop → Type 0
StopRose c result = HasStopCause c.sink_before c.sink_after c.link_before c.link_after result

-- a call goes well: the front end was not at fault, and there was room
abbrev pub GoesWell : {T : Type 0} → Result T Stop → Type 0
GoesWell result = Absent (says_of result).lie

-- a run that may stop at a line that is refused stops by a fault of the sink or the link only where its count rose
abbrev pub RunRoseAt : {T : Type 0} → Counts → Result T Stop → Type 0
RunRoseAt c result = InRunOnly (says_of result).phase (PartRose c (says_of result).failed)

-- neither count fell, a fault has its cause, and no fault is hidden; a line may be refused
pub record HasRunCause {T : Type 0} (sink_before sink_after link_before link_after : ℕ) (result : Result T Stop) : Type 0 where
  pub sink_later : sink_before ≤ sink_after
  pub link_later : link_before ≤ link_after
  pub rose : RunRoseAt (two_counts sink_before sink_after link_before link_after) result
  pub others : OthersStill (two_counts sink_before sink_after link_before link_after) (says_of result).failed

-- such a run's counts do not fall, and a fault has its cause, the counts being in one record
abbrev pub RunRose : {T : Type 0} → Counts → Result T Stop → Type 0
RunRose c result = HasRunCause c.sink_before c.sink_after c.link_before c.link_after result

-- a statement of stops that tell of the outside: want of memory says nothing of what was given meanwhile
abbrev pub ButForMemory : Phase → Type 0 → Type 0
ButForMemory untouched P = P
ButForMemory reading P = P
ButForMemory underway P = P
ButForMemory ended P = P
ButForMemory anywhen P = ⊤

-- a call that stops, but not for want of memory, leaves this so
abbrev pub UnlessMemory : {T : Type 0} → Result T Stop → Type 0 → Type 0
UnlessMemory (Ok value) P = ⊤
UnlessMemory (Err stop) P = ButForMemory (says (status_of stop)).phase P
