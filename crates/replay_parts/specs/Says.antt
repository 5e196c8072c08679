-- What each answer says: how far the call had come, whose count of faults rose, and what was found of the input and of the
-- messages. All that the clauses say of answers is stated over this one table.
use Rattle.std.specs.Prelude.{◌≡◌, ℕ, Bool, true, false, Option, Some, None, Result, Ok, Err, ⊤}
use Rattle.pipe_frames.specs.Fault.{Rose}
use Rattle.replay_script.specs.declared.faults.LineFault.{LineFault}
use Rattle.front_mirror.specs.declared.faults.FrontFault.{FrontFault}
use Rattle.replay_parts.specs.declared.status.Status.{Status}
use Rattle.replay_parts.specs.declared.status.Status.TheVariants as status
use Rattle.replay_parts.specs.declared.stop.Stop.{Stop}
use Rattle.replay_parts.specs.declared.stop.Stop.TheVariants.{Line, TooLong, ReadFault, WriteFault, LinkFault, FrontRefused, NoRoom}
use Rattle.replay_parts.specs.declared.stop.Stop.TheVariants.{Memory}

-- how far a call had come
pub data Phase : Type 0 where
  -- nothing was touched
  untouched : Phase
  -- the input was being read, and nothing was written yet
  reading : Phase
  -- the input was read whole, and its lines were being carried out
  underway : Phase
  -- all lines were carried out, or all before the first that is refused
  ended : Phase
  -- at any time
  anywhen : Phase

-- a part of the outside, which counts its faults
pub data Part : Type 0 where
  source : Part
  sink : Part
  link : Part

-- what ends a run over a link that is not honest alone
pub data Lie : Type 0 where
  -- the front end refused this message
  refused : FrontFault → Lie
  -- no id or serial was left
  no_room : Lie

-- what an answer says
pub record Says : Type 0 where
  pub phase : Phase
  -- the part whose count of faults rose
  pub failed : Option Part
  -- the first line that is refused
  pub line : Option (ℕ × LineFault)
  -- what comes over no honest link
  pub lie : Option Lie
  -- the input is too long
  pub over : Bool

-- an answer that says how far the call had come, and nothing else
abbrev pub come_to : Phase → Says
come_to phase = record { phase = phase; failed = None; line = None; lie = None; over = false }

-- what each status says
abbrev pub says : Status → Says
says status.Done = come_to ended
says status.Usage = come_to untouched
says (status.Line number fault) = record (come_to ended) { line = Some (number, fault) }
says status.TooLong = record (come_to reading) { over = true }
says status.ReadFault = record (come_to reading) { failed = Some source }
says status.WriteFault = record (come_to underway) { failed = Some sink }
says status.LinkFault = record (come_to underway) { failed = Some link }
says (status.FrontRefused place kind) = record (come_to underway) { lie = Some (refused (record { place = place; kind = kind })) }
says status.NoRoom = record (come_to underway) { lie = Some no_room }
says status.Memory = come_to anywhen

-- the status that a stop is
abbrev pub status_of : Stop → Status
status_of (Line number fault) = status.Line number fault
status_of TooLong = status.TooLong
status_of ReadFault = status.ReadFault
status_of WriteFault = status.WriteFault
status_of LinkFault = status.LinkFault
status_of (FrontRefused place fault) = status.FrontRefused place fault
status_of NoRoom = status.NoRoom
status_of Memory = status.Memory

-- what a result of a part of the call says
abbrev pub says_of : {T : Type 0} → Result T Stop → Says
says_of (Ok value) = come_to ended
says_of (Err stop) = says (status_of stop)

-- ---- causes

-- the counts of faults of the three parts, before and after
pub record Counts : Type 0 where
  pub source_before : ℕ
  pub source_after : ℕ
  pub sink_before : ℕ
  pub sink_after : ℕ
  pub link_before : ℕ
  pub link_after : ℕ

-- the count of the part that failed, if one did, rose
abbrev pub PartRose : Counts → Option Part → Type 0
PartRose c None = ⊤
PartRose c (Some source) = Rose c.source_before c.source_after
PartRose c (Some sink) = Rose c.sink_before c.sink_after
PartRose c (Some link) = Rose c.link_before c.link_after

-- no count rose but that of the part that failed, if one did: each other stands where it stood
abbrev pub OthersStill : Counts → Option Part → Type 0
OthersStill c None = (c.source_after ≡ c.source_before) × (c.sink_after ≡ c.sink_before) × (c.link_after ≡ c.link_before)
OthersStill c (Some source) = (c.sink_after ≡ c.sink_before) × (c.link_after ≡ c.link_before)
OthersStill c (Some sink) = (c.source_after ≡ c.source_before) × (c.link_after ≡ c.link_before)
OthersStill c (Some link) = (c.source_after ≡ c.source_before) × (c.sink_after ≡ c.sink_before)
