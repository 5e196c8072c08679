-- One moment of a run: what the link and the two ends hold, whichever these are, and what the sink has taken.
use Rattle.std.specs.Prelude.{ℕ, List, Option}
use Rattle.pipe_frames.specs.Pipe.{Pipe}
use Rattle.replay_parts.specs.Says.{Counts}

-- the link, whether it is honest, how often it failed, and the ends
pub record Moment (E : Type 0) : Type 1 where
  pub honest : Type 0
  pub up : Pipe
  pub down : Pipe
  pub faults : ℕ
  pub ends : E

-- these together, but for the faults, which nothing asks for that is said of a run
abbrev pub moment : {E : Type 0} → Type 0 → Pipe → Pipe → E → Moment E
moment honest up down ends = record { honest = honest; up = up; down = down; faults = 0; ends = ends }

-- what a call leads from, and to
pub record Passage (E : Type 0) : Type 1 where
  pub before : Moment E
  pub after : Moment E

-- what a call leads from, and to
abbrev pub passage : {E : Type 0} → Moment E → Moment E → Passage E
passage before after = record { before = before; after = after }

-- what a sink has taken, and how often it failed
pub record Taken : Type 0 where
  pub bytes : Option (List ℕ)
  pub faults : ℕ

-- a moment, with what the sink has taken
pub record Scene (E : Type 0) : Type 1 where
  pub now : Moment E
  pub taken : Option (List ℕ)
  pub faults : ℕ

-- these together, but for the faults of the sink
abbrev pub scene : {E : Type 0} → Moment E → Option (List ℕ) → Scene E
scene now taken = record { now = now; taken = taken; faults = 0 }

-- these together
abbrev pub seen_by : {E : Type 0} → Moment E → Taken → Scene E
seen_by now sink = record { now = now; taken = sink.bytes; faults = sink.faults }

-- the counts of faults from one scene to another
abbrev pub counts_between : {E : Type 0} → Scene E → Scene E → Counts
counts_between old new =
    record {
      source_before = 0;
      source_after = 0;
      sink_before = old.faults;
      sink_after = new.faults;
      link_before = old.now.faults;
      link_after = new.now.faults;
    }
