-- What a call on the link and the ends keeps, whatever it answers, and where it leads: four facts of the moments before and after it.
use Rattle.std.specs.Prelude.{Result, OnOk}
use Rattle.replay_parts.specs.declared.stop.Stop.{Stop}
use Rattle.replay_parts.specs.Says.{Counts}
use Rattle.replay_parts.specs.Stops.{HasStopCause}
use Rattle.replay_parts.specs.Moments.{Moment, Scene, counts_between}
use Rattle.replay_parts.specs.Printed.{PrintedSome}

-- ---- calls that print nothing

-- how a call goes: what it keeps over every link, and over an honest one where it takes the run
pub record Manner (E T : Type 0) : Type 1 where
  pub follows : Moment E → Moment E → Result T Stop → Type 0
  pub steps : Moment E → Moment E → Result T Stop → Type 0

-- An honest link stays honest; a fault of the link is answered only where its count rose; the ends go on following the link; and
-- over an honest link the run goes where the script takes it.
pub record Goes {E T : Type 0} (manner : Manner E T) (old new : Moment E)
    (result : Result T Stop) : Type 0 where
  pub honest : old.honest → new.honest
  pub cause : HasStopCause 0 0 old.faults new.faults result
  pub follows : manner.follows old new result
  pub steps : manner.steps old new result

-- ---- calls that print

-- how such a call goes: what a fault says, what it keeps over every link, and over an honest one where it takes both runs
pub record PrintManner (E T : Type 0) : Type 1 where
  pub cause : Counts → Result T Stop → Type 0
  pub follows : Moment E → Moment E → Result T Stop → Type 0
  pub runs : Scene E → Scene E → Result T Stop → Type 0

-- The same four facts of a call that prints; and what it printed.
pub record Plays {E T : Type 0} (part : PrintManner E T) (old new : Scene E) (result : Result T Stop) : Type 0 where
  pub honest : old.now.honest → new.now.honest
  pub cause : part.cause (counts_between old new) result
  pub follows : part.follows old.now new.now result
  pub some : OnOk result (PrintedSome old.taken new.taken)
  pub runs : part.runs old new result
