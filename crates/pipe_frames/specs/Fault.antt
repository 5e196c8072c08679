-- Counts of faults, and when a call may say that the outside failed.
use Rattle.std.specs.Prelude.{ℕ, ◌+◌, ◌-◌, ◌≤◌, ◌<◌, min, IsErrOf, IsErr, OnErr, Result}
use Rattle.node_tree.specs.Numbers.{number_limit}
use Rattle.pipe_frames.specs.declared.outside.Failed.{Failed as ReadFault}
use Rattle.pipe_frames.specs.declared.outside.OutErr.{OutErr}
use Rattle.pipe_frames.specs.declared.outside.OutErr.TheVariants.{Failed}

-- a count one higher, which stays at the last value of a `u64`
abbrev pub next_count : ℕ → ℕ
next_count count = min (count + 1) (number_limit - 1)

-- the count rose, or stands at its last value
abbrev pub Rose : ℕ → ℕ → Type 0
Rose before now = next_count before ≤ now

-- A call's count of faults never falls, the call answers `Failed` only where the count rose, and where it rose the call
-- answers `Failed`: no fault is hidden.
pub record HasCause {T : Type 0} (before now : ℕ) (result : Result T OutErr) : Type 0 where
  pub later : before ≤ now
  pub failed : IsErrOf result Failed → Rose before now
  pub answered : before < now → IsErrOf result Failed

-- a call whose one error is that of a source answers it only where the count of faults rose
pub record HasReadCause {T : Type 0} (before now : ℕ) (result : Result T ReadFault) : Type 0 where
  pub later : before ≤ now
  pub failed : OnErr result (Rose before now)
  pub answered : before < now → IsErr result
