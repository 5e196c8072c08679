-- What the kinds of the outside that are kept in memory hold.
use Rattle.std.specs.Prelude.{◌≡◌, ◌≤◌, ◌==◌, ◌-◌, ℕ, Bool, List, [], length, take, set, Contains, if◌then◌else◌, Result, Ok, Err, true}
use Rattle.std.specs.Prelude.{false}
use Rattle.pipe_frames.specs.declared.outside.OutErr.{OutErr}
use Rattle.pipe_frames.specs.declared.outside.OutErr.TheVariants.{Failed, Memory}
use Rattle.pipe_frames.specs.Fault.{next_count}
use Rattle.pipe_frames.specs.Pipe.{Pipe, GivesPrefix}
use Rattle.std.proofs.Common.{refl, sym}
use Rattle.std.proofs.Math.Nat.{min-le_right}
use Rattle.std.proofs.lemmas.List.{length-take, length-set, drop_min, take-append-drop}

-- which calls fail, by their numbers from 1, how many were made, and how many of these failed
pub record Calls : Type 0 where
  pub fail : List ℕ
  pub made : ℕ
  pub faults : ℕ

-- no call made yet
abbrev pub no_calls : List ℕ → Calls
no_calls fail = record { fail = fail; made = 0; faults = 0 }

-- the next call is one that fails
abbrev pub NextFails : Calls → Type 0
NextFails calls = Contains calls.fail (next_count calls.made)

-- the calls after one call more
abbrev pub counted : Calls → Bool → Calls
counted calls failed =
    record { fail = calls.fail; made = next_count calls.made; faults = if failed then next_count calls.faults else calls.faults }

-- the outside failed, and not the memory
abbrev pub is_failed : {T : Type 0} → Result T OutErr → Bool
is_failed (Ok value) = false
is_failed (Err Failed) = true
is_failed (Err Memory) = false

-- the bytes sent into a pipe, and how many of them it gave
pub record Flow : Type 0 where
  pub sent : List ℕ
  pub passed : ℕ

-- nothing sent yet
abbrev pub no_flow : Flow
no_flow = record { sent = []; passed = 0 }

-- a pipe that gives what was sent
abbrev pub pipe_of : Flow → Pipe
pipe_of flow = record { sent = flow.sent; given = take flow.passed flow.sent }

-- the place-th byte, counted from 1, is `to`
abbrev pub replaced : ℕ → ℕ → List ℕ → List ℕ
replaced place to bytes = if place == 0 then bytes else set bytes (place - 1) to

-- a pipe that gives what was sent, but for one byte
abbrev pub lying_pipe : ℕ → ℕ → Flow → Pipe
lying_pipe place to flow =
    record { sent = flow.sent; given = replaced place to (take flow.passed flow.sent) }

-- a source in memory: what it has left, and how many bytes a call gives at most
pub record SourceParts : Type 0 where
  pub left : List ℕ
  pub step : ℕ
  pub calls : Calls

-- a sink in memory: what it has taken
pub record SinkParts : Type 0 where
  pub taken : List ℕ
  pub calls : Calls

-- a link in memory: its two directions
pub record LinkParts : Type 0 where
  pub up : Flow
  pub down : Flow
  pub calls : Calls

-- a link that lies: its two directions, and which byte given down is replaced by what
pub record LiarParts : Type 0 where
  pub up : Flow
  pub down : Flow
  pub place : ℕ
  pub to : ℕ

-- a pipe that gives what was sent gives no more
pub gives_few : (flow : Flow) → length (pipe_of flow).given ≤ length (pipe_of flow).sent
gives_few flow = rw (length-take flow.passed flow.sent) (min-le_right flow.passed (length flow.sent))

one_replaced : (b : Bool) (n to : ℕ) (bytes : List ℕ) → length (if b then bytes else set bytes n to) ≡ length bytes
one_replaced true n to bytes = refl
one_replaced false n to bytes = length-set bytes n to

-- nor does one that lies
pub lies_few : (place to : ℕ) (flow : Flow) → length (lying_pipe place to flow).given ≤ length (lying_pipe place to flow).sent
lies_few place to flow = rw (one_replaced (place == 0) (place - 1) to (take flow.passed flow.sent)) (gives_few flow)

-- a pipe that gives what was sent has given a prefix of it
pub gives_prefix : (flow : Flow) → GivesPrefix (pipe_of flow)
gives_prefix flow =
    rw (length-take flow.passed flow.sent, drop_min flow.passed flow.sent) (sym (take-append-drop flow.passed flow.sent))
