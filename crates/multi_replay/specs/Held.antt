-- What code holds of two fronts, as contracts see it, and what its parts answer.
use Rattle.std.specs.Prelude.{◌≡◌, ◌==◌, ℕ, cond, List, [], ◌∷◌, map, Option, Some, None, option_map, Result, Ok, Err, ⊤}
use Rattle.pipe_frames.specs.Frames.{IsText}
use Rattle.front_mirror.specs.declared.faults.FrontKind.{FrontKind}
use Rattle.front_mirror.specs.declared.faults.FrontErr.{FrontErr}
use Rattle.front_mirror.specs.declared.faults.FrontErr.TheVariants as front_err
use Rattle.front_mirror.specs.Front.{FrontState}
use Rattle.session_runs.specs.Pairs.{TargetKind, attach, detach, WaitingTarget, TargetOutcome, nothing_done, session_made, session_dropped}
use Rattle.session_runs.specs.Pairs.{Second, front_pair, bare, of_session}
use Rattle.session_runs.specs.Pairs as pairs
use Rattle.multi_replay.specs.declared.incoming.Incoming.{Incoming}
use Rattle.multi_replay.specs.declared.incoming.Incoming.TheVariants as incoming
use Rattle.multi_replay.specs.declared.outcomes.Outcome.{Outcome}
use Rattle.multi_replay.specs.declared.outcomes.Outcome.TheVariants as outcome
use Rattle.front_mirror.specs.declared.faults.FrameErr.{FrameErr}
use Rattle.front_mirror.specs.declared.faults.FrameErr.TheVariants.{Refused, Memory}
use Rattle.session_mux.specs.declared.targets.Target.{Target}
use Rattle.session_mux.specs.declared.targets.Target.TheVariants as target
use Rattle.multi_replay.specs.declared.targets.Waiting.{Waiting}
use Rattle.multi_replay.specs.declared.pair.SecondFront.{SecondFront}
use Rattle.multi_replay.specs.declared.pair.Pair.{Pair}
use Rattle.multi_replay.specs.Folds.{FoldedPair}
use Rattle.multi_replay.specs.States.{StatePair, at_rest}

-- which of the two commands it is
abbrev pub command_kind : Target → TargetKind
command_kind target.Attach = attach
command_kind target.Detach = detach

-- a command that waits
abbrev pub waiting_seen : Waiting → WaitingTarget
waiting_seen w = record { id = w.id; kind = command_kind w.command }

-- the first command with that id
abbrev pub command_among : ℕ → List Waiting → Option Target
command_among id [] = None
command_among id (w ∷ ws) = cond (w.id == id) (Some w.command) (command_among id ws)

-- the commands but for the first with that id
abbrev pub without_command : ℕ → List Waiting → List Waiting
without_command id [] = []
without_command id (w ∷ ws) = cond (w.id == id) ws (w ∷ without_command id ws)

-- what a frame is that came down
abbrev pub incoming_seen : Incoming → pairs.Down (List ℕ)
incoming_seen (incoming.Bare id) = bare id
incoming_seen (incoming.OfSession session text) = of_session session text.items

-- what a frame of a session says beside has no zero byte
abbrev pub HasText : Incoming → Type 0
HasText (incoming.Bare id) = ⊤
HasText (incoming.OfSession session text) = IsText text.items

-- what a reply to a command says
abbrev pub outcome_seen : Outcome → TargetOutcome (List ℕ)
outcome_seen outcome.NothingDone = nothing_done
outcome_seen (outcome.Made session number) = session_made session number
outcome_seen outcome.Dropped = session_dropped

-- the second front and its session
abbrev pub second_seen : {P : Type 0} → SecondFront P → Second FrontState (List ℕ)
second_seen w = record { text = w.session; value = at_rest w.front }

-- both fronts
abbrev pub pair_seen : {P : Type 0} → Pair P → StatePair
pair_seen p = front_pair (at_rest p.first) (option_map second_seen p.second) (map waiting_seen p.waiting.items) [] p.top

-- both fronts, where no fault was met
abbrev pub folded_seen : {P : Type 0} → Pair P → FoldedPair FrontState
folded_seen p = record { pair = pair_seen p; taken = p.taken; fault = None }

-- a front holds no part of a frame, and met no fault
abbrev pub IsReady : FrontState → Type 0
IsReady s = (s.rest ≡ []) × (s.fault ≡ None)

-- so does the second front, where it stands
abbrev pub SecondIsReady : {P : Type 0} → Option (SecondFront P) → Type 0
SecondIsReady None = ⊤
SecondIsReady (Some w) = IsReady w.front

-- both fronts hold no part of a frame, and met no fault
abbrev pub AreReady : {P : Type 0} → Pair P → Type 0
AreReady p = IsReady p.first × SecondIsReady p.second

-- as many fetches of the second front are counted as it sent
abbrev pub AreCounted : {P : Type 0} → Option (SecondFront P) → Type 0
AreCounted None = ⊤
AreCounted (Some w) = w.fetches ≡ w.front.fetches

-- Ok is what came of it, a refusal leaves all as it was, and want of memory says nothing.
abbrev pub Takes : {S : Type 0} → S → S → Result (Unit {0}) FrameErr → Result S FrontKind → Type 0
Takes old new (Ok done) r = r ≡ Ok new
Takes old new (Err (Refused kind)) r = (r ≡ Err kind) × (new ≡ old)
Takes old new (Err Memory) r = ⊤

-- what a reply says, or why it is refused; want of memory says nothing
abbrev pub Says : Result Outcome FrameErr → Result (TargetOutcome (List ℕ)) FrontKind → Type 0
Says (Ok done) r = r ≡ Ok (outcome_seen done)
Says (Err (Refused kind)) r = r ≡ Err kind
Says (Err Memory) r = ⊤

-- Ok is a fold without a fault, a fault is the one that the fold met, and want of memory says nothing.
abbrev pub Folds : FoldedPair FrontState → FoldedPair FrontState → Result (Unit {0}) FrontErr → Type 0
Folds end new (Ok done) = end ≡ new
Folds end new (Err (front_err.Fault f)) = end ≡ record new { fault = Some f }
Folds end new (Err front_err.Memory) = ⊤

-- a fact that holds after each answer but want of memory
abbrev pub UnlessMemory : Result (Unit {0}) FrameErr → Type 0 → Type 0
UnlessMemory (Ok done) P = P
UnlessMemory (Err (Refused kind)) P = P
UnlessMemory (Err Memory) P = ⊤

-- the same after the folding of many frames
abbrev pub UnlessDead : Result (Unit {0}) FrontErr → Type 0 → Type 0
UnlessDead (Ok done) P = P
UnlessDead (Err (front_err.Fault f)) P = P
UnlessDead (Err front_err.Memory) P = ⊤
