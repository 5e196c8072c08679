-- Two clients never run out of numbers for sessions within an input: where there is no room, one of the clients has none.
use Rattle.std.specs.Prelude.{⊤}
use Rattle.std.proofs.Common.{◌≡◌, ℕ, ◌+◌, ◌^◌, ◌<◌, ◌≤◌, true, List, [], ◌∷◌, ◌++◌, length, take, Option, ◌∙◌, ap, subst, length-append}
use Rattle.std.proofs.Common.{arith}
use Rattle.std.proofs.lemmas.List.{length-take}
use Rattle.node_tree.specs.Numbers.{max_input, drawn_before_step}
use Rattle.pipe_frames.specs.Frames.{frames_of}
use Rattle.session_runs.specs.World.{steps}
use Rattle.session_mux.specs.Routes.{routing}
use Rattle.inspect_world.proofs.CountLemmas.{frames-few}
use Rattle.pair_replay.proofs.NumberLemmas.{routed-next}
use Rattle.replay_parts.specs.declared.status.Status.{Status}
use Rattle.replay_parts.specs.declared.status.Status.TheVariants as status
use Rattle.replay_parts.specs.declared.stop.Stop.TheVariants.{NoRoom}
use Rattle.inspect_replay.specs.Served.{Served, alone, paired, first_paired, served_step, HasRoomFor}
use Rattle.inspect_replay.specs.Serving.{HaltedIn, LacksRoom, StoppedFull, ServeCall, AnswersTook, ShareTook}

-- the next session of two clients has at most this number
abbrev NumbersTo : ℕ → Served → Type 0
NumbersTo most (alone state) = ⊤
NumbersTo most (paired pair) = pair.sessions.next ≤ most

-- the step on a frame numbers one session at most
step-numbers : (now : Served) (frame : List ℕ) (most : ℕ) → NumbersTo most now → NumbersTo (most + 1) (served_step now frame).state
step-numbers (alone state) frame most n = n
step-numbers (paired p) frame most n = let few = routed-next true (routing frame p.sessions).routed frame p in omega (arith, few, n)

-- so do the steps on frames, one each
run-numbers : (frames : List (List ℕ)) (now : Served) (most : ℕ) → NumbersTo most now
    → NumbersTo (most + length frames) (steps served_step now frames).state
run-numbers [] now most n = let same : most ≡ most + 0 = omega arith in subst (λ k. NumbersTo k now) same n
run-numbers (frame ∷ frames) now most n =
    let next = (served_step now frame).state in
    let sum : most + 1 + length frames ≡ most + length (frame ∷ frames) = omega arith in
    subst (λ k. NumbersTo k (steps served_step next frames).state) sum
    (run-numbers frames next (most + 1) (step-numbers now frame most n))

-- where there is a number, what lacks is a client's room
client-lacks : (now : Served) (most : ℕ) → NumbersTo most now → most < drawn_before_step → (HasRoomFor now → ⊥) → LacksRoom now
client-lacks (alone state) most n few full = full
client-lacks (paired p) most n few full =
    λ both. full (record { root = both.0; second = both.1; number = omega (arith, n, few) })

-- answering two clients stopped for want of a client's room
full-stopped : (input : List ℕ) (before after : Option (List ℕ))
    → HaltedIn NoRoom first_paired (frames_of (take max_input input)).whole before after
    → StoppedFull (frames_of (take max_input input)).whole before after
full-stopped input before after halted =
    let came = take max_input input in
    let taken = length-take max_input input in
    let bytes : length came ≤ max_input = omega (arith, taken) in
    let frames : length (frames_of came).whole ≤ length came = frames-few came in
    let cut : length (frames_of came).whole ≡ length halted.answered + length halted.others =
    ap length halted.cut ∙ length-append halted.answered halted.others in
    let end = (steps served_step first_paired halted.answered).state in
    let numbers : NumbersTo (1 + length halted.answered) end = run-numbers halted.answered first_paired 1 (omega arith) in
    record {
      answered = halted.answered;
      frame = halted.ends.0.frame;
      later = halted.ends.0.later;
      cut = halted.cut ∙ ap (λ rest. halted.answered ++ rest) halted.ends.0.others_are;
      room = halted.room;
      full = client-lacks end (1 + length halted.answered) numbers (omega (arith, bytes, frames, cut)) halted.ends.0.full;
      wrote = halted.ends.1;
    }

-- what `share` wrote, by its answer
pub share-took : (s : Status) (input : List ℕ) (call : ServeCall) → AnswersTook first_paired s input call → ShareTook s input call
share-took status.Done input call took = took
share-took status.Usage input call took = took
share-took (status.Line number fault) input call took = took
share-took status.TooLong input call took = took
share-took status.ReadFault input call took = took
share-took status.WriteFault input call took = took
share-took status.LinkFault input call took = took
share-took (status.FrontRefused place kind) input call took = took
share-took status.NoRoom input call took = full-stopped input call.taken_before call.taken_after took
share-took status.Memory input call took = took
