-- A run over a link that gives what was sent: a state, and the two streams between the ends. A step of the state on one frame gives the
-- state after it, and the bytes that it sends down. What is counted of a run, and who was told what, may be anything.
use Rattle.std.specs.Prelude.{ℕ, List, [], ◌∷◌, ◌++◌, length}
use Rattle.pipe_frames.specs.Frames.{framed}
use Rattle.session_runs.specs.Stream.{Stream, no_stream, put_last, passed, arriving}

-- what a step makes: the state after it, and the bytes sent down
pub record Stepped (S : Type 0) : Type 0 where
  pub state : S
  pub sent : List ℕ

-- the state, the two streams, what was spent, and who was told what
pub record World (S N L : Type 0) : Type 0 where
  pub state : S
  pub up : Stream
  pub down : Stream
  pub spent : N
  pub told : L

-- before anything was sent
abbrev pub first_world : {S N L : Type 0} → N → L → S → World S N L
first_world nothing told state = record { state = state; up = no_stream; down = no_stream; spent = nothing; told = told }

-- the steps on frames, one after the other
abbrev pub steps : {S : Type 0} → (S → List ℕ → Stepped S) → S → List (List ℕ) → Stepped S
steps step state [] = record { state = state; sent = [] }
steps step state (frame ∷ frames) =
    let first = step state frame in
    let later = steps step first.state frames in
    record { state = later.state; sent = first.sent ++ later.sent }

-- the front end sends a frame, which is counted by `more`
abbrev pub sent_up : {S N L : Type 0} → List ℕ → (N → N) → World S N L → World S N L
sent_up text more w = record w { up = put_last (framed text) w.up; spent = more w.spent }

-- the script itself makes a step of the state: what it sends goes down, whatever is on its way up
abbrev pub turned : {S N L X : Type 0} → (N → N) → (X → S → Stepped S) → X → World S N L → World S N L
turned one_turn act x w =
    let done = act x w.state in
    record w { state = done.state; down = put_last done.sent w.down; spent = one_turn w.spent }

-- the state answers frames that have come up whole
abbrev pub answered : {S N L : Type 0} → (S → List ℕ → Stepped S) → List (List ℕ) → World S N L → World S N L
answered step frames w =
    let done = steps step w.state frames in
    record w { state = done.state; down = put_last done.sent w.down }

-- n bytes are given up, or as many as are there; the frames that become whole are still to be answered
abbrev pub given_up : {S N L : Type 0} → ℕ → World S N L → World S N L
given_up n w = record w { up = passed n w.up }

-- n bytes are delivered up, or as many as are there: each frame that becomes whole is one step
abbrev pub delivered_up : {S N L : Type 0} → (S → List ℕ → Stepped S) → ℕ → World S N L → World S N L
delivered_up step n w = answered step (arriving n w.up) (given_up n w)

-- n bytes are delivered down, or as many as are there
abbrev pub delivered_down : {S N L : Type 0} → ℕ → World S N L → World S N L
delivered_down n w = record w { down = passed n w.down }

-- all of the up pipe is delivered, then all of the down pipe
abbrev pub settled : {S N L : Type 0} → (S → List ℕ → Stepped S) → World S N L → World S N L
settled step w =
    let after = delivered_up step (length w.up.flying) w in
    delivered_down (length after.down.flying) after
