-- What the lines of a script take a run through.
use Rattle.std.specs.Prelude.{ℕ, List, [], ◌∷◌, length, ⊤}
use Rattle.pipe_frames.specs.Frames.{IsText}
use Rattle.session_runs.specs.Stream.{arriving, awaited}
use Rattle.session_runs.specs.World.{World, sent_up, turned, delivered_up, delivered_down, settled}
use Rattle.session_runs.specs.Fold.{Machine, RoomThroughout}

-- One part of a run: a frame is sent, with how it is counted; the script makes a step by itself; so many bytes are delivered up, or
-- down; all is delivered.
pub data Passage (X N : Type 0) : Type 0 where
  sending : List ℕ → (N → N) → Passage X N
  turning : X → Passage X N
  delivering_up : ℕ → Passage X N
  delivering_down : ℕ → Passage X N
  settling : Passage X N

-- the run after one part
abbrev pub after_passage : {S F E X N L : Type 0} → Machine S F E X N → Passage X N → World S N L → World S N L
after_passage machine (sending text more) w = sent_up text more w
after_passage machine (turning x) w = turned machine.one_turn machine.act x w
after_passage machine (delivering_up n) w = delivered_up machine.step n w
after_passage machine (delivering_down n) w = delivered_down n w
after_passage machine settling w = settled machine.step w

-- the run after some parts, one after the other
abbrev pub after_passages : {S F E X N L : Type 0} → Machine S F E X N → List (Passage X N) → World S N L → World S N L
after_passages machine [] w = w
after_passages machine (p ∷ ps) w = after_passages machine ps (after_passage machine p w)

-- there is room for the steps on all that is on its way up
abbrev pub RoomToSettle : {S F E X N L : Type 0} → Machine S F E X N → (S → Type 0) → World S N L → Type 0
RoomToSettle machine HasRoom w = RoomThroughout machine.step HasRoom w.state (arriving (length w.up.flying) w.up)

-- A part of a run may come: the frame may be sent, the script may make the step, and there is room before each step.
abbrev pub MayPass : {S F E X N L : Type 0} → Machine S F E X N → (S → Type 0) → (N → S → List (List ℕ) → List ℕ → N → Type 0)
    → (N → X → Type 0) → Passage X N → World S N L → Type 0
MayPass machine HasRoom IsNext IsTurn (sending text more) w = IsText text × IsNext w.spent w.state (awaited w.up) text (more w.spent)
MayPass machine HasRoom IsNext IsTurn (turning x) w = HasRoom w.state × IsTurn w.spent x
MayPass machine HasRoom IsNext IsTurn (delivering_up n) w = RoomThroughout machine.step HasRoom w.state (arriving n w.up)
MayPass machine HasRoom IsNext IsTurn (delivering_down n) w = ⊤
MayPass machine HasRoom IsNext IsTurn settling w = RoomToSettle machine HasRoom w

-- each of some parts may come when its turn is
abbrev pub MayPassAll : {S F E X N L : Type 0} → Machine S F E X N → (S → Type 0) → (N → S → List (List ℕ) → List ℕ → N → Type 0)
    → (N → X → Type 0) → List (Passage X N) → World S N L → Type 0
MayPassAll machine HasRoom IsNext IsTurn [] w = ⊤
MayPassAll machine HasRoom IsNext IsTurn (p ∷ ps) w =
    MayPass machine HasRoom IsNext IsTurn p w × MayPassAll machine HasRoom IsNext IsTurn ps (after_passage machine p w)
