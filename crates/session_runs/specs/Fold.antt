-- Frames folded into a value one by one, up to the first that it refuses; and what ties a front end to a state.
use Rattle.std.specs.Prelude.{◌≡◌, ℕ, List, [], ◌∷◌, ◌++◌, ⊤, Result, Ok}
use Rattle.cdp_json.specs.Lookups.{then_ok}
use Rattle.pipe_frames.specs.Frames.{frames_of}
use Rattle.session_runs.specs.Stream.{sent, awaited}
use Rattle.session_runs.specs.World.{World, Stepped}

-- frames taken one after the other, up to the first fault
abbrev pub folded : {F E : Type 0} → (F → List ℕ → Result F E) → F → List (List ℕ) → Result F E
folded take front [] = Ok front
folded take front (frame ∷ frames) = then_ok (take front frame) (λ next. folded take next frames)

-- the asks of frames join, one by one, those that wait
abbrev pub asks_joined : {F : Type 0} → (F → List ℕ → F) → F → List (List ℕ) → F
asks_joined join front [] = front
asks_joined join front (frame ∷ frames) = asks_joined join (join front frame) frames

-- the messages of a step are whole, meet no fault, and lead to a front that fits the state after the step
pub record Leads {S F E : Type 0} (take : F → List ℕ → Result F E) (Fit : F → S → List (List ℕ) → Type 0)
    (front : F) (stepped : Stepped S) (frames : List (List ℕ)) : Type 0 where
  pub after : F
  pub is_fold : folded take front (frames_of stepped.sent).whole ≡ Ok after
  pub fit : Fit after stepped.state frames
  pub whole : (frames_of stepped.sent).rest ≡ []

-- How a run goes on: the step on a frame, the steps that the script makes itself, what a front end takes, how an ask joins
-- those that wait, and how a step of the script is counted.
pub record Machine (S F E X N : Type 0) : Type 0 where
  pub step : S → List ℕ → Stepped S
  pub act : X → S → Stepped S
  pub take : F → List ℕ → Result F E
  pub join : F → List ℕ → F
  pub one_turn : N → N

-- What ties a front end to a state: `Fit n front state frames` says, after n was spent, that the front shows the state, and
-- that the answers to these frames, and to no others, are still to come. `HasRoom state` says that a step may be made.
-- `IsNext n state frames text m` says that, after n and while these frames are not answered, the text may be sent, and that m is then
-- spent; `IsTurn n x` that the script may make the step x.
pub record Laws {S F E X N : Type 0} (machine : Machine S F E X N) (HasRoom : S → Type 0)
    (IsNext : N → S → List (List ℕ) → List ℕ → N → Type 0) (IsTurn : N → X → Type 0) (Fit : N → F → S → List (List ℕ) → Type 0)
    : Type 0 where
  -- an ask more that waits changes nothing of what is folded meanwhile
  pub later : (ask : List ℕ) (before after : F) (frames : List (List ℕ))
      → folded machine.take before frames ≡ Ok after → folded machine.take (machine.join before ask) frames ≡ Ok (machine.join after ask)
  -- an ask that is sent is the last of those that wait
  pub asks : (n m : N) (ask : List ℕ) (front : F) (state : S) (frames : List (List ℕ))
      → IsNext n state frames ask m → Fit n front state frames → Fit m (machine.join front ask) state (frames ++ ask ∷ [])
  -- what a step on a frame sends takes the front along
  pub answers : (n : N) (frame : List ℕ) (front : F) (state : S) (frames : List (List ℕ))
      → HasRoom state → Fit n front state (frame ∷ frames) → Leads machine.take (Fit n) front (machine.step state frame) frames
  -- and so does what the script's own step sends, while the same frames wait
  pub turns : (n : N) (x : X) (front : F) (state : S) (frames : List (List ℕ))
      → HasRoom state → IsTurn n x → Fit n front state frames
      → Leads machine.take (Fit (machine.one_turn n)) front (machine.act x state) frames

-- there is room before the step on each of these frames
abbrev pub RoomThroughout : {S : Type 0} → (S → List ℕ → Stepped S) → (S → Type 0) → S → List (List ℕ) → Type 0
RoomThroughout step HasRoom state [] = ⊤
RoomThroughout step HasRoom state (frame ∷ frames) = HasRoom state × RoomThroughout step HasRoom (step state frame).state frames

-- The whole streams of a run, folded from the start, meet no fault and give a front that fits the state; `frames` are those
-- that the state has not answered.
pub record FitsWith {S F E N L : Type 0} (take : F → List ℕ → Result F E) (join : F → List ℕ → F)
    (Fit : N → F → S → List (List ℕ) → Type 0) (start : F) (w : World S N L) (frames : List (List ℕ)) : Type 0 where
  pub front : F
  pub is_fold : folded take (asks_joined join start (frames_of (sent w.up)).whole) (frames_of (sent w.down)).whole ≡ Ok front
  pub fit : Fit w.spent front w.state frames
  pub up_whole : (frames_of (sent w.up)).rest ≡ []
  pub down_whole : (frames_of (sent w.down)).rest ≡ []

-- The whole streams of a run, folded, fit the state, where each frame that is whole at the state is answered.
abbrev pub Fits : {S F E N L : Type 0} → (F → List ℕ → Result F E) → (F → List ℕ → F) → (N → F → S → List (List ℕ) → Type 0) → F
    → World S N L → Type 0
Fits take join Fit start w = FitsWith take join Fit start w (awaited w.up)
