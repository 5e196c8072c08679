-- The run of a script with two front ends.
use Rattle.std.specs.Prelude.{◌≡◌, ℕ, List, [], ◌∷◌, Option, Some, None, Ok, ⊤}
use Rattle.pipe_frames.specs.Frames.{IsText, frames_of}
use Rattle.session_runs.specs.Stream.{sent}
use Rattle.session_runs.specs.World.{World, sent_up, settled}
use Rattle.session_runs.specs.Fold.{folded, asks_joined, Machine, Fits}
use Rattle.session_runs.specs.Passages.{Passage, after_passage, RoomToSettle, MayPass}
use Rattle.session_runs.specs.Pairs.{WaitingTarget, FrontReads, Second, FrontPair, first_pair, take_pair, join_pair, ClientPair}
use Rattle.session_runs.specs.Pairs.{ClientSteps}
use Rattle.session_runs.specs.Pairs.{pair_step, pair_act}
use Rattle.session_runs.specs.PairFit.{BothHaveRoom, IsCalm, MayTarget, MaySendNext, Calm}

-- One part of such a run: any part of a run; or an attach or a detach that is sent between two settles, with how it is counted.
pub data PairPassage (X N : Type 0) : Type 0 where
  passing : Passage X N → PairPassage X N
  targeting : List ℕ → (N → N) → PairPassage X N

module _ {V E A P C D X T N : Type 0} (r : FrontReads V E A T) (b : ClientSteps P C D X T) (one_turn : N → N) where
  -- how the run of two sessions goes on
  abbrev pub pair_machine : Machine (ClientPair P C) (FrontPair V A T) E X N
  pair_machine = record { step = pair_step r b; act = pair_act r b; take = take_pair r; join = join_pair r; one_turn = one_turn }

  -- the run after a part
  abbrev pub after_pair_passage : {L : Type 0} → PairPassage X N → World (ClientPair P C) N L → World (ClientPair P C) N L
  after_pair_passage (passing p) w = after_passage pair_machine p w
  after_pair_passage (targeting text more) w = settled (pair_step r b) (sent_up text more (settled (pair_step r b) w))

  -- the run after some parts, one after the other
  abbrev pub after_pair_passages : {L : Type 0} → List (PairPassage X N) → World (ClientPair P C) N L → World (ClientPair P C) N L
  after_pair_passages [] w = w
  after_pair_passages (p ∷ ps) w = after_pair_passages ps (after_pair_passage p w)

  module _ (IsNumber : ℕ → Type 0) (HasRoom : P → C → Type 0) (MaySend : List ℕ → Type 0) (IsTurn : X → Type 0) where
    -- a frame is the root's or the attached session's, whatever was spent
    abbrev pub NextIsCalm : N → ClientPair P C → List (List ℕ) → List ℕ → N → Type 0
    NextIsCalm n s frames frame m = IsCalm r b MaySend s.attached (r.way frame)

    -- a frame, or an attach or a detach, may be sent while others wait, whatever was spent
    abbrev pub NextInPair : N → ClientPair P C → List (List ℕ) → List ℕ → N → Type 0
    NextInPair n s frames frame m = MaySendNext r b MaySend s frames frame

    -- an attach or a detach that may be sent once all has come
    pub record MayTargetNext {L : Type 0} (text : List ℕ) (more : N → N) (w : World (ClientPair P C) N L) : Type 0 where
      pub letters : IsText text
      pub waiting : WaitingTarget
      pub may_target : MayTarget r b (settled (pair_step r b) w).state.attached (r.way text) waiting
      pub room : RoomToSettle pair_machine (BothHaveRoom r b IsNumber HasRoom) w
      pub room_after : RoomToSettle pair_machine (BothHaveRoom r b IsNumber HasRoom) (sent_up text more (settled (pair_step r b) w))

    -- A part of a run may come: a frame is the root's or the attached session's; an attach comes where none is attached, a detach where
    -- its session is; and there is room before each step.
    abbrev pub MayPassPair : {L : Type 0} → PairPassage X N → World (ClientPair P C) N L → Type 0
    MayPassPair (passing p) w = MayPass pair_machine (BothHaveRoom r b IsNumber HasRoom) NextIsCalm (λ n. IsTurn) p w
    MayPassPair (targeting text more) w = MayTargetNext text more w

    -- each of some parts may come when its turn is
    abbrev pub MayPassPairAll : {L : Type 0} → List (PairPassage X N) → World (ClientPair P C) N L → Type 0
    MayPassPairAll [] w = ⊤
    MayPassPairAll (p ∷ ps) w = MayPassPair p w × MayPassPairAll ps (after_pair_passage p w)

module _ {V E A P C D X T : Type 0} (r : FrontReads V E A T) (b : ClientSteps P C D X T) (IsNumber : ℕ → Type 0)
    (Shows : V → P → C → List A → Type 0) where
  -- the two whole streams, folded into two front ends, meet no fault, and these show the two sessions
  abbrev pub PairFits : {N L : Type 0} → (List ℕ → Type 0) → World (ClientPair P C) N L → Type 0
  PairFits MaySend w = Fits (take_pair r) (join_pair r) (λ n. Calm r b IsNumber Shows MaySend) (first_pair r) w

  -- A second front end stands just where a session is attached, shows it, and waits for no answer.
  pub data SecondShows (side : P) (second : C) : Option (Second V T) → Option ℕ → Type 0 where
    no_second : SecondShows side second None None
    one_second : (k : ℕ) (v : V) → Shows v side second [] → SecondShows side second (Some (record { text = b.text_of k; value = v }))
        (Some k)

  -- The two whole streams, folded into two front ends, meet no fault; both show their sessions, and nothing waits for an answer.
  pub record BothShown {N L : Type 0} (w : World (ClientPair P C) N L) : Type 0 where
    pub fronts : FrontPair V A T
    pub is_fold : folded (take_pair r) (asks_joined (join_pair r) (first_pair r) (frames_of (sent w.up)).whole)
        (frames_of (sent w.down)).whole
        ≡ Ok fronts
    pub first_shows : Shows fronts.one w.state.side w.state.root []
    pub second_shows : SecondShows w.state.side w.state.second fronts.two w.state.attached
    pub none_waits : fronts.waiting ≡ []
