-- The law of two front ends, over any protocol of one client: what ties one front end to one client stands in it as tests.
use Rattle.std.specs.Prelude.{◌≡◌, ℕ, Bool, true, List, [], take, None}
use Rattle.session_runs.specs.World.{World, first_world, settled}
use Rattle.session_runs.specs.Passages.{RoomToSettle}
use Rattle.session_runs.specs.Pairs.{FrontReads, ClientPair, client_pair, ClientSteps, pair_step}
use Rattle.session_runs.specs.PairFit.{ReadLaws, ClientLaws, BothHaveRoom}
use Rattle.session_runs.specs.PairRuns.{PairPassage, pair_machine, after_pair_passages, MayPassPairAll, PairFits, BothShown}

-- What ties a front end to a client, as tests: whether a client has room, a number may be one of a session, a frame may be sent, the script
-- may make a step, what a step is to the page leads the page's side there, and a front end shows a client and waits for some asks alone.
pub record ClientTests (V A P C D X : Type 0) : Type 0 where
  pub has_room : P → C → Bool
  pub is_number : ℕ → Bool
  pub may_send : List ℕ → Bool
  pub is_turn : X → Bool
  pub is_outward : P → D → P → Bool
  pub shows : V → P → C → List A → Bool

module _ {V A P C D X : Type 0} (t : ClientTests V A P C D X) where
  -- a client has room
  abbrev pub ClientHasRoom : P → C → Type 0
  ClientHasRoom side client = t.has_room side client ≡ true

  -- a number may be one of a session
  abbrev pub IsNumberBy : ℕ → Type 0
  IsNumberBy k = t.is_number k ≡ true

  -- a frame may be sent
  abbrev pub MaySendBy : List ℕ → Type 0
  MaySendBy text = t.may_send text ≡ true

  -- the script may make a step
  abbrev pub MayTurnBy : X → Type 0
  MayTurnBy x = t.is_turn x ≡ true

  -- what a step is to the page leads the page's side there
  abbrev pub IsOutwardBy : P → D → P → Type 0
  IsOutwardBy side d after = t.is_outward side d after ≡ true

  -- a front end shows a client
  abbrev pub ShowsBy : V → P → C → List A → Type 0
  ShowsBy v side client asks = t.shows v side client asks ≡ true

-- what one front end and one client keep, by these tests
abbrev pub ClientLawsBy : {V E A P C D X T : Type 0} → FrontReads V E A T → ClientSteps P C D X T → ClientTests V A P C D X → Type 0
ClientLawsBy r b t =
    ReadLaws r × ClientLaws r b (IsNumberBy t) (ClientHasRoom t) (MaySendBy t) (MayTurnBy t) (IsOutwardBy t) (ShowsBy t)

-- the two whole streams, folded into two front ends, meet no fault, and these show the two sessions
abbrev pub PairFitsBy : {V E A P C D X T N L : Type 0} → FrontReads V E A T → ClientSteps P C D X T → ClientTests V A P C D X
    → World (ClientPair P C) N L → Type 0
PairFitsBy r b t w = PairFits r b (IsNumberBy t) (ShowsBy t) (MaySendBy t) w

-- A run of two sessions begins with one client, where a front end that has taken nothing shows one that knows nothing.
abbrev pub PairsStart : Type 0 → Type 0 → Type 0 → Type 0 → Type 0 → Type 0 → Type 0 → Type 0 → Type 0 → Type 0 → Type 0
PairsStart V E A P C D X T N L = (r : FrontReads V E A T) (b : ClientSteps P C D X T) (t : ClientTests V A P C D X) → ClientLawsBy r b t
    → (one_turn : N → N) (nothing : N) (told : L) (side : P) → t.shows r.begin side b.fresh [] ≡ true
    → PairFitsBy r b t (first_world nothing told (client_pair side b.fresh b.fresh None 1))

-- After any number of parts of a run, each of which may come, both front ends show their sessions.
abbrev pub PairPassagesFit : Type 0 → Type 0 → Type 0 → Type 0 → Type 0 → Type 0 → Type 0 → Type 0 → Type 0 → Type 0 → Type 0
PairPassagesFit V E A P C D X T N L = (r : FrontReads V E A T) (b : ClientSteps P C D X T) (t : ClientTests V A P C D X)
    → ClientLawsBy r b t → (one_turn : N → N) (w : World (ClientPair P C) N L) → PairFitsBy r b t w → (ps : List (PairPassage X N))
    → MayPassPairAll r b one_turn (IsNumberBy t) (ClientHasRoom t) (MaySendBy t) (MayTurnBy t) ps w
    → (n : ℕ) → PairFitsBy r b t (after_pair_passages r b one_turn (take n ps) w)

-- Once all that is on its way has come, both front ends show their sessions, and nothing waits for an answer.
abbrev pub PairSettlesShow : Type 0 → Type 0 → Type 0 → Type 0 → Type 0 → Type 0 → Type 0 → Type 0 → Type 0 → Type 0 → Type 0
PairSettlesShow V E A P C D X T N L = (r : FrontReads V E A T) (b : ClientSteps P C D X T) (t : ClientTests V A P C D X)
    → ClientLawsBy r b t → (one_turn : N → N) (w : World (ClientPair P C) N L) → PairFitsBy r b t w
    → RoomToSettle (pair_machine r b one_turn) (BothHaveRoom r b (IsNumberBy t) (ClientHasRoom t)) w
    → BothShown r b (IsNumberBy t) (ShowsBy t) (settled (pair_step r b) w)
