-- The laws of runs, over any machine: what ties a front end to a state stands in them as tests.
use Rattle.std.specs.Prelude.{◌≡◌, ℕ, ◌+◌, ◌≤◌, Bool, true, List, [], take, ⊤, Ok}
use Rattle.session_runs.specs.World.{World, first_world, settled}
use Rattle.session_runs.specs.Fold.{Machine, Laws, Fits}
use Rattle.session_runs.specs.Fetches.{Fetcher, front_in, refreshed, refreshed_both, FetchLaws}
use Rattle.session_runs.specs.Agreement.{RunTogether}
use Rattle.session_runs.specs.Passages.{Passage, sending, turning, delivering_up, delivering_down, settling, after_passage, after_passages}
use Rattle.session_runs.specs.Passages.{RoomToSettle, MayPass, MayPassAll}

-- What ties a front end to a state, as tests: whether a step may be made, a text be sent, the script make a step, and whether a front
-- end fits a state while some frames are not answered.
pub record Tests (S F X N : Type 0) : Type 0 where
  pub has_room : S → Bool
  pub is_next : N → S → List (List ℕ) → List ℕ → N → Bool
  pub is_turn : N → X → Bool
  pub fits : N → F → S → List (List ℕ) → Bool

-- a step may be made
abbrev pub HasRoomBy : {S F X N : Type 0} → Tests S F X N → S → Type 0
HasRoomBy t state = t.has_room state ≡ true

-- a text may be sent
abbrev pub IsNextBy : {S F X N : Type 0} → Tests S F X N → N → S → List (List ℕ) → List ℕ → N → Type 0
IsNextBy t n state frames text m = t.is_next n state frames text m ≡ true

-- the script may make a step
abbrev pub IsTurnBy : {S F X N : Type 0} → Tests S F X N → N → X → Type 0
IsTurnBy t n x = t.is_turn n x ≡ true

-- a front end fits a state
abbrev pub FitBy : {S F X N : Type 0} → Tests S F X N → N → F → S → List (List ℕ) → Type 0
FitBy t n front state frames = t.fits n front state frames ≡ true

-- a machine that keeps the laws of a run, by these tests
abbrev pub LawsBy : {S F E X N : Type 0} → Machine S F E X N → Tests S F X N → Type 0
LawsBy machine t = Laws machine (HasRoomBy t) (IsNextBy t) (IsTurnBy t) (FitBy t)

-- the whole streams of a run, folded, fit its state
abbrev pub FitsBy : {S F E X N L : Type 0} → Machine S F E X N → Tests S F X N → F → World S N L → Type 0
FitsBy machine t start w = Fits machine.take machine.join (FitBy t) start w

-- a part of a run may come
abbrev pub MayPassBy : {S F E X N L : Type 0} → Machine S F E X N → Tests S F X N → Passage X N → World S N L → Type 0
MayPassBy machine t p w = MayPass machine (HasRoomBy t) (IsNextBy t) (IsTurnBy t) p w

-- ---- one run

-- A run begins with a front end that fits.
abbrev pub StartsFit : Type 0 → Type 0 → Type 0 → Type 0 → Type 0 → Type 0 → Type 0
StartsFit S F E X N L = (machine : Machine S F E X N) (t : Tests S F X N) → LawsBy machine t → (start : F) (nothing : N) (told : L)
    (state : S)
    → t.fits nothing start state [] ≡ true → FitsBy machine t start (first_world nothing told state)

-- After any number of parts of a run, each of which may come, the whole streams, folded, meet no fault and fit the state.
abbrev pub PassagesFit : Type 0 → Type 0 → Type 0 → Type 0 → Type 0 → Type 0 → Type 0
PassagesFit S F E X N L = (machine : Machine S F E X N) (t : Tests S F X N) → LawsBy machine t → (start : F) (w : World S N L)
    → FitsBy machine t start w → (ps : List (Passage X N))
    → MayPassAll machine (HasRoomBy t) (IsNextBy t) (IsTurnBy t) ps w
    → (n : ℕ) → FitsBy machine t start (after_passages machine (take n ps) w)

-- what came down was folded into a front end that fits the state and waits for nothing
pub record ShowsAtRest {S F E X N L : Type 0} (machine : Machine S F E X N) (t : Tests S F X N) (start : F) (w : World S N L) : Type 0 where
  pub front : F
  pub front_is : front_in machine start w ≡ Ok front
  pub fit : t.fits w.spent front w.state [] ≡ true

-- Once all that is on its way has come, the front end fits the state and waits for nothing.
abbrev pub SettlesShow : Type 0 → Type 0 → Type 0 → Type 0 → Type 0 → Type 0 → Type 0
SettlesShow S F E X N L = (machine : Machine S F E X N) (t : Tests S F X N) → LawsBy machine t → (start : F) (w : World S N L)
    → FitsBy machine t start w → RoomToSettle machine (HasRoomBy t) w → ShowsAtRest machine t start (settled machine.step w)

-- ---- a run with fetches beside one without

-- How the front ends of two runs are compared: what counts but for fetches, what a front end shows without its sheets, what other
-- fetches are about, and which frames are no fetches.
pub record Compared (F N A M R : Type 0) : Type 0 where
  pub plainly : N → M
  pub seen : F → A
  pub rest : F → R
  pub is_plain : List ℕ → Bool

-- fetches that keep their laws; a page has so many sheets at most, and a run makes so many fetches at most
abbrev pub FetchLawsBy : {S F E X N A M R : Type 0} → Machine S F E X N → Tests S F X N → Fetcher F N → Compared F N A M R → ℕ → ℕ → Type 0
FetchLawsBy machine t fetcher c sheets most =
    FetchLaws machine (HasRoomBy t) (IsNextBy t) (FitBy t) c.plainly fetcher c.seen c.rest sheets most

-- two runs that go together
abbrev pub TogetherBy : {S F E X N L A M R : Type 0} → Machine S F E X N → Tests S F X N → Compared F N A M R → F → World S N L
    → World S N L
    → Type 0
TogetherBy machine t c start w v = RunTogether machine c.plainly (FitBy t) start c.seen (λ frame. c.is_plain frame ≡ true) w v

-- the run with fetches after a part: each settle fetches
abbrev pub fresh_passage : {S F E X N L : Type 0} → Machine S F E X N → Fetcher F N → F → Passage X N → World S N L → World S N L
fresh_passage machine fetcher start (sending text more) w = after_passage machine (sending text more) w
fresh_passage machine fetcher start (turning x) w = after_passage machine (turning x) w
fresh_passage machine fetcher start (delivering_up n) w = after_passage machine (delivering_up n) w
fresh_passage machine fetcher start (delivering_down n) w = after_passage machine (delivering_down n) w
fresh_passage machine fetcher start settling w = refreshed machine fetcher start w

-- What a part asks for beside this: a frame is no fetch, and is counted in both runs alike; before a settle fetches are left for all
-- sheets of a page, and once all has come there is room for a step.
abbrev pub MayPassFresh : {S F E X N L A M R : Type 0} → Machine S F E X N → Tests S F X N → Fetcher F N → Compared F N A M R → ℕ → ℕ
    → Passage X N → World S N L → World S N L → Type 0
MayPassFresh machine t fetcher c sheets most (sending text more) w v =
    (c.is_plain text ≡ true) × (c.plainly (more w.spent) ≡ c.plainly (more v.spent))
MayPassFresh machine t fetcher c sheets most (turning x) w v = ⊤
MayPassFresh machine t fetcher c sheets most (delivering_up n) w v = ⊤
MayPassFresh machine t fetcher c sheets most (delivering_down n) w v = ⊤
MayPassFresh machine t fetcher c sheets most settling w v =
    (fetcher.count v.spent + sheets ≤ most) × (t.has_room (settled machine.step v).state ≡ true)

-- Two runs that go together go on together, as one of them fetches and the other does not.
abbrev pub PassagesTogether : Type 0 → Type 0 → Type 0 → Type 0 → Type 0 → Type 0 → Type 0 → Type 0 → Type 0 → Type 0
PassagesTogether S F E X N L A M R = (machine : Machine S F E X N) (t : Tests S F X N) → LawsBy machine t
    → (fetcher : Fetcher F N) (c : Compared F N A M R) (sheets most : ℕ) → FetchLawsBy machine t fetcher c sheets most
    → (start : F) (w v : World S N L) → TogetherBy machine t c start w v
    → (p : Passage X N) → MayPassBy machine t p w → MayPassBy machine t p v → MayPassFresh machine t fetcher c sheets most p w v
    → TogetherBy machine t c start (after_passage machine p w) (fresh_passage machine fetcher start p v)

-- what came down was folded into a front end that fits the state, waits for nothing, and has no old text
pub record ShowsFreshly {S F E X N L : Type 0} (machine : Machine S F E X N) (t : Tests S F X N) (fetcher : Fetcher F N) (start : F)
    (w : World S N L) : Type 0 where
  pub front : F
  pub front_is : front_in machine start w ≡ Ok front
  pub fit : t.fits w.spent front w.state [] ≡ true
  pub fresh : fetcher.stale front ≡ []

-- Once a settle has fetched, no text is old.
abbrev pub SettlesRefresh : Type 0 → Type 0 → Type 0 → Type 0 → Type 0 → Type 0 → Type 0 → Type 0 → Type 0 → Type 0
SettlesRefresh S F E X N L A M R = (machine : Machine S F E X N) (t : Tests S F X N) → LawsBy machine t
    → (fetcher : Fetcher F N) (c : Compared F N A M R) (sheets most : ℕ) → FetchLawsBy machine t fetcher c sheets most
    → (start : F) (w v : World S N L) → TogetherBy machine t c start w v
    → MayPassBy machine t settling w → MayPassBy machine t settling v → MayPassFresh machine t fetcher c sheets most settling w v
    → ShowsFreshly machine t fetcher start (refreshed machine fetcher start v)

-- what came down was folded into a front end that fits the state, waits for nothing, and has no old text of either kind
pub record ShowsBothFreshly {S F E X N L : Type 0} (machine : Machine S F E X N) (t : Tests S F X N) (one two : Fetcher F N) (start : F)
    (w : World S N L) : Type 0 where
  pub front : F
  pub front_is : front_in machine start w ≡ Ok front
  pub fit : t.fits w.spent front w.state [] ≡ true
  pub fresh : one.stale front ≡ []
  pub fresh_two : two.stale front ≡ []

-- Once a settle has fetched by one fetcher, and then by another whose answers leave what the first would fetch, no text of either is old.
abbrev pub SettlesRefreshBoth : Type 0 → Type 0 → Type 0 → Type 0 → Type 0 → Type 0 → Type 0 → Type 0 → Type 0 → Type 0
SettlesRefreshBoth S F E X N L A M R = (machine : Machine S F E X N) (t : Tests S F X N) → LawsBy machine t
    → (one two : Fetcher F N) (c : Compared F N A M R) (sheets most : ℕ) → FetchLawsBy machine t one c sheets most
    → FetchLaws machine (HasRoomBy t) (IsNextBy t) (FitBy t) c.plainly two c.seen one.stale sheets most
    → (start : F) (w v : World S N L) → TogetherBy machine t c start w v
    → MayPassBy machine t settling w → MayPassBy machine t settling v → MayPassFresh machine t one c sheets most settling w v
    → two.count (refreshed machine one start v).spent + sheets ≤ most
    → ShowsBothFreshly machine t one two start (refreshed_both machine one two start v)
