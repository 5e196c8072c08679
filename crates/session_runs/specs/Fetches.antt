-- The fetches of a settle. Once all that is on its way has come, the front end asks for each text that it lacks or knows to be
-- old, one after the other; each ask and its answer are delivered before the next.
use Rattle.std.specs.Prelude.{◌≡◌, ◌≤◌, ℕ, ◌+◌, Bool, true, cond, List, [], ◌∷◌, length, Result, Ok, Err}
use Rattle.pipe_frames.specs.Frames.{IsText, frames_of}
use Rattle.session_runs.specs.Stream.{sent}
use Rattle.session_runs.specs.World.{World, sent_up, settled}
use Rattle.session_runs.specs.Fold.{folded, asks_joined, Machine}

-- What a settle has to know of a front end: the numbers of the sheets without a fresh text, in their order; whether a sheet of
-- that number is known; the text of the fetch of a sheet, by how many fetches were made before and the sheet's number; how many were
-- made, and how one more is counted.
pub record Fetcher (F N : Type 0) : Type 0 where
  pub stale : F → List ℕ
  pub knows : F → ℕ → Bool
  pub text : ℕ → ℕ → List ℕ
  pub count : N → ℕ
  pub one_more : N → N

-- What the front end has come to: it has sent the whole up stream, and has taken what was given of the down stream.
abbrev pub front_in : {S F E X N L : Type 0} → Machine S F E X N → F → World S N L → Result F E
front_in machine start w =
    folded machine.take (asks_joined machine.join start (frames_of (sent w.up)).whole) (frames_of w.down.given).whole

-- a text is fetched: the fetch is sent, and all that is on its way is delivered
abbrev pub fetched : {S F E X N L : Type 0} → Machine S F E X N → Fetcher F N → ℕ → World S N L → World S N L
fetched machine fetcher number w = settled machine.step (sent_up (fetcher.text (fetcher.count w.spent) number) fetcher.one_more w)

-- the text of a sheet that the front end still knows is fetched; another is passed over
abbrev pub fetched_if : {S F E X N L : Type 0} → Machine S F E X N → Fetcher F N → Result F E → ℕ → World S N L → World S N L
fetched_if machine fetcher (Ok front) number w = cond (fetcher.knows front number) (fetched machine fetcher number w) w
fetched_if machine fetcher (Err fault) number w = w

-- the texts of some sheets are fetched, one after the other
abbrev pub all_fetched : {S F E X N L : Type 0} → Machine S F E X N → Fetcher F N → F → List ℕ → World S N L → World S N L
all_fetched machine fetcher start [] w = w
all_fetched machine fetcher start (number ∷ numbers) w =
    all_fetched machine fetcher start numbers (fetched_if machine fetcher (front_in machine start w) number w)

-- the sheets that a front end would fetch
abbrev pub stale_in : {F E N : Type 0} → Fetcher F N → Result F E → List ℕ
stale_in fetcher (Ok front) = fetcher.stale front
stale_in fetcher (Err fault) = []

-- A whole settle: all is delivered, and then the sheets without a fresh text are fetched. Which these are is found before the
-- first fetch.
abbrev pub refreshed : {S F E X N L : Type 0} → Machine S F E X N → Fetcher F N → F → World S N L → World S N L
refreshed machine fetcher start w =
    let after = settled machine.step w in
    all_fetched machine fetcher start (stale_in fetcher (front_in machine start after)) after

-- ---- what the fetches need of the messages

-- A fetch is due: the front end fits the state, no frame waits, the sheet is the first without a fresh text, and there is room
-- for one fetch more.
pub record IsDue {S F N : Type 0} (Fit : N → F → S → List (List ℕ) → Type 0) (fetcher : Fetcher F N) (most : ℕ)
    (n : N) (front : F) (state : S) (number : ℕ) (numbers : List ℕ) : Type 0 where
  pub fit : Fit n front state []
  pub first : fetcher.stale front ≡ number ∷ numbers
  pub left : fetcher.count n + 1 ≤ most

-- The answer to a fetch leaves the state as it is; the front end shows the same, and the sheet has a fresh text.
pub record GivesText {S F A N R : Type 0} (fetcher : Fetcher F N) (seen : F → A) (rest : F → R) (before after : F) (state state1 : S)
    (numbers : List ℕ) : Type 0 where
  pub state_is : state1 ≡ state
  pub left : fetcher.stale after ≡ numbers
  pub same : seen after ≡ seen before
  -- what other fetches are about is as it was
  pub others : rest after ≡ rest before

-- What ties fetches to a run. `seen front` is what a front end shows without its sheets; `sheets` is how many of these a page
-- has at most, and `most` how many fetches a run makes at most.
pub record FetchLaws {S F E X A N M R : Type 0} (machine : Machine S F E X N) (HasRoom : S → Type 0)
    (IsNext : N → S → List (List ℕ) → List ℕ → N → Type 0) (Fit : N → F → S → List (List ℕ) → Type 0) (plainly : N → M)
    (fetcher : Fetcher F N) (seen : F → A) (rest : F → R) (sheets most : ℕ) : Type 0 where
  -- a fetch is counted, and counts for nothing else
  pub counts : (n : N) → fetcher.count (fetcher.one_more n) ≡ fetcher.count n + 1
  pub plain : (n : N) → plainly (fetcher.one_more n) ≡ plainly n
  -- a step of the script is none
  pub turns : (n m : N) → plainly n ≡ plainly m → plainly (machine.one_turn n) ≡ plainly (machine.one_turn m)
  -- fronts that show the same, and both take a message, show the same then
  pub takes : (v w v1 w1 : F) (frame : List ℕ) → seen v ≡ seen w → machine.take v frame ≡ Ok v1 → machine.take w frame ≡ Ok w1
      → seen v1 ≡ seen w1
  -- and so do those that send the same
  pub joins : (v w : F) (ask : List ℕ) → seen v ≡ seen w → seen (machine.join v ask) ≡ seen (machine.join w ask)
  -- a front end has no more sheets than a page
  pub few : (n : N) (front : F) (state : S) (frames : List (List ℕ)) → Fit n front state frames → length (fetcher.stale front) ≤ sheets
  -- a sheet without a fresh text is known
  pub known : (front : F) (number : ℕ) (numbers : List ℕ) → fetcher.stale front ≡ number ∷ numbers → fetcher.knows front number ≡ true
  -- a fetch that is due is a text that may be sent
  pub letters : (n : N) (front : F) (state : S) (number : ℕ) (numbers : List ℕ)
      → IsDue Fit fetcher most n front state number numbers → IsText (fetcher.text (fetcher.count n) number)
  pub next : (n : N) (front : F) (state : S) (number : ℕ) (numbers : List ℕ) → HasRoom state
      → IsDue Fit fetcher most n front state number numbers → IsNext n state [] (fetcher.text (fetcher.count n) number) (fetcher.one_more n)
  -- and what the state answers gives the text
  pub answer : (n : N) (front after : F) (state : S) (number : ℕ) (numbers : List ℕ) → HasRoom state
      → IsDue Fit fetcher most n front state number numbers
      → folded machine.take (machine.join front (fetcher.text (fetcher.count n) number))
      (frames_of (machine.step state (fetcher.text (fetcher.count n) number)).sent).whole ≡ Ok after
      → GivesText fetcher seen rest front after state (machine.step state (fetcher.text (fetcher.count n) number)).state numbers

-- A settle of two front ends: the texts of the first are fetched, and then those of the second.
abbrev pub refreshed_both : {S F E X N L : Type 0} → Machine S F E X N → Fetcher F N → Fetcher F N → F → World S N L → World S N L
refreshed_both machine one two start w =
    let after = refreshed machine one start w in
    all_fetched machine two start (stale_in two (front_in machine start after)) after
