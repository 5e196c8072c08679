-- Who was told what says nothing of how a run goes on.
use Rattle.std.proofs.Common.{◌≡◌, ℕ, List, [], ◌∷◌, Bool, true, false, cond, Option, Some, None, refl, ◌∙◌, ap, Result, Ok, Err}
use Rattle.front_mirror.specs.declared.faults.FrontKind.{FrontKind}
use Rattle.session_runs.specs.Fetches.{Fetcher, front_in, fetched, fetched_if, all_fetched, stale_in, refreshed}
use Rattle.pair_world.specs.PairRuns.{PairSpent, PairAudience, PairRun, pair_settled}
use Rattle.pair_world.specs.PairScripts.{pair_telling}
use Rattle.pair_world.specs.PairFresh.{FrontValues, pair_runner, no_fronts, first_fetcher, second_fetcher, second_fetched, pair_refreshes}
use Rattle.pair_world.specs.PairFresh.{SettleHasRoom, FetchesHaveRoom, SecondFetchesHaveRoom}
use Rattle.pair_world.specs.PairFresh.{RefreshHasRoom}

module _ (told : PairAudience) where
  if-telling : (fetcher : Fetcher FrontValues PairSpent) (r : Result FrontValues FrontKind) (number : ℕ) (v : PairRun)
      → fetched_if pair_runner fetcher r number (pair_telling told v) ≡ pair_telling told (fetched_if pair_runner fetcher r number v)
  if-telling fetcher (Ok front) number v =
      elim (fetcher.knows front number) as (λ (b : Bool).
      cond b (fetched pair_runner fetcher number (pair_telling told v)) (pair_telling told v)
      ≡ pair_telling told (cond b (fetched pair_runner fetcher number v) v)) [
        | true ↦ refl
        | false ↦ refl
      ]
  if-telling fetcher (Err fault) number v = refl

  all-telling : (fetcher : Fetcher FrontValues PairSpent) (numbers : List ℕ) (v : PairRun)
      → all_fetched pair_runner fetcher no_fronts numbers (pair_telling told v)
      ≡ pair_telling told (all_fetched pair_runner fetcher no_fronts numbers v)
  all-telling fetcher [] v = refl
  all-telling fetcher (number ∷ numbers) v =
      ap (all_fetched pair_runner fetcher no_fronts numbers) (if-telling fetcher (front_in pair_runner no_fronts v) number v)
      ∙ all-telling fetcher numbers (fetched_if pair_runner fetcher (front_in pair_runner no_fronts v) number v)

  first-telling : (v : PairRun)
      → refreshed pair_runner first_fetcher no_fronts (pair_telling told v)
      ≡ pair_telling told (refreshed pair_runner first_fetcher no_fronts v)
  first-telling v =
      all-telling first_fetcher (stale_in first_fetcher (front_in pair_runner no_fronts (pair_settled v))) (pair_settled v)

  second-telling : (attached : Option ℕ) (v : PairRun)
      → second_fetched attached (pair_telling told v) ≡ pair_telling told (second_fetched attached v)
  second-telling None v = refl
  second-telling (Some k) v =
      all-telling (second_fetcher k) (stale_in (second_fetcher k) (front_in pair_runner no_fronts v)) v

  -- a settle with its fetches
  pub refresh-telling : (v : PairRun) → pair_refreshes (pair_telling told v) ≡ pair_telling told (pair_refreshes v)
  refresh-telling v =
      let first = refreshed pair_runner first_fetcher no_fronts v in
      ap (λ (x : PairRun). second_fetched x.state.attached x) (first-telling v) ∙ second-telling first.state.attached first

  second-room : (attached : Option ℕ) (v : PairRun)
      → ◌≡◌ {A = Type 0} (SecondFetchesHaveRoom attached (pair_telling told v)) (SecondFetchesHaveRoom attached v)
  second-room None v = refl
  second-room (Some k) v = refl

  -- and the room that it asks for
  pub room-telling : (v : PairRun) → ◌≡◌ {A = Type 0} (RefreshHasRoom (pair_telling told v)) (RefreshHasRoom v)
  room-telling v =
      let first = refreshed pair_runner first_fetcher no_fronts v in
      ap (λ (x : PairRun). SettleHasRoom v × FetchesHaveRoom first_fetcher (pair_settled v) × SecondFetchesHaveRoom x.state.attached x)
      (first-telling v)
      ∙ ap (λ (R : Type 0). SettleHasRoom v × FetchesHaveRoom first_fetcher (pair_settled v) × R) (second-room first.state.attached first)
