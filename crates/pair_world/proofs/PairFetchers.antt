-- The front end that is meant, where it stands, lacks and knows the sheets that the run's fetches are about.
use Rattle.std.proofs.Common.{◌≡◌, ℕ, Bool, true, false, cond, List, [], Option, Some, refl, sym, ◌∙◌, ap, option_map}
use Rattle.std.specs.Prelude.{unwrap_or}
use Rattle.std.proofs.lemmas.Slice.Eq.{bytes_eq-Decides}
use Rattle.pipe_frames.specs.Pipe.{Pipe}
use Rattle.front_mirror.specs.Front.{FrontValue, FrontState}
use Rattle.front_mirror.specs.Sheets.{has_sheet, stale_of}
use Rattle.session_mux.specs.Sessions.{session_text}
use Rattle.session_runs.specs.Fetches.{Fetcher}
use Rattle.session_runs.specs.Pairs.{Second}
use Rattle.multi_replay.specs.States.{StatePair, is_there, front_meant}
use Rattle.multi_replay.specs.Laws.{second_value, pair_value}
use Rattle.pair_world.specs.PairRuns.{PairSpent, PairRun}
use Rattle.pair_world.specs.PairFresh.{FrontValues, first_fetcher, second_fetcher, of_second_session}
use Rattle.pair_world.specs.PairHeld.{PairEnds, calm, InPairWorld}
use Rattle.pair_world.specs.PairSendings.{fetcher_on}
use Rattle.pair_world.proofs.PairKnown.{second-is}

-- the fetches of that front end, which lacks and knows just the sheets that they fetch
pub record FetcherIs (second : Bool) (attached : Option ℕ) (values : FrontValues) (p : StatePair) : Type 0 where
  pub fetcher : Fetcher FrontValues PairSpent
  pub is : fetcher_on second attached ≡ Some fetcher
  pub knows : (sheet : ℕ) → fetcher.knows values sheet ≡ has_sheet sheet (front_meant second p).value.sheets
  pub stale : fetcher.stale values ≡ stale_of (front_meant second p).value.sheets

-- what is asked of the second front end in its session is asked of its value
second-asked : {A : Type 0} (t : List ℕ) (f : FrontValue → A) (other : A) (p : StatePair) (v : Second FrontState (List ℕ)) → p.two ≡ Some v
    → v.text ≡ t → of_second_session t f other (option_map second_value p.two) ≡ f (front_meant true p).value
second-asked t f other p v stands text =
    ap (λ o. of_second_session t f other (option_map second_value o)) stands
    ∙ ap (λ b. cond b (f v.value.value) other) ((bytes_eq-Decides v.text t).1 text)
    ∙ ap (λ o. f (unwrap_or (option_map (λ (x : Second FrontState (List ℕ)). x.value) o) p.one).value) (sym stands)
