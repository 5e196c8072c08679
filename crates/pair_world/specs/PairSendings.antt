-- What each of two front ends may send next, and whether there are ids for it.
use Rattle.std.specs.Prelude.{ℕ, ◌+◌, ◌<◌, ◌≤◌, Bool, true, false, List, [], Option, Some, None}
use Rattle.node_tree.specs.Numbers.{first_fetch, counted_limit}
use Rattle.cdp_messages.specs.Asked.{command_text}
use Rattle.replay_script.specs.Forms.{AskForm}
use Rattle.replay_script.specs.PairLines.{may_ask, may_ask_second}
use Rattle.session_mux.specs.Sessions.{session_text}
use Rattle.session_runs.specs.Fetches.{Fetcher}
use Rattle.inspect_world.specs.Fits.{most_fetches}
use Rattle.pair_world.specs.PairRuns.{PairSpent, PairRun, asks_on, next_target}
use Rattle.pair_world.specs.PairScripts.{session_on}
use Rattle.pair_world.specs.PairFresh.{FrontValues, first_fetcher, second_fetcher}

-- the front end that is meant may send the ask
abbrev pub may_ask_on : Bool → AskForm → Bool
may_ask_on false a = may_ask a
may_ask_on true a = may_ask_second a

-- its next ask, in its session if it has one
abbrev pub next_ask_text : Bool → AskForm → PairRun → List ℕ
next_ask_text second a w = command_text (asks_on second w.spent + 1) a.method a.params (session_on second w.state.attached)

-- the text of the session that is attached; none has the empty one
abbrev pub attached_text : Option ℕ → List ℕ
attached_text None = []
attached_text (Some k) = session_text k

-- The fetches of the front end that is meant, while that session is attached.
abbrev pub fetcher_on : Bool → Option ℕ → Option (Fetcher FrontValues PairSpent)
fetcher_on false attached = Some first_fetcher
fetcher_on true None = None
fetcher_on true (Some k) = Some (second_fetcher k)

-- where no second front end stands, nothing is fetched for it
abbrev pub by_fetcher : Option (Fetcher FrontValues PairSpent) → (Fetcher FrontValues PairSpent → PairRun → PairRun) → PairRun → PairRun
by_fetcher None f w = w
by_fetcher (Some fetcher) f w = f fetcher w

-- There are ids for one ask more of each front end, for one attach or detach more, and for all fetches that a run makes.
pub record PairHasIds (n : PairSpent) : Type 0 where
  pub asks : n.asks + 1 < first_fetch
  pub second_asks : n.second_asks + 1 < first_fetch
  pub fetches : n.fetches ≤ most_fetches
  pub second_fetches : n.second_fetches ≤ most_fetches
  pub targets : next_target n < counted_limit
