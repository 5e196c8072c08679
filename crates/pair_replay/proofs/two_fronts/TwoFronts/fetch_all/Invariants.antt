-- The texts so far were fetched, and those that are left take the run to where all take it.
use Rattle.std.proofs.Common.{◌≡◌, ◌≤◌, ◌+◌, length, drop}
use Rattle.pipe_frames.specs.Pipe.{Pipe}
use Rattle.session_runs.specs.Fetches.{all_fetched}
use Rattle.session_runs.specs.Agreement.{IsAtRest}
use Rattle.inspect_world.specs.Fits.{most_fetches}
use Rattle.pair_world.specs.PairLinks.{PairStarted}
use Rattle.pair_world.specs.PairRuns.{PairRun, fetches_on}
use Rattle.pair_world.specs.PairFresh.{pair_runner, no_fronts}
use Rattle.pair_world.specs.PairHeld.{calm}
use Rattle.replay_parts.specs.Moments.{moment}
use Rattle.pair_replay.specs.Following.{FollowsPairRun}
use Rattle.pair_replay.specs.Running.{InPairRun, PairHasIds, fetcher_on, by_fetcher, room_by, AllHaveRoom}
use Rattle.pair_replay.proofs.FetchTurns.{Fetching}
use Rattle.pair_replay.proofs.two_fronts.TwoFronts.fetch_all.Given as goal

abbrev pub invariant-loop-number : goal.invariant-loop-number
invariant-loop-number g l =
    (g.L.Link.honest l.initial.link → g.L.Link.honest l.link)
    × (g.L.Link.faults l.link ≡ g.L.Link.faults l.initial.link)
    × ((up0 down0 : Pipe) (w : PairRun) → PairHasIds w.spent → fetches_on l.second w.spent + length l.numbers ≤ most_fetches → IsAtRest w
    → InPairRun calm (g.L.Link.honest l.initial.link) up0 down0 (g.L.Link.up l.initial.link) (g.L.Link.down l.initial.link) w l.initial.self
    → Fetching l.second (fetcher_on l.second w.state.attached)
    (by_fetcher (fetcher_on l.second w.state.attached) (λ fetcher v. all_fetched pair_runner fetcher no_fronts l.numbers v) w)
    (room_by (fetcher_on l.second w.state.attached) (λ fetcher v. AllHaveRoom fetcher l.numbers v) w) up0 down0
    (drop l.number-index l.numbers)
    (moment (g.L.Link.honest l.link) (g.L.Link.up l.link) (g.L.Link.down l.link) l.self))
    × ((start : PairStarted) (up0 down0 : Pipe)
    → FollowsPairRun start up0 down0 (g.L.Link.up l.initial.link) (g.L.Link.down l.initial.link) l.initial.self
    → FollowsPairRun start up0 down0 (g.L.Link.up l.link) (g.L.Link.down l.link) l.self)
