-- The texts so far were fetched, and those that are left take the run to where all take it.
use Rattle.std.proofs.Common.{◌≡◌, ◌≤◌, ◌+◌, [], length, drop}
use Rattle.pipe_frames.specs.Pipe.{Pipe}
use Rattle.front_mirror.specs.Front.{first_value}
use Rattle.inspect_world.specs.World.{World}
use Rattle.session_runs.specs.Fetches.{all_fetched}
use Rattle.inspect_world.specs.Fits.{most_fetches, replay}
use Rattle.inspect_world.specs.FreshRuns.{front_fetcher}
use Rattle.inspect_world.specs.RunStates.{RunState}
use Rattle.inspect_world.specs.Links.{Started}
use Rattle.inspect_replay.specs.Followed.{FollowsRun}
use Rattle.inspect_replay.specs.Runs.{InRun}
use Rattle.inspect_replay.proofs.EndLemmas.{Fetching}
use Rattle.inspect_replay.proofs.one_front.OneFront.fetch_all.Given as goal

abbrev pub invariant-loop-number : goal.invariant-loop-number
invariant-loop-number g l =
    (g.L.Link.honest l.initial.link → g.L.Link.honest l.link)
    × (g.L.Link.faults l.link ≡ g.L.Link.faults l.initial.link)
    × ((up0 down0 : Pipe) (w : World RunState) → w.spent.fetches + length l.numbers ≤ most_fetches
    → InRun (g.L.Link.honest l.initial.link) up0 down0 (g.L.Link.up l.initial.link) (g.L.Link.down l.initial.link) w l.initial.self
    → Fetching (g.L.Link.honest l.link) up0 down0 (g.L.Link.up l.link) (g.L.Link.down l.link)
    (all_fetched replay front_fetcher (first_value []) l.numbers w)
    (drop l.number-index l.numbers) l.self)
    × ((state0 : Started) (up0 down0 : Pipe)
    → FollowsRun state0 up0 down0 (g.L.Link.up l.initial.link) (g.L.Link.down l.initial.link) l.initial.self
    → FollowsRun state0 up0 down0 (g.L.Link.up l.link) (g.L.Link.down l.link) l.self)
