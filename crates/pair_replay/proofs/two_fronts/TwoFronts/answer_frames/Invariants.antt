-- Each frame that is answered takes the run on to where all frames take it.
use Rattle.std.proofs.Common.{◌≡◌, length}
use Rattle.pipe_frames.specs.Pipe.{Pipe}
use Rattle.session_runs.specs.World.{answered}
use Rattle.session_runs.specs.Fold.{RoomThroughout}
use Rattle.session_runs.specs.Pairs.{pair_step}
use Rattle.pair_world.specs.Clients.{pair_reads, client_steps}
use Rattle.pair_world.specs.PairRuns.{PairRun}
use Rattle.pair_world.specs.PairFresh.{PairRoom}
use Rattle.pair_world.specs.PairHeld.{PairMode}
use Rattle.pair_world.specs.PairLinks.{PairStarted}
use Rattle.pair_replay.specs.Running.{InPairRunWith}
use Rattle.pair_replay.specs.Following.{FollowsPairWith}
use Rattle.pair_replay.proofs.EndLemmas.{Answering}
use Rattle.pair_replay.proofs.two_fronts.TwoFronts.answer_frames.Given as goal

abbrev pub invariant-loop-frame : goal.invariant-loop-frame
invariant-loop-frame g l =
    (g.L.Link.honest l.initial.link → g.L.Link.honest l.link)
    × (g.L.Link.faults l.link ≡ g.L.Link.faults l.initial.link)
    × ((mode : PairMode) (up0 down0 : Pipe) (w : PairRun)
    → InPairRunWith mode (g.L.Link.honest l.initial.link) up0 down0 (g.L.Link.up l.initial.link) (g.L.Link.down l.initial.link) w
    l.initial.self
    → Answering (g.L.Link.honest l.link) mode up0 down0 (g.L.Link.up l.link) (g.L.Link.down l.link)
    (RoomThroughout (pair_step pair_reads client_steps) PairRoom w.state l.initial.self.ends.splitter.whole)
    (answered (pair_step pair_reads client_steps) l.initial.self.ends.splitter.whole w) l.self)
    × ((start : PairStarted) (up0 down0 : Pipe)
    → FollowsPairWith start up0 down0 (g.L.Link.up l.initial.link) (g.L.Link.down l.initial.link) l.initial.self
    → FollowsPairWith start up0 down0 (g.L.Link.up l.link) (g.L.Link.down l.link) l.self)

abbrev pub decreases-loop-frame : goal.decreases-loop-frame
decreases-loop-frame g l = length l.self.ends.splitter.whole
