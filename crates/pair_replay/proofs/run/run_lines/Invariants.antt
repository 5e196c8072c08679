-- The lines so far were good, and both runs have come to where they take them.
use Rattle.std.proofs.Common.{◌≡◌, ◌≤◌, ◌+◌, length}
use Rattle.pipe_frames.specs.Pipe.{Pipe}
use Rattle.inspect_world.specs.Costs.{line_bytes}
use Rattle.pair_world.specs.PairRuns.{PairRun}
use Rattle.pair_world.specs.PairLinks.{PairStarted, pair_started}
use Rattle.replay_parts.specs.Printed.{PrintedSome}
use Rattle.pair_replay.specs.Running.{InPairPlay}
use Rattle.pair_replay.specs.Following.{FollowsPairRun}
use Rattle.pair_replay.proofs.LinesRun.{RunningOn, whole_of}
use Rattle.pair_replay.proofs.LinesTell.{CarriedOn}
use Rattle.pair_replay.proofs.run.run_lines.Given as goal

abbrev pub invariant-loop-text : goal.invariant-loop-text
invariant-loop-text g l =
    (2 ≤ l.number)
    × (l.number + length l.lines ≤ 2 + length l.initial.lines)
    × (g.L.Link.honest l.initial.link → g.L.Link.honest l.link)
    × (g.K.Sink.faults l.out ≡ g.K.Sink.faults l.initial.out)
    × (g.L.Link.faults l.link ≡ g.L.Link.faults l.initial.link)
    × ((up0 down0 : Pipe) (w v : PairRun)
    → InPairPlay (g.L.Link.honest l.initial.link) up0 down0 (g.L.Link.up l.initial.link) (g.L.Link.down l.initial.link)
    (line_bytes l.initial.lines) w v l.initial.ends
    → RunningOn (g.L.Link.honest l.link) up0 down0 (g.L.Link.up l.link) (g.L.Link.down l.link) (g.K.Sink.taken l.initial.out)
    (g.K.Sink.taken l.out) (whole_of l.initial.lines w v) l.number l.lines l.ends)
    × ((start : PairStarted) (up0 down0 : Pipe)
    → FollowsPairRun (pair_started start.pair (length l.initial.lines) start.panels start.from) up0 down0 (g.L.Link.up l.initial.link)
    (g.L.Link.down l.initial.link) l.initial.ends
    → CarriedOn start up0 down0 (g.L.Link.up l.link) (g.L.Link.down l.link) l.initial.lines l.number l.lines l.ends)
    × PrintedSome (g.K.Sink.taken l.initial.out) (g.K.Sink.taken l.out)

abbrev pub decreases-loop-text : goal.decreases-loop-text
decreases-loop-text g l = length l.lines
