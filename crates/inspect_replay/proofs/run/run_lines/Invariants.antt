-- The lines so far were good, and the run has come to where they take it.
use Rattle.std.proofs.Common.{◌≡◌, ◌≤◌, ◌+◌, [], length}
use Rattle.pipe_frames.specs.Pipe.{Pipe}
use Rattle.inspect_world.specs.Costs.{line_bytes}
use Rattle.inspect_world.specs.World.{World}
use Rattle.inspect_world.specs.RunStates.{RunState}
use Rattle.inspect_world.specs.Links.{Begun, run_started}
use Rattle.inspect_replay.specs.Followed.{FollowsRun}
use Rattle.replay_parts.specs.Printed.{PrintedSome}
use Rattle.inspect_replay.specs.Runs.{InPlay}
use Rattle.inspect_replay.proofs.LinesRun.{Running, whole_of}
use Rattle.inspect_replay.proofs.LinesTell.{Carried}
use Rattle.inspect_replay.proofs.run.run_lines.Given as goal

abbrev pub invariant-loop-text : goal.invariant-loop-text
invariant-loop-text g l =
    (2 ≤ l.number)
    × (l.number + length l.lines ≤ 2 + length l.initial.lines)
    × (g.L.Link.honest l.initial.link → g.L.Link.honest l.link)
    × (g.K.Sink.faults l.out ≡ g.K.Sink.faults l.initial.out)
    × (g.L.Link.faults l.link ≡ g.L.Link.faults l.initial.link)
    × ((up0 down0 : Pipe) (w : World RunState)
    → InPlay (g.L.Link.honest l.initial.link) up0 down0 (g.L.Link.up l.initial.link) (g.L.Link.down l.initial.link)
    (line_bytes l.initial.lines) w l.initial.ends
    → Running (g.L.Link.honest l.link) up0 down0 (g.L.Link.up l.link) (g.L.Link.down l.link) (g.K.Sink.taken l.initial.out)
    (g.K.Sink.taken l.out)
    (whole_of l.initial.lines w) l.number l.lines l.ends)
    × ((begun : Begun) (up0 down0 : Pipe)
    → FollowsRun (run_started begun.state (length l.initial.lines) [] begun.panels) up0 down0 (g.L.Link.up l.initial.link)
    (g.L.Link.down l.initial.link) l.initial.ends
    → Carried begun up0 down0 (g.L.Link.up l.link) (g.L.Link.down l.link) l.initial.lines l.number l.lines l.ends)
    × PrintedSome (g.K.Sink.taken l.initial.out) (g.K.Sink.taken l.out)

abbrev pub decreases-loop-text : goal.decreases-loop-text
decreases-loop-text g l = length l.lines
