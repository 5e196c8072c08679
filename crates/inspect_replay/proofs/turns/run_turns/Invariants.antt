-- The lines that are left lead on from where the run has come to.
use Rattle.std.proofs.Common.{◌≡◌, ◌+◌, ℕ, length}
use Rattle.pipe_frames.specs.Pipe.{Pipe}
use Rattle.drill_script.specs.LineKinds.{AreDrillLines}
use Rattle.inspect_world.specs.Costs.{lines_cost}
use Rattle.inspect_world.specs.World.{World}
use Rattle.inspect_world.specs.RunStates.{RunState}
use Rattle.inspect_world.specs.Links.{Started}
use Rattle.inspect_replay.specs.Followed.{FollowsRun}
use Rattle.inspect_replay.specs.Runs.{InPlay}
use Rattle.inspect_replay.specs.Drilled.{lines_more}
use Rattle.inspect_replay.proofs.DrillLemmas.{Turned}
use Rattle.inspect_replay.proofs.turns.run_turns.Given as goal

abbrev pub invariant-loop-line : goal.invariant-loop-line
invariant-loop-line g l =
    AreDrillLines l.drill
    × (g.L.Link.honest l.initial.link → g.L.Link.honest l.link)
    × (g.L.Link.faults l.link ≡ g.L.Link.faults l.initial.link)
    × ((state0 : Started) (up0 down0 : Pipe)
    → FollowsRun (lines_more (length l.initial.drill) state0) up0 down0 (g.L.Link.up l.initial.link) (g.L.Link.down l.initial.link)
    l.initial.ends
    → FollowsRun (lines_more (length l.drill) state0) up0 down0 (g.L.Link.up l.link) (g.L.Link.down l.link) l.ends)
    × ((up0 down0 : Pipe) (more : ℕ) (w : World RunState)
    → InPlay (g.L.Link.honest l.initial.link) up0 down0 (g.L.Link.up l.initial.link) (g.L.Link.down l.initial.link)
    (more + lines_cost l.initial.drill) w l.initial.ends
    → Turned (g.L.Link.honest l.link) up0 down0 (g.L.Link.up l.link) (g.L.Link.down l.link) more l.initial.drill l.drill w l.ends)

abbrev pub decreases-loop-line : goal.decreases-loop-line
decreases-loop-line g l = length l.drill
