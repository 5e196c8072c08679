-- Each frame that is answered takes the run on to where all frames take it.
use Rattle.std.proofs.Common.{◌≡◌, length}
use Rattle.pipe_frames.specs.Pipe.{Pipe}
use Rattle.session_runs.specs.World.{answered}
use Rattle.inspect_world.specs.World.{World}
use Rattle.inspect_world.specs.Links.{Started}
use Rattle.inspect_world.specs.RunStates.{RunState, run_step}
use Rattle.inspect_replay.specs.Followed.{FollowsWith}
use Rattle.inspect_replay.specs.Runs.{InRunWith}
use Rattle.inspect_replay.proofs.EndLemmas.{Answering}
use Rattle.inspect_replay.proofs.one_front.OneFront.answer_frames.Given as goal

abbrev pub invariant-loop-frame : goal.invariant-loop-frame
invariant-loop-frame g l =
    (g.L.Link.honest l.initial.link → g.L.Link.honest l.link)
    × (g.L.Link.faults l.link ≡ g.L.Link.faults l.initial.link)
    × ((up0 down0 : Pipe) (w : World RunState)
    → InRunWith (g.L.Link.honest l.initial.link) up0 down0 (g.L.Link.up l.initial.link) (g.L.Link.down l.initial.link) w l.initial.self
    → Answering (g.L.Link.honest l.link) up0 down0 (g.L.Link.up l.link) (g.L.Link.down l.link)
    (answered run_step l.initial.self.ends.splitter.whole w) l.self)
    × ((state0 : Started) (up0 down0 : Pipe)
    → FollowsWith state0 up0 down0 (g.L.Link.up l.initial.link) (g.L.Link.down l.initial.link) l.initial.self
    → FollowsWith state0 up0 down0 (g.L.Link.up l.link) (g.L.Link.down l.link) l.self)

abbrev pub decreases-loop-frame : goal.decreases-loop-frame
decreases-loop-frame g l = length l.self.ends.splitter.whole
