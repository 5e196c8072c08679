-- What came so far was answered.
use Rattle.std.proofs.Common.{◌≡◌, ◌-◌, []}
use Rattle.inspect_replay.specs.Served.{Served}
use Rattle.inspect_replay.specs.Serving.{IsServing, serve_moment}
use Rattle.inspect_replay.proofs.ServeEnds.{ServedSoFar}
use Rattle.inspect_replay.proofs.service.Service.serve_within.Given as goal

abbrev pub invariant-loop-came : goal.invariant-loop-came
invariant-loop-came g l = record {
  so_far : (first : Served) → IsServing first l.initial.self []
      → ServedSoFar first (g.S.Source.calls l.initial.src) (g.S.Source.calls l.src) (g.S.Source.left l.initial.src)
      (g.S.Source.left l.src) (g.K.Sink.taken l.initial.out)
      (serve_moment l.self (g.K.Sink.taken l.out)) l.came;
  source_same : g.S.Source.faults l.src ≡ g.S.Source.faults l.initial.src;
  sink_same : g.K.Sink.faults l.out ≡ g.K.Sink.faults l.initial.out;
}

abbrev pub decreases-loop-came : goal.decreases-loop-came
decreases-loop-came g l = 67108864 - l.came
