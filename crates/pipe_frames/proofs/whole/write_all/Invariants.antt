use Rattle.std.proofs.Common.{◌≡◌, length}
use Rattle.pipe_frames.proofs.WholeLemmas.{Writes}
use Rattle.pipe_frames.proofs.whole.write_all.Given as goal

abbrev pub invariant-loop-rest : goal.invariant-loop-rest
invariant-loop-rest g l = record {
  wrote : Writes (g.K.Sink.taken l.initial.out) (g.K.Sink.taken l.out) l.piece l.rest;
  same : g.K.Sink.faults l.out ≡ g.K.Sink.faults l.initial.out;
}

abbrev pub decreases-loop-rest : goal.decreases-loop-rest
decreases-loop-rest g l = length l.rest
