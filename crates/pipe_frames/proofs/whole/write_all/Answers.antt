use Rattle.std.proofs.Common.{◌∙◌}
use Rattle.pipe_frames.proofs.FaultLemmas.{still, HasCause-before, HasCause-well}
use Rattle.pipe_frames.proofs.WholeLemmas.{Writes-more}
use Rattle.pipe_frames.proofs.whole.write_all.Goals as goal

pub loop-rest-preserved : goal.loop-rest-preserved
loop-rest-preserved g c = record {
  wrote = rw c.split_at.ensures.back
      (Writes-more _ _ _ c.args.piece.now c.loop-rest.rest.now c.in-Ok.count c.loop-rest.invariant.wrote c.in-Ok.ensures.bytes);
  same = still _ _ c.in-Ok.count c.in-Ok.ensures.cause.later c.in-Ok.ensures.cause.answered ∙ c.loop-rest.invariant.same;
}

pub returns-in-Err-clause-cause : goal.returns-in-Err-clause-cause
returns-in-Err-clause-cause g c = HasCause-before _ _ _ _ c.loop-rest.invariant.same c.in-Err.ensures.cause

pub returns-clause-cause : goal.returns-clause-cause
returns-clause-cause g c = HasCause-well _ _ _ c.loop-rest.invariant.same
