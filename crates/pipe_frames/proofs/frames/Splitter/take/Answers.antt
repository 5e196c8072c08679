use Rattle.std.proofs.Common.{sym, arith}
use Rattle.pipe_frames.specs.Frames.{continued}
use Rattle.pipe_frames.proofs.FrameLemmas.{continued-nil, took_part, took_frame, took_all, zero_in}
use Rattle.pipe_frames.proofs.frames.Splitter.take.Goals as goal

pub loop-len-init : goal.loop-len-init
loop-len-init c = record {
  within = omega arith;
  same = sym (continued-nil c.args.self.now (rw (← c.self.view_is) c.self.invariant.partial));
}

pub returns-in_err-end_frame-clause-err : goal.returns-in_err-end_frame-clause-err
returns-in_err-end_frame-clause-err c =
    let zero = zero_in c.args.piece.now c.loop-len.start c.in-Some.len c.in-Some.ensures.0.high c.in-Some.ensures.1 in
    took_part _ _ _ _ _ c.args.piece.now _ _ zero.0 c.loop-len.invariant.same c.in_ok-add_text.ensures.ok
    c.in_err-end_frame.ensures.err

pub loop-len-preserved : goal.loop-len-preserved
loop-len-preserved c =
    let zero = zero_in c.args.piece.now c.loop-len.start c.in-Some.len c.in-Some.ensures.0.high c.in-Some.ensures.1 in
    record {
      within = omega (arith, zero.0);
      same = took_frame _ _ _ _ c.args.piece.now _ _ zero.0 zero.1 c.loop-len.invariant.same c.in_ok-add_text.ensures.ok
          c.in_ok-end_frame.ensures.ok;
    }

pub returns-clause-ok : goal.returns-clause-ok
returns-clause-ok c =
    took_all _ _ _ _ c.args.piece.now _ c.loop-len.invariant.within c.loop-len.invariant.same c.add_text-2.ensures.ok
