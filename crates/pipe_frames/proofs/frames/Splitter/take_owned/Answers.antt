use Rattle.std.proofs.Common.{◌≡◌, ◌<◌, ℕ, length, take, OnErr, Ok, Err}
use Rattle.pipe_frames.specs.Frames.{continued, IsFrame}
use Rattle.pipe_frames.proofs.FrameLemmas.{frame_refused}
use Rattle.pipe_frames.proofs.frames.Splitter.take_owned.Goals as goal

pub returns-then-is_frame-clause-err : goal.returns-then-is_frame-clause-err
returns-then-is_frame-clause-err c =
    let frame : IsFrame c.args.piece.items = rw c.deref.ensures.value at (c.is_frame.ensures c.if-is_frame.true) in
    (elim c.keep_frame.result as (λ r. OnErr r (c.keep_frame.new.self ≡ c.args.self.now)
    → OnErr r ((x : ℕ) × x < length c.args.piece.items × c.keep_frame.new.self ≡ continued c.args.self.now (take x c.args.piece.items))) [
      | Ok _ ↦ λ _. tt
      | Err _ ↦ λ same. frame_refused c.args.self.now c.keep_frame.new.self c.args.piece.items frame same
          (rw (← c.self.view_is) c.self.invariant.partial)
    ]) c.keep_frame.ensures.err
