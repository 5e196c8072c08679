-- What was counted, and what is left, is all; and it is no more than a number holds.
use Rattle.std.proofs.Common.{◌≡◌, ◌+◌, ◌++◌, ℕ, List, Vec, Global, length, map, ap, ◌∙◌, arith}
use Rattle.std.proofs.lemmas.List.{length-map}
use Rattle.pipe_frames.specs.Frames.{bytes_in, bytes_of}
use Rattle.pipe_frames.proofs.FrameLemmas.{bytes-counted, none-in}
use Rattle.pipe_frames.proofs.frames.Splitter.held.Goals as goal

pub loop-frame-init : goal.loop-frame-init
loop-frame-init c = rw (← c.self.view_is) (
  tt,
  tt,
  λ small.
      let gives : ◌≡◌ {A = List (Vec ℕ Global)} (c.into_iter-frame-iterator.result.head.now
      ++ c.into_iter-frame-iterator.result.wrapped.now) c.self.inside.whole.items = c.into_iter-frame-iterator.ensures.into_iter_gives.0 in
      let e : bytes_in (map (λ frame. frame.items) (c.into_iter-frame-iterator.result.head.now
      ++ c.into_iter-frame-iterator.result.wrapped.now)) ≡ bytes_in (map (λ frame. frame.items) c.self.inside.whole.items) =
      ap (λ frames. bytes_in (map (λ frame. frame.items) frames)) gives in
      omega (arith, e, c.len-held.ensures, c.self.inside.rest.ok),
)

pub loop-frame-preserved : goal.loop-frame-preserved
loop-frame-preserved c = (
  tt,
  tt,
  λ small.
      let e : bytes_in (map (λ frame. frame.items) (c.loop-frame.frame-iterator.head.now ++ c.loop-frame.frame-iterator.wrapped.now))
      ≡ length c.in-Some.frame.now.items + 1
      + bytes_in (map (λ frame. frame.items) (c.next.new.self.head.now ++ c.next.new.self.wrapped.now)) =
      ap (λ frames. bytes_in (map (λ frame. frame.items) frames)) (c.in-Some.ensures {u = tt}).steps in
      let h = c.loop-frame.invariant.2 small in
      omega (arith, e, h, small, c.len.ensures, c.in-Some.frame.now.ok, c.saturating_add.ensures, c.saturating_add-held.ensures),
)

pub returns : goal.returns
returns c = λ small.
    let none : length (map (λ frame. frame.items) (c.loop-frame.frame-iterator.head.now ++ c.loop-frame.frame-iterator.wrapped.now)) ≡ 0 =
    length-map (c.loop-frame.frame-iterator.head.now ++ c.loop-frame.frame-iterator.wrapped.now) (λ frame. frame.items)
    ∙ (c.in-None.ensures {u = tt}).steps.0 in
    let left =
    none-in (map (λ frame. frame.items) (c.loop-frame.frame-iterator.head.now ++ c.loop-frame.frame-iterator.wrapped.now)) none in
    let all : length (bytes_of c.args.self.now) ≡ bytes_in c.args.self.now.whole + length c.args.self.now.rest =
    bytes-counted c.args.self.now.whole c.args.self.now.rest in
    let h = c.loop-frame.invariant.2 (omega (arith, all, small)) in
    omega (arith, h, left, all)
