-- The frames that were counted, and those that are left, are all of them.
use Rattle.std.proofs.Common.{◌≡◌, ◌+◌, ◌<◌, ◌^◌, ◌++◌, length, map}
use Rattle.pipe_frames.specs.Frames.{bytes_in}
use Rattle.pipe_frames.proofs.frames.Splitter.held.Given as goal

abbrev pub invariant-loop-frame : goal.invariant-loop-frame
invariant-loop-frame l =
    (goal.iterator-loop-frame).can_next l.frame-iterator × (goal.iterator-loop-frame).is_finite l.frame-iterator
    × (bytes_in l.self.whole + length l.self.rest < 2 ^ 64
    → l.held + bytes_in (map (λ frame. frame.items) (l.frame-iterator.head.now ++ l.frame-iterator.wrapped.now))
    ≡ bytes_in l.self.whole + length l.self.rest)
