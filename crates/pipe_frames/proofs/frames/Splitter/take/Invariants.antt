use Rattle.std.proofs.Common.{◌≡◌, ◌≤◌, ◌-◌, take, length}
use Rattle.pipe_frames.specs.Frames.{continued}
use Rattle.pipe_frames.proofs.frames.Splitter.take.Given as goal

abbrev pub invariant-loop-len : goal.invariant-loop-len
invariant-loop-len l = record {
  within : l.start ≤ length l.piece;
  same : l.self ≡ continued l.initial.self (take l.start l.piece);
}

abbrev pub decreases-loop-len : goal.decreases-loop-len
decreases-loop-len l = length l.piece - l.start
