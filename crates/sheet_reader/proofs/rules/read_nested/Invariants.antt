use Rattle.std.proofs.Common.{◌≡◌}
use Rattle.sheet_reader.specs.Frames.{left_at_top, read_on, left_size, AreLeftOf}
use Rattle.sheet_reader.proofs.rules.read_nested.Given as goal

abbrev pub invariant-frames : goal.invariant-frames
invariant-frames l = record {
  so_far : read_on l.text l.sheet l.frames ≡ read_on l.text l.fn.sheet (left_at_top l.left);
  each : AreLeftOf l.text l.frames;
}

abbrev pub decreases-frames : goal.decreases-frames
decreases-frames l = left_size l.frames
