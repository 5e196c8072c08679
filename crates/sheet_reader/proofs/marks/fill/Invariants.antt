use Rattle.std.proofs.Common.{◌-◌}
use Rattle.sheet_reader.specs.Marks.{IsMark, AreMarks}
use Rattle.sheet_reader.proofs.marks.fill.Given as goal

abbrev pub invariant-loop-last : goal.invariant-loop-last
invariant-loop-last l = record {
  last : IsMark l.text l.last;
  marks : AreMarks l.text l.marks.items;
}

abbrev pub decreases-loop-last : goal.decreases-loop-last
decreases-loop-last l = l.to - l.last.byte
