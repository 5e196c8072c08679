use Rattle.sheet_reader.specs.Marks.{AreMarks}
use Rattle.sheet_reader.proofs.marks.push_behind.Given as goal

abbrev pub invariant-loop-mark : goal.invariant-loop-mark
invariant-loop-mark l = AreMarks l.text l.marks.items
