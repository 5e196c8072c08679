use Rattle.std.proofs.Common.{arith}
use Rattle.sheet_reader.proofs.PositionLemmas.{start}
use Rattle.sheet_reader.proofs.marks.start_mark.Goals as goal

pub returns-clause-mark : goal.returns-clause-mark
returns-clause-mark c = record { inside = omega arith; place = start c.args.text.now }
