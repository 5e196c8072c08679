use Rattle.std.proofs.Common.{arith}
use Rattle.undo_marks.proofs.GroupLemmas.{entries-few}
use Rattle.undo_marks.proofs.groups.Groups.count.Goals as goal

pub returns-clause-fits : goal.returns-clause-fits
returns-clause-fits c = omega (arith, c.self.invariant, entries-few c.self.inside.groups.items, c.self.inside.groups.ok)
