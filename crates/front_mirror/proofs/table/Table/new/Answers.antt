use Rattle.std.proofs.Common.{ap, ◌∙◌}
use Rattle.std.specs.Ordering.{nat_cmp}
use Rattle.std.specs.FinMap as numbers
use Rattle.front_mirror.proofs.table.Table.new.Goals as goal

pub returns-clause-ids : goal.returns-clause-ids
returns-clause-ids c x = ap (λ m. numbers.get m x) c.new-2.ensures ∙ numbers.get-empty nat_cmp x
