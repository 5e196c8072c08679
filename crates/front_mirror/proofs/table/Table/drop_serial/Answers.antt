use Rattle.front_mirror.proofs.IdMapLemmas.{puts-remove}
use Rattle.front_mirror.proofs.table.Table.drop_serial.Goals as goal

pub returns-clause-ids : goal.returns-clause-ids
returns-clause-ids c = puts-remove _ _ _ c.remove.ensures.left
