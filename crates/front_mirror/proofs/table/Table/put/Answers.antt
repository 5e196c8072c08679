use Rattle.front_mirror.proofs.IdMapLemmas.{puts-insert}
use Rattle.front_mirror.proofs.table.Table.put.Goals as goal

pub returns-clause-ids : goal.returns-clause-ids
returns-clause-ids c = puts-insert _ _ _ _ c.in_ok-insert.ensures.put
