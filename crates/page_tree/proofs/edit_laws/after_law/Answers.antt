use Rattle.page_tree.proofs.edit_laws.after_law.Goals as goal
use Rattle.page_tree.proofs.EditLemmas.{valid-after}
use Rattle.page_tree.proofs.InsertLemmas.{next-stays}

pub returns-clause-valid : goal.returns-clause-valid
returns-clause-valid c = valid-after

pub returns-clause-next : goal.returns-clause-next
returns-clause-next c = next-stays
