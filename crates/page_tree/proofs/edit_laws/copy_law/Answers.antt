use Rattle.page_tree.proofs.edit_laws.copy_law.Goals as goal
use Rattle.page_tree.proofs.InsertLemmas.{copy-leads}

pub returns : goal.returns
returns c = copy-leads
