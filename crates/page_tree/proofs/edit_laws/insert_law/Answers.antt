use Rattle.page_tree.proofs.edit_laws.insert_law.Goals as goal
use Rattle.page_tree.proofs.InsertLemmas.{insert-leads}

pub returns : goal.returns
returns c = insert-leads
