use Rattle.page_tree.proofs.edit_laws.move_law.Goals as goal
use Rattle.page_tree.proofs.MoveLemmas.{move-leads}

pub returns : goal.returns
returns c = move-leads
