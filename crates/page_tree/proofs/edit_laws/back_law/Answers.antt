use Rattle.page_tree.proofs.edit_laws.back_law.Goals as goal
use Rattle.page_tree.proofs.BackLemmas.{leads-back}

pub returns : goal.returns
returns c = leads-back
