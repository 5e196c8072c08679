use Rattle.page_tree.proofs.FlatLemmas.{flat-is}
use Rattle.page_tree.proofs.flat.flat_law.Goals as goal

pub returns : goal.returns
returns c = flat-is
