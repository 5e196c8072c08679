-- No slots keep no tree.
use Rattle.front_mirror.proofs.EditTableLemmas.{nothing_kept}
use Rattle.front_mirror.proofs.KeptOrders.{nothing_counted}
use Rattle.front_mirror.proofs.mirror.Mirror.new.Goals as goal

pub invariant_of-result : goal.invariant_of-result
invariant_of-result c =
    nothing_counted c.new.result c.new-2.result c.new-3.result c.new-4.result c.new.ensures.slots c.new.ensures.ids c.new-2.ensures
    c.new-4.ensures

pub returns : goal.returns
returns c = (nothing_kept c.new.result c.new-2.result c.new.ensures.slots c.new.ensures.ids c.new-2.ensures).0
