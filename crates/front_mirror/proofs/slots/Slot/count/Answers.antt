-- One id for each child.
use Rattle.front_mirror.proofs.ReadLemmas.{opened_count}
use Rattle.front_mirror.proofs.slots.Slot.count.Goals as goal

pub returns-in-Opened : goal.returns-in-Opened
returns-in-Opened c = opened_count c.args.self.now.below c.args.self.now.children c.len.result c.in-Opened.is c.len.ensures
