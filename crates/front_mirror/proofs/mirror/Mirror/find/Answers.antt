-- The slot is the node's.
use Rattle.std.specs.Option.{option_copied}
use Rattle.front_mirror.proofs.ReadLemmas.{slot_looks, slot_parent}
use Rattle.front_mirror.proofs.mirror.Mirror.find.Goals as goal

pub returns-clause-looks : goal.returns-clause-looks
returns-clause-looks c = slot_looks c.self.inside.table c.self.inside.roots c.args.self.now c.self.invariant.kept c.self.view_is c.args.id
    (option_copied c.get.result) c.get.ensures

pub returns-clause-parent : goal.returns-clause-parent
returns-clause-parent c = slot_parent c.self.inside.table c.self.inside.roots c.args.self.now c.self.invariant.kept c.self.view_is c.args.id
    c.get.result c.get.ensures
