-- The serial has its node's id.
use Rattle.front_mirror.proofs.ReadLemmas.{serial_is}
use Rattle.front_mirror.proofs.mirror.Mirror.id_of.Goals as goal

pub returns : goal.returns
returns c = serial_is c.self.inside.table c.self.inside.roots c.args.self.now c.self.invariant.kept c.self.view_is c.args.serial
    c.id_of.result
    c.id_of.ensures
