-- The serial has an id.
use Rattle.front_mirror.proofs.ReadLemmas.{serial_has}
use Rattle.front_mirror.proofs.mirror.Mirror.has_serial.Goals as goal

pub returns : goal.returns
returns c = serial_has c.self.inside.table c.self.inside.roots c.args.self.now c.self.invariant.kept c.self.view_is c.args.serial
    c.id_of.result
    c.is_some.result c.id_of.ensures c.is_some.ensures
