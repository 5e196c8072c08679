-- The slot goes with its serial.
use Rattle.std.proofs.Common.{sym, ◌∙◌}
use Rattle.front_mirror.proofs.TableLemmas.{remove_files}
use Rattle.front_mirror.proofs.table.Table.remove.Goals as goal

pub returns-in-Some-clause-listed : goal.returns-in-Some-clause-listed
returns-in-Some-clause-listed c =
    remove_files c.args.self.now c.take_slot.new.self c.drop_serial.new.self c.args.id c.in-Some.slot c.requires
    (sym c.take_slot.ensures.was ∙ c.in-Some.is) c.take_slot.ensures.slots c.take_slot.ensures.ids c.drop_serial.ensures.slots
    c.drop_serial.ensures.ids
