-- One slot more goes.
use Rattle.front_mirror.specs.Tables.{table_slots}
use Rattle.front_mirror.proofs.TableLemmas.{without_turn}
use Rattle.front_mirror.proofs.table.Table.remove_all.Goals as goal

pub loop-id-preserved : goal.loop-id-preserved
loop-id-preserved c = record {
  listed = c.remove.ensures.listed;
  slots = without_turn c.args.ids.now c.loop-id.id-index (table_slots c.loop-id.self)
      (table_slots c.remove.new.self) _ c.loop-id-test.true c.remove.ensures.slots c.loop-id.invariant.slots;
}
