-- The slots, without those of the ids that are left.
use Rattle.std.proofs.Common.{◌≡◌, drop}
use Rattle.front_mirror.specs.Tables.{table_slots, IsListed, without_slots}
use Rattle.front_mirror.proofs.table.Table.remove_all.Given as goal

abbrev pub invariant-loop-id : goal.invariant-loop-id
invariant-loop-id l = record {
  listed : IsListed l.self;
  slots : without_slots (drop l.id-index l.ids) (table_slots l.self) ≡ without_slots l.ids (table_slots l.initial.self);
}
