use Rattle.std.proofs.Common.{◌≡◌, suc, ◌-◌, length, drop}
use Rattle.sheet_reader.specs.Ends.{AreClosings}
use Rattle.sheet_reader.proofs.ends.closings.Given as goal

abbrev pub invariant-loop-n : goal.invariant-loop-n
invariant-loop-n l = record {
  size : length l.table.items ≡ suc l.n;
  told : AreClosings l.table.items (drop (length l.pieces - l.n) l.pieces);
}
