-- The end of the lines so far.
use Rattle.std.proofs.Common.{◌≡◌, ◌+◌, ◌≤◌, length, drop}
use Rattle.panels.specs.Chunks.{lines_length}
use Rattle.panels.proofs.chunks.lines_end.Given as goal

abbrev pub invariant-loop : goal.invariant-loop
invariant-loop l = record {
  within : l.end ≤ length l.bytes;
  ends : l.end ≡ l.start + lines_length l.counter (drop l.start l.bytes);
}
