-- The lines so far.
use Rattle.std.proofs.Common.{◌≡◌, ◌≤◌, length, take, count_by}
use Rattle.panels.specs.Chunks.{is_feed}
use Rattle.panels.proofs.chunks.line_count.Given as goal

abbrev pub invariant-loop-lines : goal.invariant-loop-lines
invariant-loop-lines l = record {
  within : l.start ≤ length l.bytes;
  counted : l.lines ≡ count_by is_feed (take l.start l.bytes);
}
