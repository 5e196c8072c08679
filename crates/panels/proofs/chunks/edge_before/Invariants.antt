-- The chunks that were passed over, and the lines behind them.
use Rattle.std.proofs.Common.{◌≡◌, ◌+◌, drop}
use Rattle.panels.specs.Chunks.{IsEdge, lines_length}
use Rattle.panels.proofs.chunks.edge_before.Given as goal

abbrev pub invariant-loop-i : goal.invariant-loop-i
invariant-loop-i l = record {
  edge : IsEdge l.bytes l.chunks l.i l.byte;
  left : lines_length l.count l.bytes ≡ l.byte + lines_length l.left (drop l.byte l.bytes);
}
