-- The chunks that were passed over.
use Rattle.panels.specs.Chunks.{IsEdge}
use Rattle.panels.proofs.chunks.edge_behind.Given as goal

abbrev pub invariant-loop-i : goal.invariant-loop-i
invariant-loop-i l = IsEdge l.bytes l.chunks l.i l.byte
