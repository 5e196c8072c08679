-- One chunk more is passed over.
use Rattle.std.proofs.Common.{slice_index_or, refl, arith}
use Rattle.panels.specs.declared.chunks.Chunk.{Chunk}
use Rattle.panels.proofs.TextLemmas.{left_turn}
use Rattle.panels.proofs.ChunkLemmas.{next_chunk}
use Rattle.panels.proofs.chunks.edge_before.Goals as goal

pub loop-i-preserved : goal.loop-i-preserved
loop-i-preserved c =
    let empty : Chunk = record { bytes = 0; lines = 0 } in
    let b : Chunk = slice_index_or c.args.chunks.now c.loop-i.i empty in
    let n = next_chunk c.args.bytes.now c.args.chunks.now c.loop-i.i c.loop-i.byte b empty c.loop-i.invariant.edge (omega arith) refl in
    record {
      edge = n.edge;
      left =
          left_turn c.args.count c.loop-i.byte b.bytes b.lines c.loop-i.left c.args.bytes.now n.low n.counted (omega arith)
          c.loop-i.invariant.left;
    }
