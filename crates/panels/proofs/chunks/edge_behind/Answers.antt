-- One chunk more is passed over.
use Rattle.std.proofs.Common.{slice_index_or, refl, arith}
use Rattle.panels.specs.declared.chunks.Chunk.{Chunk}
use Rattle.panels.proofs.ChunkLemmas.{next_chunk, edge_last}
use Rattle.panels.proofs.chunks.edge_behind.Goals as goal

pub loop-i-preserved : goal.loop-i-preserved
loop-i-preserved c =
    let empty : Chunk = record { bytes = 0; lines = 0 } in
    let b : Chunk = slice_index_or c.args.chunks.now c.loop-i.i empty in
    let n = next_chunk c.args.bytes.now c.args.chunks.now c.loop-i.i c.loop-i.byte b empty c.loop-i.invariant (omega arith) refl in
    n.edge

pub returns-clause-behind : goal.returns-clause-behind
returns-clause-behind c =
    let last = edge_last c.args.bytes.now c.args.chunks.now c.loop-i.i c.loop-i.byte c.loop-i.invariant (omega arith) in
    omega (arith, last)
