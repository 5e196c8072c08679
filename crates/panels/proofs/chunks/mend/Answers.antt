-- The chunks before the part, its own, and those behind it.
use Rattle.std.proofs.Common.{◌-◌, take, drop, refl, sym, subst}
use Rattle.panels.specs.Chunks.{AreChunks}
use Rattle.panels.proofs.ChunkLemmas.{cut_mended}
use Rattle.panels.proofs.chunks.mend.Goals as goal

pub returns : goal.returns
returns c =
    let text = c.args.bytes.now in
    let from = c.args.start.byte in
    let to = c.args.stop.byte in
    let old = c.args.chunks.now.items in
    cut_mended text (take (to - from) (drop from text)) from to (take c.args.start.chunk old) c.as_slice.result.now
    (drop c.args.stop.chunk old) c.put_chunks.new.chunks.items c.requires.order refl c.requires.front
    (subst (AreChunks (take (to - from) (drop from text))) (sym c.as_slice.ensures.value) c.in_ok-new.ensures) c.requires.rest
    (c.in_ok-put_chunks.ensures {u = tt})
