-- One chunk more, and the last one.
use Rattle.std.proofs.Common.{◌≡◌, ◌+◌, ◌-◌, length, take, drop, sym, ap, subst, arith}
use Rattle.panels.specs.Chunks.{AreChunks}
use Rattle.panels.proofs.TextLemmas.{rest_is}
use Rattle.panels.proofs.ChunkLemmas.{cut_more, cut_last}
use Rattle.panels.proofs.chunks.chunks_of.Goals as goal

pub loop-start-preserved : goal.loop-start-preserved
loop-start-preserved c =
    let text = c.args.bytes.now in
    let start = c.loop-start.start in
    let size : start + 4096 - start ≡ 4096 = omega arith in
    record {
      inside = omega arith;
      cut =
          subst (AreChunks (take (start + 4096) text)) (sym c.in_ok-push.ensures.items)
          (cut_more text (take (start + 4096 - start) (drop start text)) start 4096 c.loop-start.chunks.items c.chunk_of.result
          c.loop-start.invariant.cut (ap (λ n. take n (drop start text)) size) c.chunk_of.ensures.bytes c.chunk_of.ensures.lines);
    }

pub returns : goal.returns
returns c =
    let text = c.args.bytes.now in
    let start = c.loop-start.start in
    subst (AreChunks text) (sym c.in_ok-push-2.ensures.items)
    (cut_last text (take (length text - start) (drop start text)) start c.loop-start.chunks.items c.chunk_of-2.result
    c.loop-start.invariant.cut (rest_is text start) c.chunk_of-2.ensures.bytes c.chunk_of-2.ensures.lines)
