-- One line more ends at the next line feed.
use Rattle.panels.proofs.TextLemmas.{end_turn, end_within}
use Rattle.panels.proofs.chunks.lines_end.Goals as goal

pub loop-preserved : goal.loop-preserved
loop-preserved c = record {
  within = end_within c.args.bytes.now c.loop.end c.in-Some.len c.loop.invariant.within c.in-Some.ensures.0.high;
  ends =
      end_turn c.args.bytes.now c.args.start c.loop.end c.in-Some.len c.loop.counter c.loop.invariant.ends c.in-Some.ensures.0.high
      c.in-Some.ensures.1 c.in-Some.ensures.0.before;
}
