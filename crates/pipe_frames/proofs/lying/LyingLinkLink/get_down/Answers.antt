use Rattle.std.proofs.Common.{refl, arith}
use Rattle.pipe_frames.proofs.FlowLemmas.{Moves-lie}
use Rattle.pipe_frames.proofs.lying.LyingLinkLink.get_down.Goals as goal

pub returns-clause-down : goal.returns-clause-down
returns-clause-down c = rw (← c.self.view_is) (
  c.in_ok-count.ensures.gets.0,
  Moves-lie c.self.inside.place c.self.inside.to c.self.inside.down c.get.new.self
      c.args.into.now.items c.get.new.into.items c.replace_byte.new.bytes.items
      c.in_ok-count.count c.len-start.result c.self.inside.down.passed
      c.in_ok-count.ensures.gets.1 (omega arith) refl c.get.ensures.within
      (rw c.self.invariant at c.replace_byte.ensures),
)
