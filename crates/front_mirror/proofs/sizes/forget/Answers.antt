-- One number less.
use Rattle.std.proofs.Common.{get_or, ◌∙◌}
use Rattle.std.specs.FinMap as map
use Rattle.front_mirror.proofs.IdMapLemmas.{puts-remove}
use Rattle.front_mirror.proofs.EditCounts.{forgot_turn}
use Rattle.front_mirror.proofs.sizes.forget.Goals as goal

pub loop-id-preserved : goal.loop-id-preserved
loop-id-preserved c = λ k out.
    forgot_turn c.args.ids.now c.loop-id.id-index k (map.get c.loop-id.counts) (map.get c.remove.new.self) c.loop-id-test.true
    (puts-remove c.loop-id.counts c.remove.new.self (get_or c.args.ids.now c.loop-id.id-index 0) c.remove.ensures.left) out
    ∙ c.loop-id.invariant k out
