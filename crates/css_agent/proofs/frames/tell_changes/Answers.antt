use Rattle.std.proofs.Common.{◌∙◌}
use Rattle.css_agent.proofs.EditLemmas.{change-turn}
use Rattle.css_agent.proofs.frames.tell_changes.Goals as goal

pub loop-back-preserved : goal.loop-back-preserved
loop-back-preserved c =
    change-turn c.args.backs.now c.loop-back.back-index c.back-item.result c.loop-back.out.items c.tell_change.new.out.items
    c.loop-back-test.true c.back-item.is (c.in_ok-tell_change.ensures {u = tt})
    ∙ c.loop-back.invariant
