use Rattle.drill_script.proofs.HangLemmas.{nothing-next}
use Rattle.drill_script.proofs.hanging.Hanging.new.Goals as goal

pub loop-preserved : goal.loop-preserved
loop-preserved c = nothing-next c.loop.lists.items c.push.new.self.items c.new.result c.loop.counter c.loop.invariant
    (c.in_ok-push.ensures {u = tt}).items c.new.ensures.items
