use Rattle.std.proofs.Common.{ap, ◌∙◌, arith}
use Rattle.drill_script.specs.Divs.{next_div}
use Rattle.drill_script.proofs.DivLemmas.{drawing-step, drawing-end}
use Rattle.drill_script.proofs.divs.draw_divs.Goals as goal

pub loop-preserved : goal.loop-preserved
loop-preserved c =
    drawing-step c.args.count c.loop.counter c.loop.divs.items c.push-in-loop-2.new.self.items c.loop.levels.items
    c.push-in-loop.new.self.items c.loop.draws.at c.next_div-div.new.draws.at c.next_div-div.result (omega arith) c.loop.invariant
    (c.next_div-div.ensures.div ∙ ap (λ levels. next_div levels c.loop.draws.at) c.as_slice.ensures.value) c.next_div-div.ensures.at
    (c.in_ok-push-3.ensures {u = tt}).items (c.in_ok-push-2.ensures {u = tt}).items

pub returns-clause-divs : goal.returns-clause-divs
returns-clause-divs c = (drawing-end c.args.count c.loop.counter c.loop.divs.items c.loop.levels.items c.loop.draws.at (omega arith)
    c.loop.invariant).0
