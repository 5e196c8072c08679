use Rattle.std.proofs.Common.{[], arith}
use Rattle.drill_script.specs.DrillNodes.{below}
use Rattle.drill_script.proofs.HangLemmas.{hung-first, hung-fits, hung-next, hung-end, none-of}
use Rattle.drill_script.proofs.nodes.nest.Goals as goal

pub new-requires : goal.new-requires
new-requires c = omega (arith, c.len.ensures, c.args.divs.ok)

pub loop-div-init : goal.loop-div-init
loop-div-init c = hung-first c.args.divs.items c.in_ok-hanging.hanging c.len.result (omega (arith, c.len.ensures, c.args.divs.ok))
    c.in_ok-hanging.ensures

pub hang_div-requires : goal.hang_div-requires
hang_div-requires c = hung-fits c.args.divs.items c.loop-div.divs.items c.pop.new.self.items c.in-Some.div c.loop-div.hanging c.requires
    c.loop-div.invariant c.in-Some.ensures.items

pub loop-div-preserved : goal.loop-div-preserved
loop-div-preserved c = hung-next c.args.divs.items c.loop-div.divs.items c.pop.new.self.items c.in-Some.div c.loop-div.hanging
    c.hang_div.new.hanging c.requires c.loop-div.invariant c.in-Some.ensures.items (c.in_ok-hang_div.ensures {u = tt})

pub returns : goal.returns
returns c = (c.take_last.ensures [] (below 0 c.args.divs.items) (hung-end c.args.divs.items c.loop-div.divs.items c.loop-div.hanging
    (none-of c.loop-div.divs.items (omega (arith, c.in_default.ensures.cases.0, c.loop-div.divs.ok))) c.loop-div.invariant)).0
