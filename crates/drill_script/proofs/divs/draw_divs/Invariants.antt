use Rattle.std.proofs.Common.{◌-◌}
use Rattle.drill_script.proofs.DivLemmas.{Drawing}
use Rattle.drill_script.proofs.divs.draw_divs.Given as goal

abbrev pub invariant-loop : goal.invariant-loop
invariant-loop l = Drawing l.count (l.count - l.counter) l.divs.items l.levels.items l.draws.at
