use Rattle.std.proofs.Common.{length}
use Rattle.drill_script.proofs.HangLemmas.{Hung}
use Rattle.drill_script.proofs.nodes.nest.Given as goal

abbrev pub invariant-loop-div : goal.invariant-loop-div
invariant-loop-div l = Hung l.fn.divs.items l.divs.items l.hanging

abbrev pub decreases-loop-div : goal.decreases-loop-div
decreases-loop-div l = length l.divs.items
