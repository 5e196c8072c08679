-- The steps that are left, and the chain on their left.
use Rattle.std.proofs.Common.{map, drop}
use Rattle.select_match.specs.Steps.{step_seen}
use Rattle.select_match.proofs.StepLemmas.{Visiting}
use Rattle.select_match.proofs.steps.visit.Given as goal

abbrev pub invariant-loop-i : goal.invariant-loop-i
invariant-loop-i l = Visiting l.node (map step_seen l.steps) (map step_seen (drop l.i l.steps)) (drop l.i l.around) l.left l.found
    l.beside.items l.initial.beside.items l.inside.items l.initial.inside.items
