-- The steps that were added and those of the compounds that are left make up the whole.
use Rattle.std.proofs.Common.{◌≡◌, ◌++◌, map, drop}
use Rattle.selectors.specs.Forms.{compound_seen}
use Rattle.select_match.specs.Steps.{step_seen, steps_of_chain}
use Rattle.select_match.proofs.steps.add_chain.Given as goal

abbrev pub invariant-loop-i : goal.invariant-loop-i
invariant-loop-i l = map step_seen l.steps.items ++ steps_of_chain (map compound_seen (drop l.i l.compounds))
    ≡ map step_seen l.initial.steps.items ++ steps_of_chain (map compound_seen l.compounds)
