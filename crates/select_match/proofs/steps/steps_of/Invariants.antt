-- The steps that were added and those of the selectors that are left make up the whole.
use Rattle.std.proofs.Common.{◌≡◌, ◌++◌, map, drop}
use Rattle.selectors.specs.Lists.{list_seen}
use Rattle.select_match.specs.Steps.{step_seen, steps_of}
use Rattle.select_match.proofs.steps.steps_of.Given as goal

abbrev pub invariant-loop-i : goal.invariant-loop-i
invariant-loop-i l = map step_seen l.steps.items ++ steps_of (drop l.i (list_seen l.l)) ≡ steps_of (list_seen l.l)
