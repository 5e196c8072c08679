-- The selectors that are left give the same answer.
use Rattle.std.proofs.Common.{◌≡◌, drop}
use Rattle.selectors.specs.Lists.{list_seen}
use Rattle.select_match.specs.Steps.{all_stepped}
use Rattle.select_match.proofs.steps.all_stepped.Given as goal

abbrev pub invariant-loop-i : goal.invariant-loop-i
invariant-loop-i l = all_stepped (drop l.i (list_seen l.l)) ≡ all_stepped (list_seen l.l)
