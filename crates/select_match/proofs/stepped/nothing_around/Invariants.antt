-- As many as have been counted.
use Rattle.std.proofs.Common.{◌≡◌, replicate}
use Rattle.select_match.specs.Steps.{nothing}
use Rattle.select_match.proofs.stepped.nothing_around.Given as goal

abbrev pub invariant-loop-i : goal.invariant-loop-i
invariant-loop-i l = l.around.items ≡ replicate l._i nothing
