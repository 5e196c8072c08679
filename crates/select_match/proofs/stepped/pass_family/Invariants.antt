-- The siblings that are left, and those that were passed.
use Rattle.std.proofs.Common.{[], map, length}
use Rattle.select_match.specs.Steps.{step_seen, chains_in}
use Rattle.select_match.specs.Families.{FacesLast}
use Rattle.select_match.proofs.StepLemmas.{Passing}
use Rattle.select_match.proofs.stepped.pass_family.Given as goal

abbrev pub invariant-loop-other : goal.invariant-loop-other
invariant-loop-other l = record {
  passing : Passing l.node (chains_in [] (map step_seen l.steps)) l.before.items l.around.items;
  faces : FacesLast l.family l.before.items;
}

abbrev pub decreases-loop-other : goal.decreases-loop-other
decreases-loop-other l = length l.before.items
