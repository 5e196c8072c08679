use Rattle.std.proofs.Common.{arith}
use Rattle.std.proofs.lemmas.Grind.{common_steps}
use Rattle.std.proofs.lemmas.List.Folds.{list_any_more}
use Rattle.front_mirror.proofs.DistinctLemmas.{twice_at, distinct_more, was_there, was_new}
use Rattle.front_mirror.proofs.checks.are_distinct.Goals as goal

pub returns-then-not-branch : goal.returns-then-not-branch
returns-then-not-branch c =
    twice_at _ _ c.loop-number-test.true (was_there _ _ _ c.in_ok-insert.ensures.added (c.loop-number.invariant.has _) c.if-not-branch.true)

pub loop-number-preserved : goal.loop-number-preserved
loop-number-preserved c = record {
  has = λ q. grind (arith, common_steps, list_any_more, c.loop-number.invariant.has q);
  distinct =
      distinct_more _ _ c.loop-number-test.true
      (was_new _ _ _ c.in_ok-insert.ensures.added (c.loop-number.invariant.has _) c.if-not-branch.false)
      c.loop-number.invariant.distinct;
}
