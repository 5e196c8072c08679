-- A number above all before it.
use Rattle.std.proofs.Common.{arith}
use Rattle.front_mirror.proofs.DistinctLemmas.{above_new, above_low, distinct_more}
use Rattle.front_mirror.proofs.checks.ascend.Goals as goal

pub loop-number-preserved : goal.loop-number-preserved
loop-number-preserved c = record {
  low = above_low _ _ _ c.loop-number-test.true c.loop-number.invariant.low (omega (arith, c.if-number-last.false));
  distinct = distinct_more _ _ c.loop-number-test.true
      (above_new _ _ _ c.loop-number.invariant.low (omega (arith, c.if-number-last.false))) c.loop-number.invariant.distinct;
}
