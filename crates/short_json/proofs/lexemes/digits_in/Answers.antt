use Rattle.std.proofs.Common.{arith}
use Rattle.short_json.proofs.Taken.{digit_more, some_digits}
use Rattle.short_json.proofs.lexemes.digits_in.Goals as goal

pub loop-at-preserved : goal.loop-at-preserved
loop-at-preserved c = record {
  within = omega (arith, c.loop-at-test.true);
  none = λ e. let no : ⊥ = omega arith in absurd no;
  some = λ _. digit_more c.args.bytes.now c.loop-at.at c.loop-at.whole c.loop-at-test.true
      (omega (arith, c.if-is_ascii_digit.ensures.cases)) (omega (arith, c.if-is_ascii_digit.ensures.cases)) c.loop-at.invariant.none
      (some_digits c.loop-at.at c.loop-at.whole c.if-whole-eq0.either) c.loop-at.invariant.some
      (omega (arith, c.if-whole-ge-MOST_BEFORE_A_DIGIT.false));
}
