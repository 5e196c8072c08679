use Rattle.std.proofs.Common.{sym, ap₂, ◌∙◌, arith}
use Rattle.std.specs.Prelude.{bytes_eq}
use Rattle.std.specs.Str.{str_to_ascii_uppercase}
use Rattle.dom_objects.proofs.UpperCase.{same_more, all_same, one_differs}
use Rattle.dom_objects.proofs.node_write.is_upper_case.Goals as goal

pub returns-then-text-at : goal.returns-then-text-at
returns-then-text-at c =
    one_differs c.as_bytes-text.result.now c.as_bytes-name.result.now c.loop-at.at
    (omega (arith, c.loop-at-test.true, c.if-text-name.false))
    (λ e. c.if-text-at.true (e ∙ sym c.to_ascii_uppercase.ensures.value))
    ∙ ap₂ (λ t n. bytes_eq t (str_to_ascii_uppercase n)) c.as_bytes-text.ensures.value c.as_bytes-name.ensures.value

pub loop-at-preserved : goal.loop-at-preserved
loop-at-preserved c = record {
  within = omega arith;
  same = same_more c.as_bytes-text.result.now c.as_bytes-name.result.now c.loop-at.at c.loop-at-test.true c.if-text-name.false
      c.loop-at.invariant.same (c.if-text-at.false ∙ c.to_ascii_uppercase.ensures.value);
}

pub returns : goal.returns
returns c =
    all_same c.as_bytes-text.result.now c.as_bytes-name.result.now c.loop-at.at c.loop-at-test.false c.if-text-name.false
    c.loop-at.invariant.same
    ∙ ap₂ (λ t n. bytes_eq t (str_to_ascii_uppercase n)) c.as_bytes-text.ensures.value c.as_bytes-name.ensures.value
