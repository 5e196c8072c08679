-- The part does not stand at this place.
use Rattle.std.proofs.Common.{ℕ, List, nat_eq, ◌∙◌, sym, ap}
use Rattle.std.specs.List.{starts_with}
use Rattle.std.proofs.lemmas.List.{take_rest}
use Rattle.select_match.proofs.TextLemmas.{has_part-more}
use Rattle.select_match.proofs.texts.has_part.Goals as goal

pub loop-i-preserved : goal.loop-i-preserved
loop-i-preserved c = has_part-more c.args.part.now c.args.text.now c.loop-i.i c.loop-i-test.true
    (ap (λ (l : List ℕ). starts_with nat_eq l c.args.part.now)
    (sym (take_rest c.args.text.now c.loop-i.i)) ∙ sym c.starts_with.ensures.value ∙ c.if-starts_with.false) ∙ c.loop-i.invariant
