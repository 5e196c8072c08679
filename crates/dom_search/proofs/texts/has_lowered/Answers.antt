-- The part does not stand at this place.
use Rattle.std.proofs.Common.{ℕ, List, nat_eq, ◌∙◌, sym, ap}
use Rattle.std.specs.List.{starts_with}
use Rattle.std.proofs.lemmas.List.{take_rest}
use Rattle.dom_search.specs.Found.{lowered}
use Rattle.dom_search.proofs.TextLemmas.{lowered-more}
use Rattle.dom_search.proofs.texts.has_lowered.Goals as goal

pub loop-i-preserved : goal.loop-i-preserved
loop-i-preserved c = lowered-more c.args.part.now c.args.text.now c.loop-i.i c.loop-i-test.true
    (ap (λ (l : List ℕ). starts_with nat_eq (lowered l) c.args.part.now)
    (sym (take_rest c.args.text.now c.loop-i.i)) ∙ sym c.begins_with.ensures ∙ c.if-begins_with.false) ∙ c.loop-i.invariant
