use Rattle.std.proofs.Common.{sym, ap, ◌∙◌, ◌-◌, length, slice_get}
use Rattle.number_map.proofs.RowLemmas.{row-popped}
use Rattle.number_map.proofs.rows.Row.shorten.Goals as goal

pub loop-self-preserved : goal.loop-self-preserved
loop-self-preserved c other =
    row-popped _ _ _ c.pop.result _ other c.pop.ensures.items
    (ap (λ xs. slice_get xs (length xs - 1)) (sym c.deref.ensures.value) ∙ sym c.in-Some-None.ensures.value)
    c.in-Some-None.field-0-is
    ∙ c.loop-self.invariant other
