use Rattle.std.proofs.Common.{is_some, sym, ap, ◌∙◌}
use Rattle.number_map.proofs.PlaceLemmas.{seats-next}
use Rattle.number_map.proofs.long_lists.seats_of.Goals as goal

pub loop-i-preserved : goal.loop-i-preserved
loop-i-preserved c =
    seats-next c.loop-i.seats _ c.args.numbers.now c.loop-i.i _ c.loop-i-test.true c.loop-i.invariant
    (sym (c.is_some.ensures ∙ ap is_some c.get.ensures) ∙ c.if-is_some.false) c.in_ok-insert.ensures.put
