use Rattle.std.proofs.Common.{sym, ◌∙◌, arith}
use Rattle.front_mirror.proofs.PlaceLemmas.{slot-past, slot-get}
use Rattle.front_mirror.proofs.places.slot_at.Goals as goal

pub returns-then-i-slots : goal.returns-then-i-slots
returns-then-i-slots g c = sym (slot-past c.args.i c.args.slots.now (omega (arith, c.if-i-slots.true)))

pub returns-in-Some : goal.returns-in-Some
returns-in-Some g c = sym (slot-get c.args.i c.args.slots.now c.index-slots-i.result (omega (arith, c.if-i-slots.false))
    ∙ sym c.index-slots-i.is ∙ c.in-Some.is)

pub returns-in-None : goal.returns-in-None
returns-in-None g c = sym (slot-get c.args.i c.args.slots.now c.index-slots-i.result (omega (arith, c.if-i-slots.false))
    ∙ sym c.index-slots-i.is ∙ c.in-None.is)
