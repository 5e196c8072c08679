use Rattle.std.proofs.Common.{ap, sym, ◌∙◌, arith, is_some, not}
use Rattle.front_mirror.proofs.PlaceLemmas.{slot-past, slot-get, emptied-same, emptied-set}
use Rattle.front_mirror.proofs.places.empty_at.Goals as goal

pub returns-then-i-slots-clause-closed : goal.returns-then-i-slots-clause-closed
returns-then-i-slots-clause-closed g c = sym (ap is_some (slot-past c.args.i c.args.slots.now (omega (arith, c.if-i-slots.true))))

pub returns-then-i-slots-clause-slots : goal.returns-then-i-slots-clause-slots
returns-then-i-slots-clause-slots g c = emptied-same c.args.i c.args.slots.now
    (ap is_some (slot-past c.args.i c.args.slots.now (omega (arith, c.if-i-slots.true))))

pub returns-then-is_none-clause-closed : goal.returns-then-is_none-clause-closed
returns-then-is_none-clause-closed g c =
    sym (ap is_some (slot-get c.args.i c.args.slots.now c.index-slots-i.result (omega (arith, c.if-i-slots.false)))
    ∙ c.is_none.ensures ∙ ap not c.if-is_none.true)

pub returns-then-is_none-clause-slots : goal.returns-then-is_none-clause-slots
returns-then-is_none-clause-slots g c = emptied-same c.args.i c.args.slots.now (sym (returns-then-is_none-clause-closed g c))

pub returns-clause-closed : goal.returns-clause-closed
returns-clause-closed g c =
    sym (ap is_some (slot-get c.args.i c.args.slots.now c.index-slots-i.result (omega (arith, c.if-i-slots.false)))
    ∙ c.is_none.ensures ∙ ap not c.if-is_none.false)

pub returns-clause-slots : goal.returns-clause-slots
returns-clause-slots g c = sym (emptied-set c.args.i c.args.slots.now)
