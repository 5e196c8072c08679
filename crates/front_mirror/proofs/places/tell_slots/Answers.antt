use Rattle.std.proofs.Common.{◌≡◌, arith}
use Rattle.std.specs.Prelude.{option_map, IfSome}
use Rattle.std.proofs.lemmas.List.{take_all}
use Rattle.front_mirror.specs.Panels.{face, MayShow}
use Rattle.front_mirror.proofs.PanelsTold.{told_more, kinds_more, rest_more}
use Rattle.front_mirror.proofs.places.tell_slots.Goals as goal

pub loop-slot-preserved : goal.loop-slot-preserved
loop-slot-preserved g c = record {
  kinds = kinds_more (option_map g.P.Panel.kind_of) c.loop-slot.slots c.args.slots.now c.loop-slot.slot-index c.slot-item.result
      c.tell_slot.new.slot c.in-Ok.ensures.kind c.loop-slot.invariant.kinds;
  rest = rest_more c.loop-slot.slots c.args.slots.now c.loop-slot.slot-index c.tell_slot.new.slot c.loop-slot.invariant.rest;
  shows = λ before turns may. told_more
      (λ o. IfSome o (λ b. MayShow c.args.change.now (g.P.Panel.kind_of b) (g.P.Panel.shown b) before))
      (λ o. IfSome o (λ b. g.P.Panel.shown b ≡ face (g.P.Panel.kind_of b) c.args.mirror.now))
      c.loop-slot.slots c.args.slots.now c.loop-slot.slot-index c.slot-item.result c.tell_slot.new.slot
      (omega arith) c.loop-slot.invariant.rest (c.in-Ok.ensures.shows before turns) may (c.loop-slot.invariant.shows before turns may);
}

pub returns-in-Err-clause-kinds : goal.returns-in-Err-clause-kinds
returns-in-Err-clause-kinds g c = kinds_more (option_map g.P.Panel.kind_of) c.loop-slot.slots c.args.slots.now c.loop-slot.slot-index
    c.slot-item.result c.tell_slot.new.slot c.in-Err.ensures.kind c.loop-slot.invariant.kinds

pub returns-clause-shows : goal.returns-clause-shows
returns-clause-shows g c = λ before turns may.
    let whole = take_all c.loop-slot.slot-index c.loop-slot.slots (omega arith) in
    rw whole at (c.loop-slot.invariant.shows before turns may)
