-- The numbers of the sheets are those of before; without memory, none is left.
use Rattle.std.proofs.Common.{arith}
use Rattle.back_end.proofs.SpliceSeats.{edited-below, stored-below}
use Rattle.back_end.proofs.sheets.PageSheets.edit.Goals as goal

pub invariant_of-self : goal.invariant_of-self
invariant_of-self c = (
  c.self.invariant.0,
  edited-below c.args.edit.now c.self.inside.next c.self.inside.book c.edit.new.book c.in-Ok.backs.items
      c.in-Ok.ensures.done c.self.invariant.1,
)

pub invariant_of-self-in-Err-Memory : goal.invariant_of-self-in-Err-Memory
invariant_of-self-in-Err-Memory c = (omega arith, stored-below c.edit.new.book c.place_of.ensures.each)
