use Rattle.std.proofs.Common.{◌∙◌}
use Rattle.back_end.proofs.SheetSeats.{gone-turn}
use Rattle.back_end.proofs.sheet_acts.tell_all_gone.Goals as goal

pub loop-i-preserved : goal.loop-i-preserved
loop-i-preserved c =
    gone-turn c.args.book.now c.loop-i.i c.at.result.now c.loop-i.out.items c.write_event.new.out.items c.at.ensures.at
    c.in_ok-write_event.ensures.ok ∙ c.loop-i.invariant
