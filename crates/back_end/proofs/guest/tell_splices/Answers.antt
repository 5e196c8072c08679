-- A splice more, or all.
use Rattle.std.proofs.Common.{◌∙◌}
use Rattle.back_end.proofs.GuestSheets.{splices-turn}
use Rattle.back_end.proofs.guest.tell_splices.Goals as goal

pub loop-i-preserved : goal.loop-i-preserved
loop-i-preserved c =
    splices-turn c.args.css.now c.args.backs.now c.loop-i.i c.index-backs-i.result c.loop-i.out.items c.tell.new.out.items
    c.loop-i-test.true c.index-backs-i.is (c.in_ok-tell.ensures {u = tt}).sent
    ∙ c.loop-i.invariant
