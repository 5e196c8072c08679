-- The page goes: what is told of it is told in two parts.
use Rattle.back_end.proofs.GuestSteps.{left-joined}
use Rattle.back_end.proofs.desk.Desk.leave.Goals as goal

pub returns-clause-sent : goal.returns-clause-sent
returns-clause-sent c =
    left-joined c.args.self.now c.args.book.now c.args.out.now.items c.tell_load.new.out.items c.tell_gone.new.out.items
    (c.in_ok-tell_load.ensures {u = tt}) (c.in_ok-tell_gone.ensures {u = tt})
