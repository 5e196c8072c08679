-- The node is pushed, and the pause told with its id.
use Rattle.back_end.proofs.SeatLemmas.{on_ok}
use Rattle.back_end.proofs.ScriptLemmas.{in_any}
use Rattle.back_end.proofs.PauseSeats.{removal-sent}
use Rattle.back_end.proofs.desk.Desk.tell_removal.Goals as goal

pub returns-clause-stands : goal.returns-clause-stands
returns-clause-stands c = λ state stands can. in_any c.tell_paused.result _ ((c.in_ok-node.ensures {u = tt}).stands state stands can)

pub returns-clause-sent : goal.returns-clause-sent
returns-clause-sent c = λ state stands can.
    on_ok c.tell_paused.result _ _ c.tell_paused.ensures
    (removal-sent state c.args.node c.in_ok-node.node c.args.out.now.items c.push.new.out.items c.tell_paused.new.out.items
    ((c.in_ok-node.ensures {u = tt}).id state stands can) ((c.in_ok-node.ensures {u = tt}).sent state stands can))
