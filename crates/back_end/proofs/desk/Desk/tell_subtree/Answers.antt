-- The node is pushed, and then the target, and the pause told with their ids.
use Rattle.back_end.specs.Steps.{push_step}
use Rattle.back_end.proofs.SeatLemmas.{on_ok}
use Rattle.back_end.proofs.ScriptLemmas.{in_any}
use Rattle.back_end.proofs.PauseSeats.{after-can, subtree-sent}
use Rattle.back_end.proofs.desk.Desk.tell_subtree.Goals as goal

pub returns-clause-stands : goal.returns-clause-stands
returns-clause-stands c = λ state stands can.
    in_any c.tell_paused.result _
    ((c.in_ok-target.ensures {u = tt}).stands (push_step c.args.node state).state ((c.in_ok-node.ensures {u = tt}).stands state stands can)
    (after-can c.args.node state can))

pub returns-clause-sent : goal.returns-clause-sent
returns-clause-sent c = λ state stands can.
    let after = (push_step c.args.node state).state in
    let stands_after = (c.in_ok-node.ensures {u = tt}).stands state stands can in
    let can_after = after-can c.args.node state can in
    on_ok c.tell_paused.result _ _ c.tell_paused.ensures
    (subtree-sent state c.args.node c.args.target c.in_ok-node.node c.in_ok-target.target c.args.insertion c.args.out.now.items
    c.push.new.out.items c.push-2.new.out.items
    c.tell_paused.new.out.items stands.now can ((c.in_ok-node.ensures {u = tt}).id state stands can)
    ((c.in_ok-target.ensures {u = tt}).id after stands_after can_after)
    ((c.in_ok-node.ensures {u = tt}).sent state stands can) ((c.in_ok-target.ensures {u = tt}).sent after stands_after can_after))
