-- The group that is going on is ended, while DOM is on.
use Rattle.back_end.proofs.SeatLemmas.{on_ok}
use Rattle.back_end.proofs.ScriptLemmas.{in_any}
use Rattle.back_end.proofs.UndoSeats.{marked-both, marked-sent}
use Rattle.back_end.proofs.desk.Desk.end_group.Goals as goal

pub returns-clause-stands : goal.returns-clause-stands
returns-clause-stands c = λ state both.
    in_any c.write_reply.result _ (marked-both c.args.self.now c.args.history.now c.mark.new.self c.args.side.now state c.args.id both
    c.requires.on c.mark.ensures)

pub returns-clause-sent : goal.returns-clause-sent
returns-clause-sent c = λ state stands.
    on_ok c.write_reply.result _ _ c.write_reply.ensures.ok
    (marked-sent c.args.self.now c.args.side.now state c.args.id c.args.out.now.items c.write_reply.new.out.items stands
    c.requires.on)
