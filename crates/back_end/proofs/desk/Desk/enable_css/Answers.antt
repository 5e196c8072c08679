-- `CSS.enable` tells each sheet, where CSS was off; it is refused while DOM is off.
use Rattle.back_end.proofs.SeatLemmas.{on_ok}
use Rattle.back_end.proofs.SheetSeats.{css-enabled-sent}
use Rattle.back_end.proofs.desk.Desk.enable_css.Goals as goal

pub returns-clause-sent : goal.returns-clause-sent
returns-clause-sent c = λ state stands.
    on_ok c.write_reply.result _ _ c.write_reply.ensures.ok
    (css-enabled-sent c.args.self.now c.args.side.now state c.args.id c.book.result.now c.args.out.now.items c.switch.new.out.items
    c.write_reply.new.out.items stands
    c.requires.on c.book.ensures c.in_ok-switch.ensures.sent)
