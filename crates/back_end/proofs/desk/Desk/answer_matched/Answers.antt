-- An ask that names no known element is refused.
use Rattle.std.proofs.Common.{◌∙◌}
use Rattle.back_end.proofs.SeatLemmas.{on_ok}
use Rattle.back_end.proofs.SheetSeats.{element-is, node-refused}
use Rattle.back_end.proofs.desk.Desk.answer_matched.Goals as goal

pub returns : goal.returns
returns c = λ state stands.
    on_ok c.refuse.result _ _ (c.refuse.ensures state)
    (node-refused state c.args.id c.args.node c.in-Err.why c.args.out.now.items c.refuse.new.out.items
    (element-is c.args.self.now c.args.side.now state c.page.result.now c.args.node c.element_named.result stands c.page.ensures
    c.element_named.ensures.value ∙ c.in-Err.is))
