-- An ask that names no node is answered by the book.
use Rattle.back_end.proofs.SeatLemmas.{on_ok}
use Rattle.back_end.proofs.SheetSeats.{plain-sent}
use Rattle.back_end.proofs.desk.Desk.ask_styles.Goals as goal

pub returns-in-GetStyleSheetText : goal.returns-in-GetStyleSheetText
returns-in-GetStyleSheetText c = λ state stands.
    on_ok c.ask.result _ _ c.ask.ensures
    (plain-sent c.args.self.now c.args.side.now state c.args.id c.args.ask.now c.page.result.now c.book.result.now c.medium.result.now
    c.args.out.now.items
    c.ask.new.out.items stands
    c.in-GetStyleSheetText.is c.page.ensures c.book.ensures c.medium.ensures)
