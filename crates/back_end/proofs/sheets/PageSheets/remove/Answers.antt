-- What is left has its numbers.
use Rattle.back_end.proofs.SheetLemmas.{removed-kept}
use Rattle.back_end.proofs.sheets.PageSheets.remove.Goals as goal

pub invariant_of-self : goal.invariant_of-self
invariant_of-self c = removed-kept c.args.number c.self.inside.next c.self.inside.book c.drop_sheet.new.book c.self.invariant
    c.drop_sheet.ensures.others
