-- The next number is new, and the one after it is above all.
use Rattle.back_end.proofs.SheetLemmas.{below-absent, added-kept}
use Rattle.back_end.proofs.sheets.PageSheets.add.Goals as goal

pub add_sheet-requires-clause-new : goal.add_sheet-requires-clause-new
add_sheet-requires-clause-new c = below-absent c.self.inside.next c.self.inside.book c.self.invariant.1

pub invariant_of-self-2 : goal.invariant_of-self-2
invariant_of-self-2 c = added-kept c.self.inside.next c.args.origin c.args.text.now c.self.inside.book c.add_sheet.new.book
    c.self.invariant (c.in_ok-add_sheet.ensures {u = tt}).last
