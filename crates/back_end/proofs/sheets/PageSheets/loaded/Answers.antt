-- Each sheet of a page that may be loaded fits.
use Rattle.back_end.proofs.SheetLemmas.{loaded-fault}
use Rattle.back_end.proofs.sheets.PageSheets.loaded.Goals as goal

pub unreachable-requires : goal.unreachable-requires
unreachable-requires c =
    loaded-fault c.args.next c.loop-i.i c.args.medium c.args.forms.now c.index-forms-i.result c.as_str.result.now c.loop-i.sheets
    c.add.result
    c.in-Err-Fault.field-0 c.in-Err-Fault.field-0-0
    c.requires.can c.loop-i-test.true c.index-forms-i.is c.as_str.ensures c.loop-i.invariant c.in-Err-Fault.is c.in-Err-Fault.field-0-is
    c.add.ensures.fault
