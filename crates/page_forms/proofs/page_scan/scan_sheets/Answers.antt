use Rattle.std.proofs.Common.{subst}
use Rattle.page_forms.specs.Spelt.{ReadsAs}
use Rattle.page_forms.specs.PageForms.{sheet_value}
use Rattle.page_forms.proofs.SpeltLists.{sheets_turn, sheets_end, value_shorter}
use Rattle.page_forms.proofs.page_scan.scan_sheets.Goals as goal

pub sheets-smaller : goal.sheets-smaller
sheets-smaller c =
    value_shorter sheet_value c.sheets.reader c.scan_sheet.new.reader c.in_ok-sheet.sheet
    (subst (λ ts. ReadsAs sheet_value ts c.in_ok-sheet.sheet c.scan_sheet.new.reader) c.sheets-test.ensures.1 c.in_ok-sheet.ensures)

pub sheets-preserved : goal.sheets-preserved
sheets-preserved c =
    sheets_turn c.args.reader.now c.sheets.reader c.scan_sheet.new.reader c.sheets.sheets.items c.push.new.self.items c.in_ok-sheet.sheet
    c.sheets.invariant
    (subst (λ ts. ReadsAs sheet_value ts c.in_ok-sheet.sheet c.scan_sheet.new.reader) c.sheets-test.ensures.1 c.in_ok-sheet.ensures)
    c.in_ok-push.ensures.items

pub returns : goal.returns
returns c = sheets_end c.args.reader.now c.sheets.reader c.take_end_array.new.self c.sheets.sheets.items c.sheets.invariant
    c.sheets-test.ensures
