-- The sheets so far, before those that are left, are those of the list.
use Rattle.std.proofs.Common.{length}
use Rattle.page_forms.proofs.SpeltLists.{SheetsAhead}
use Rattle.page_forms.proofs.page_scan.scan_sheets.Given as goal

abbrev pub invariant-sheets : goal.invariant-sheets
invariant-sheets l = SheetsAhead l.fn.reader l.sheets.items l.reader

abbrev pub decreases-sheets : goal.decreases-sheets
decreases-sheets l = length l.reader
