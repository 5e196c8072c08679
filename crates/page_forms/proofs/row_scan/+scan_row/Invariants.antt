-- The nodes so far lie on the pile, above what was on it, and are those of the rows up to the next one.
use Rattle.std.proofs.Common.{◌+◌, ◌*◌, length}
use Rattle.page_forms.specs.RowForms.{row_start, place}
use Rattle.page_forms.proofs.RowsBelow.{Piled}
use Rattle.page_forms.proofs.row_scan.+scan_row.Given as goal

abbrev pub decreases-scan_row : goal.decreases-scan_row
decreases-scan_row l = 3 * l.levels + 1

abbrev pub decreases-scan_children : goal.decreases-scan_children
decreases-scan_children l = 3 * l.levels

abbrev pub decreases-scan_below : goal.decreases-scan_below
decreases-scan_below l = 3 * l.levels + 2

abbrev pub invariant-scan_below-rows : goal.invariant-scan_below-rows
invariant-scan_below-rows l =
    Piled l.up l.from l.fn.pile.items l.pile.items (place l.fn.ahead l.fn.reader) (place l.ahead l.reader)

abbrev pub decreases-scan_below-rows : goal.decreases-scan_below-rows
decreases-scan_below-rows l = length (row_start l.ahead.up l.reader)
