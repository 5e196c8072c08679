-- The digits so far are those of the number, before those that are left.
use Rattle.std.proofs.Common.{◌≡◌, ◌<◌, ◌++◌, length, decimal}
use Rattle.page_forms.proofs.row_scan.number_on.Given as goal

abbrev pub invariant-digits : goal.invariant-digits
invariant-digits l = (0 < l.number) × (l.number < 20000000000) × (decimal l.number ++ l.rest ≡ decimal l.first ++ l.fn.digits)

abbrev pub decreases-digits : goal.decreases-digits
decreases-digits l = length l.rest
