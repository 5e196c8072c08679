use Rattle.std.proofs.Common.{◌++◌, decimal, arith}
use Rattle.page_forms.proofs.RowNumbers.{digit_turned}
use Rattle.page_forms.proofs.row_scan.number_on.Goals as goal

pub digits-preserved : goal.digits-preserved
digits-preserved c =
    digit_turned c.digits.number c.in-Some.digit.now c.digits.rest.now c.in-Some.others.now (decimal c.args.first ++ c.args.digits.now)
    c.digits.invariant.0 (omega (arith, c.if-number-gt-MOST.false)) c.if-not-is_ascii_digit.ensures.cases c.in-Some.ensures.cases
    c.digits.invariant.2
