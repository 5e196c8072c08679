use Rattle.std.proofs.Common.{rules, ◌≡◌, length, arith}
use Rattle.page_forms.proofs.RowNumbers.{digits_on, zero_alone}
use Rattle.page_forms.proofs.row_scan.number_in.Goals as goal

pub returns-then-digit-gt0 : goal.returns-then-digit-gt0
returns-then-digit-gt0 c =
    digits_on c.number_on.result c.in_ok-first.first.now c.args.text.now c.as_bytes.result.now c.in_ok-first.others.now
    c.as_bytes.ensures.value c.if-not-is_ascii_digit.ensures.cases c.in_ok-first.ensures.cases c.number_on.ensures

pub returns-then-is_empty : goal.returns-then-is_empty
returns-then-is_empty c =
    let none_left : length c.in_ok-first.others.now ≡ 0 = search rules in
    zero_alone c.in_ok-first.first.now c.args.text.now c.as_bytes.result.now c.in_ok-first.others.now c.as_bytes.ensures.value
    c.if-not-is_ascii_digit.ensures.cases (omega (arith, c.if-digit-gt0.false)) none_left c.in_ok-first.ensures.cases
