use Rattle.std.proofs.Common.{◌≡◌, ◌+◌, ◌*◌, ◌^◌, ◌≤◌, take}
use Rattle.selectors.specs.Nth.{decimal}
use Rattle.selectors.proofs.nth.decimal.Given as goal

abbrev pub invariant-loop-digit : goal.invariant-loop-digit
invariant-loop-digit l = record {
  so_far : l.value ≡ decimal (take l.digit-index l.digits);
  small : 9 * l.value + 36 ≤ 36 * 10 ^ l.digit-index;
}
