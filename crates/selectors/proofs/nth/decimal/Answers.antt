use Rattle.std.proofs.Common.{ℕ, ◌+◌, ◌*◌, ◌^◌, ◌<◌, ◌≤◌, lit<, arith}
use Rattle.std.proofs.Math.Nat.{pow-le-pow_right}
use Rattle.selectors.proofs.nth.decimal.Goals as goal

-- nine digits at most, so the number stays small
small : (value index : ℕ) → 9 * value + 36 ≤ 36 * 10 ^ index → index ≤ 8 → value * 10 + 36 < 4294967296
small value index so_far few = let power : 10 ^ index ≤ 100000000 = pow-le-pow_right {n = 10} (lit< tt) few in omega arith

pub overflow_mul-value : goal.overflow_mul-value
overflow_mul-value c = let fits = small c.loop-digit.value c.loop-digit.digit-index c.loop-digit.invariant.small
    (omega arith) in omega arith

pub overflow_add-value : goal.overflow_add-value
overflow_add-value c = let fits = small c.loop-digit.value c.loop-digit.digit-index c.loop-digit.invariant.small
    (omega arith) in omega arith
