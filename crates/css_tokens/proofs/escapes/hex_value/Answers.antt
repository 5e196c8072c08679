use Rattle.std.proofs.Common.{ℕ, ◌+◌, ◌*◌, ◌^◌, ◌<◌, ◌≤◌, lit<, arith}
use Rattle.std.proofs.Math.Nat.{pow-le-pow_right}
use Rattle.css_tokens.proofs.escapes.hex_value.Goals as goal

-- six hex digits at most, so the number stays small
small : (value index : ℕ) → 15 * value + 36 ≤ 36 * 16 ^ index → index ≤ 6 → value * 16 + 36 < 4294967296
small value index so_far few = let power : 16 ^ index ≤ 16777216 = pow-le-pow_right {n = 16} (lit< tt) few in omega arith

pub overflow_mul-value : goal.overflow_mul-value
overflow_mul-value c = let fits = small c.loop-digit.value c.loop-digit.digit-index c.loop-digit.invariant.small
    (omega arith) in omega arith

pub overflow_add-value : goal.overflow_add-value
overflow_add-value c = let fits = small c.loop-digit.value c.loop-digit.digit-index c.loop-digit.invariant.small
    (omega arith) in omega arith
