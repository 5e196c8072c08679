-- What is drawn.
use Rattle.std.proofs.Common.{◌≡◌, ℕ, ◌+◌, ◌*◌, ◌<◌, ◌%◌, ◌/◌, sym, ap, ◌∙◌, arith}
use Rattle.std.proofs.Math.Nat.{add-mul-mod_self_left, div-add-mod}
use Rattle.drill_script.specs.Draws.{drawn}

-- a number that is drawn is below its limit
pub drawn-below : (x m : ℕ) → 0 < m → drawn x m < m
unfolding drawn
drawn-below x m h = omega arith

-- a part of a sum may be cut down before
pub mod-within : (a b n : ℕ) → (a % n + b) % n ≡ (a + b) % n
mod-within a b n =
    let e : (a % n + b) + n * (a / n) ≡ a + b = omega (arith, div-add-mod a n) in
    sym (add-mul-mod_self_left (a % n + b) n (a / n)) ∙ ap (λ k. k % n) e
