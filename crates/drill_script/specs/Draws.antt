-- Numbers that are drawn: a linear congruential generator of 64 bits, of which the high bits are taken.
use Rattle.std.specs.Prelude.{ℕ, ◌+◌, ◌*◌, ◌/◌, ◌%◌, ◌^◌}

-- the generator's number after x
unfoldable pub next_number : ℕ → ℕ
next_number x = (x * 6364136223846793005 + 1442695040888963407) % 2 ^ 64

-- what is drawn below m where the generator is at x, which then is at the number after it
unfoldable pub drawn : ℕ → ℕ → ℕ
drawn x m = next_number x / 2 ^ 33 % m
