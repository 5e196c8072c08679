-- How many nodes more a page may have.
use Rattle.std.specs.Prelude.{ℕ, ◌-◌, nat_le, cond, Option, Some, None}

-- how many are left after so many; none where they are more
abbrev pub nodes_left : ℕ → ℕ → Option ℕ
nodes_left count room = cond (nat_le count room) (Some (room - count)) None
