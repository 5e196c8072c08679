-- Ids. `pushed` has all serials pushed since the session began, and `since` is its length at the last reset.
use Rattle.std.specs.Prelude.{ℕ, ◌+◌, List, drop}
use Rattle.node_binding.specs.Counts.{last_standing}

-- The greatest place above `since`, counted from 1, at which the serial stands; no id where it stands nowhere there.
abbrev pub id_of : List ℕ → ℕ → ℕ → ℕ
id_of pushed since s = since + last_standing (drop since pushed) s
