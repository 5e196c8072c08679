use Rattle.std.proofs.Common.{◌≡◌, ℕ, length}
use Rattle.number_map.specs.Rows.{row_at}
use Rattle.number_map.proofs.rows.Row.shorten.Given as goal

abbrev pub invariant-loop-self : goal.invariant-loop-self
invariant-loop-self l = (other : ℕ) → row_at l.self.first l.self.numbers.items other ≡ row_at l.fn.self.first l.fn.self.numbers.items other

abbrev pub decreases-loop-self : goal.decreases-loop-self
decreases-loop-self l = length l.self.numbers.items
