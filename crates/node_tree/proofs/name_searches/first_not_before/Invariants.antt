-- The names left of the lower bound are before the one that is looked for.
use Rattle.std.proofs.Common.{◌≡◌, ◌≤◌, ◌-◌, drop, length}
use Rattle.node_tree.specs.Searches.{shifted, search_name}
use Rattle.node_tree.proofs.name_searches.first_not_before.Given as goal

abbrev pub invariant-halves : goal.invariant-halves
invariant-halves l =
    (l.low ≤ l.high) × (l.high ≤ length l.pairs)
    × (search_name l.name l.pairs ≡ shifted l.low (search_name l.name (drop l.low l.pairs)))

abbrev pub decreases-halves : goal.decreases-halves
decreases-halves l = l.high - l.low
