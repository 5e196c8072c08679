-- All before the shelf at the lower bound are before the name, and all from the later shelf at the upper one on behind it.
use Rattle.std.proofs.Common.{◌≡◌, ◌≤◌, ◌-◌, drop, length, true}
use Rattle.node_tree.specs.Labels.{is_below}
use Rattle.node_tree.specs.Searches.{shifted, search_name}
use Rattle.node_tree.specs.Shelves.{pairs_of, pairs_in, all_of, start_of}
use Rattle.node_tree.proofs.shelves.Shelves.shelves_before.Given as goal

abbrev pub invariant-shelves : goal.invariant-shelves
invariant-shelves l =
    (l.low ≤ l.high) × (l.high ≤ length l.self.later.items)
    × (search_name l.name (pairs_in l.self)
    ≡ shifted (start_of (all_of l.self) l.low) (search_name l.name (pairs_of (drop l.low (all_of l.self)))))
    × (is_below l.name (pairs_of (drop l.high l.self.later.items)) ≡ true)

abbrev pub decreases-shelves : goal.decreases-shelves
decreases-shelves l = l.high - l.low
