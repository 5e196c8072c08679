-- What is left is the same.
use Rattle.std.proofs.Common.{◌≡◌, ◌++◌, length}
use Rattle.node_tree.specs.Shelves.{pairs_of}
use Rattle.node_tree.proofs.attribute_walks.ahead.Given as goal

abbrev pub invariant-shelves : goal.invariant-shelves
invariant-shelves l = l.here ++ pairs_of l.behind ≡ l.front ++ pairs_of l.later

abbrev pub decreases-shelves : goal.decreases-shelves
decreases-shelves l = length l.behind
