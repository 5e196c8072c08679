-- What is left to the place is behind the shelves that were passed.
use Rattle.std.proofs.Common.{◌≡◌, suc, ◌+◌}
use Rattle.node_tree.specs.Shelves.{all_of, start_of}
use Rattle.node_tree.proofs.shelves.Shelves.within.Given as goal

abbrev pub invariant-loop-k : goal.invariant-loop-k
invariant-loop-k l = start_of (all_of l.self) (suc l.k) + l.left ≡ l.i
