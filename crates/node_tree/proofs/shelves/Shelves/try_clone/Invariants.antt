-- The shelves before the index are copied.
use Rattle.std.proofs.Common.{◌≡◌, take}
use Rattle.node_tree.specs.Shelves.{pairs_of, AreFilled}
use Rattle.node_tree.proofs.shelves.Shelves.try_clone.Given as goal

abbrev pub invariant-loop-shelf : goal.invariant-loop-shelf
invariant-loop-shelf l =
    (pairs_of l.later.items ≡ pairs_of (take l.shelf-index l.shelf-items)) × AreFilled l.later.items
