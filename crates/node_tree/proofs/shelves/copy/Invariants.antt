-- The pairs before the index are copied.
use Rattle.std.proofs.Common.{◌≡◌, take}
use Rattle.node_tree.proofs.shelves.copy.Given as goal

abbrev pub invariant-loop-pair : goal.invariant-loop-pair
invariant-loop-pair l = l.copied.items ≡ take l.pair-index l.shelf.items
