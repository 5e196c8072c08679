-- The parent stands before its children.
use Rattle.node_tree.specs.Seen.{seen_id}
use Rattle.front_mirror.specs.Tables.{tree_in}
use Rattle.front_mirror.specs.Walks.{rank_of}
use Rattle.front_mirror.proofs.sizes.+shift_up.Given as goal

abbrev pub decreases-shift_up : goal.decreases-shift_up
decreases-shift_up l = rank_of seen_id l.id (tree_in l.table.now l.roots.now)
