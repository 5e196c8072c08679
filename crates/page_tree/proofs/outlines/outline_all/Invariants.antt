-- The trees of the rows behind those that are left.
use Rattle.std.proofs.Common.{◌≡◌, ◌≤◌, ◌+◌, map, drop, length}
use Rattle.page_tree.specs.FlatRows.{row_of, outlined}
use Rattle.page_tree.proofs.outlines.outline_all.Given as goal

abbrev pub invariant-loop-i : goal.invariant-loop-i
invariant-loop-i l = record {
  inside : l.i ≤ length l.rows;
  so_far : l.outlines ≡ outlined (l.i + 1) (map row_of (drop l.i l.rows));
}

abbrev pub decreases-loop-i : goal.decreases-loop-i
decreases-loop-i l = l.i
