use Rattle.std.proofs.Common.{◌≡◌, [], map, length}
use Rattle.page_tree.specs.FlatRows.{row_of}
use Rattle.page_tree.proofs.RowLemmas.{onto}
use Rattle.page_tree.proofs.nested.nest.Given as goal

abbrev pub invariant-loop-row : goal.invariant-loop-row
invariant-loop-row l = onto 1 (map row_of l.rows.items) l.stack ≡ onto 1 (map row_of l.initial.rows.items) []

abbrev pub decreases-loop-row : goal.decreases-loop-row
decreases-loop-row l = length l.rows.items
