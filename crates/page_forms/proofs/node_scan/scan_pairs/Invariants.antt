-- The pairs so far, before those that are left, are those of the list.
use Rattle.std.proofs.Common.{length}
use Rattle.page_forms.proofs.SpeltLists.{PairsAhead}
use Rattle.page_forms.proofs.node_scan.scan_pairs.Given as goal

abbrev pub invariant-pairs : goal.invariant-pairs
invariant-pairs l = PairsAhead l.fn.reader l.pairs.items l.reader

abbrev pub decreases-pairs : goal.decreases-pairs
decreases-pairs l = length l.reader
