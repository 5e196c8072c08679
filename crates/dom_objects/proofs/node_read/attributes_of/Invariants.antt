use Rattle.std.proofs.Common.{◌≡◌, length}
use Rattle.dom_objects.proofs.AttributeLists.{read_on, read_pairs}
use Rattle.dom_objects.proofs.node_read.attributes_of.Given as goal

-- the pairs so far and those of what is left are those of all
abbrev pub invariant-loop-rest : goal.invariant-loop-rest
invariant-loop-rest l = read_on l.pairs (read_pairs l.rest) ≡ read_pairs l.values

abbrev pub decreases-loop-rest : goal.decreases-loop-rest
decreases-loop-rest l = length l.rest
