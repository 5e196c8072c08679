-- The numbers so far, with those of the children that are left.
use Rattle.std.proofs.Common.{◌≡◌, ◌-◌, ◌*◌}
use Rattle.node_tree.specs.Nodes.{branch_count, from}
use Rattle.front_mirror.specs.Shown.{known_at}
use Rattle.front_mirror.specs.Panels.{numbers_of}
use Rattle.panels.specs.Numbers.{numbers_in, plus}
use Rattle.panels.proofs.numbers.+counting.Given as goal

abbrev pub decreases-count_children : goal.decreases-count_children
decreases-count_children l = 2 * branch_count (known_at l.id l.mirror.now) - 1

abbrev pub decreases-count_node : goal.decreases-count_node
decreases-count_node l = 2 * branch_count (known_at l.id l.mirror.now)

abbrev pub invariant-count_children-loop-i : goal.invariant-count_children-loop-i
invariant-count_children-loop-i l =
    plus (numbers_in l.tally) (numbers_of (from l.i (known_at l.id l.mirror).children))
    ≡ plus (numbers_in l.initial.tally) (numbers_of (known_at l.id l.mirror).children)
