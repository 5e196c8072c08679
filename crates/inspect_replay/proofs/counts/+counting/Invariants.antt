-- The numbers so far, with those of the children that are left.
use Rattle.std.proofs.Common.{◌≡◌, ◌-◌, ◌*◌}
use Rattle.node_tree.specs.Nodes.{branch_count, from}
use Rattle.front_mirror.specs.Shown.{known_at}
use Rattle.inspect_replay.specs.Tallies.{known_in, plus}
use Rattle.inspect_replay.specs.CountsSeen.{known_of}
use Rattle.inspect_replay.proofs.counts.+counting.Given as goal

abbrev pub decreases-count_children : goal.decreases-count_children
decreases-count_children l = 2 * branch_count (known_at l.id l.mirror.now) - 1

abbrev pub decreases-count_node : goal.decreases-count_node
decreases-count_node l = 2 * branch_count (known_at l.id l.mirror.now)

abbrev pub invariant-count_children-loop-i : goal.invariant-count_children-loop-i
invariant-count_children-loop-i l =
    plus (known_of l.known) (known_in (from l.i (known_at l.id l.mirror).children))
    ≡ plus (known_of l.initial.known) (known_in (known_at l.id l.mirror).children)
