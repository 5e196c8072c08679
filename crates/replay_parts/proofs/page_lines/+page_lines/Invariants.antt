use Rattle.std.proofs.Common.{◌≡◌, ◌+◌, ◌*◌, ◌++◌}
use Rattle.node_tree.specs.Nodes.{from, node_count, branch_count}
use Rattle.front_mirror.specs.Outline.{lines_at}
use Rattle.inspect_world.specs.Scripts.{page_line}
use Rattle.replay_parts.proofs.page_lines.+page_lines.Given as goal

abbrev pub decreases-write_node : goal.decreases-write_node
decreases-write_node l = 2 * branch_count l.node.now

abbrev pub decreases-write_children : goal.decreases-write_children
decreases-write_children l = 2 * node_count l.children.now + 1

abbrev pub invariant-write_children-loop-i : goal.invariant-write_children-loop-i
invariant-write_children-loop-i l =
    l.out.items ++ lines_at page_line l.level (from l.i l.children) ≡ l.initial.out.items ++ lines_at page_line l.level l.children
