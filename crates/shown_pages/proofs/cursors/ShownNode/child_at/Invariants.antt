use Rattle.std.proofs.Common.{◌≡◌, ◌-◌}
use Rattle.node_tree.specs.Nodes.{tree_at}
use Rattle.shown_pages.proofs.cursors.ShownNode.child_at.Given as goal

abbrev pub invariant-loop : goal.invariant-loop
invariant-loop l = tree_at (l.i - l.counter) l.walk ≡ tree_at l.i l.self.children
