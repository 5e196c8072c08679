use Rattle.std.proofs.Common.{◌≡◌}
use Rattle.node_tree.specs.Nodes.{from}
use Rattle.shown_pages.specs.ShownPages.{shown_nodes}
use Rattle.shown_pages.proofs.cursors.next_shown.Given as goal

abbrev pub invariant-loop-i : goal.invariant-loop-i
invariant-loop-i l = shown_nodes l.mode (from l.i l.children) ≡ shown_nodes l.mode (from l.place l.children)
