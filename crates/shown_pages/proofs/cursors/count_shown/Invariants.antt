use Rattle.std.proofs.Common.{◌≡◌, ◌+◌, ◌≤◌}
use Rattle.node_tree.specs.Nodes.{from, width}
use Rattle.shown_pages.specs.ShownPages.{shown_nodes}
use Rattle.shown_pages.proofs.cursors.count_shown.Given as goal

abbrev pub invariant-loop-i : goal.invariant-loop-i
invariant-loop-i l = record {
  same : l.count + width (shown_nodes l.mode (from l.i l.children)) ≡ width (shown_nodes l.mode l.children);
  few : l.count ≤ l.i;
}
