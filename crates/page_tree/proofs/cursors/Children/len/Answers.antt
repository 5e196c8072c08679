-- A key for each child.
use Rattle.std.proofs.Common.{ap, ◌∙◌}
use Rattle.node_tree.specs.Nodes.{width}
use Rattle.page_tree.proofs.HangLemmas.{hangs-width}
use Rattle.page_tree.proofs.cursors.Children.len.Goals as goal

pub returns : goal.returns
returns c = c.len.ensures ∙ hangs-width c.self.inside.arena.now c.self.inside.keys.now c.self.invariant ∙ ap width c.self.view_is
