-- A key for each child.
use Rattle.std.proofs.Common.{ap, ◌∙◌}
use Rattle.node_tree.specs.Nodes.{width, Branch}
use Rattle.page_tree.specs.Pages.{PageRow}
use Rattle.page_tree.proofs.HangLemmas.{hangs-width}
use Rattle.page_tree.proofs.cursors.Node.len.Goals as goal

pub returns : goal.returns
returns c = c.len.ensures ∙ hangs-width c.self.inside.arena.now c.self.inside.slot.now.children c.self.invariant ∙ ap
    (λ (b : Branch PageRow). width b.children) c.self.view_is
