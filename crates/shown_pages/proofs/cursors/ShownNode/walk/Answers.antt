use Rattle.std.proofs.Common.{ap, ◌∙◌}
use Rattle.node_tree.specs.Nodes.{Branch}
use Rattle.node_tree.proofs.NodeLemmas.{from-zero}
use Rattle.page_tree.specs.Pages.{PageRow}
use Rattle.shown_pages.specs.ShownPages.{shown_nodes}
use Rattle.shown_pages.proofs.cursors.ShownNode.walk.Goals as goal

pub returns : goal.returns
returns c =
    ap (shown_nodes c.self.inside.mode) (from-zero c.children.result ∙ c.children.ensures)
    ∙ ap (λ (b : Branch PageRow). b.children) c.self.view_is
