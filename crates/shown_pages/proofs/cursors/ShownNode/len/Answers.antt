use Rattle.std.proofs.Common.{ap, ◌∙◌}
use Rattle.node_tree.specs.Nodes.{width}
use Rattle.shown_pages.proofs.HiddenLemmas.{all-children}
use Rattle.shown_pages.proofs.cursors.ShownNode.len.Goals as goal

pub returns-in-All : goal.returns-in-All
returns-in-All c =
    c.len.ensures ∙ ap width (all-children c.self.inside.mode c.self.inside.node c.args.self.now c.in-All.is c.self.view_is)
