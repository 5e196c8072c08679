use Rattle.std.proofs.Common.{Some, sym, ap, ◌∙◌}
use Rattle.node_tree.specs.Nodes.{tree_at}
use Rattle.shown_pages.proofs.HiddenLemmas.{all-branch, all-children}
use Rattle.shown_pages.proofs.cursors.ShownNode.child_at.Goals as goal

pub returns-in_default-child_of_all : goal.returns-in_default-child_of_all
returns-in_default-child_of_all c =
    let same = all-children c.self.inside.mode c.self.inside.node c.args.self.now c.in-All.is c.self.view_is in
    c.in_default-child_of_all.ensures ∙ ap (tree_at c.args.i) (c.children.ensures ∙ same)

pub returns-in-All : goal.returns-in-All
returns-in-All c =
    let same = all-children c.self.inside.mode c.self.inside.node c.args.self.now c.in-All.is c.self.view_is in
    ap Some (c.of.ensures ∙ all-branch c.in-Some.node) ∙ sym c.in-Some.is ∙ c.child_of_all.ensures
    ∙ ap (tree_at c.args.i) (c.children.ensures ∙ same)
