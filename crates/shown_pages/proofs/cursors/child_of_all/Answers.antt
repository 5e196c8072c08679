use Rattle.std.proofs.Common.{◌≤◌, sym, arith}
use Rattle.node_tree.specs.Nodes.{width}
use Rattle.shown_pages.proofs.StopLemmas.{tree_at-past}
use Rattle.shown_pages.proofs.cursors.child_of_all.Goals as goal

pub returns-then-i-len : goal.returns-then-i-len
returns-then-i-len c =
    let beyond : width c.args.children.now ≤ c.args.i = omega (arith, c.len.ensures, c.if-i-len.true) in
    sym (tree_at-past c.args.children.now c.args.i beyond)
