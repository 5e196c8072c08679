use Rattle.std.proofs.Common.{◌<◌, sym, ◌∙◌, arith}
use Rattle.node_tree.specs.Nodes.{width}
use Rattle.shown_pages.proofs.StopLemmas.{past-hidden, next-shown, past-end}
use Rattle.shown_pages.proofs.cursors.next_shown.Goals as goal

pub returns-then-not-is_hidden-clause-next : goal.returns-then-not-is_hidden-clause-next
returns-then-not-is_hidden-clause-next c =
    let inside : c.loop-i.i < width c.args.children.now = omega (arith, c.loop-i-test.true, c.len-i-end.ensures) in
    sym c.loop-i.invariant ∙ next-shown c.args.mode c.args.children.now c.loop-i.i c.at-node.result inside c.at-node.ensures
    (sym c.is_hidden.ensures ∙ c.if-not-is_hidden.true)

pub loop-i-preserved : goal.loop-i-preserved
loop-i-preserved c =
    let inside : c.loop-i.i < width c.args.children.now = omega (arith, c.loop-i-test.true, c.len-i-end.ensures) in
    sym (past-hidden c.args.mode c.args.children.now c.loop-i.i c.at-node.result inside c.at-node.ensures
    (sym c.is_hidden.ensures ∙ c.if-not-is_hidden.false)) ∙ c.loop-i.invariant

pub returns-clause-next : goal.returns-clause-next
returns-clause-next c = sym c.loop-i.invariant ∙ past-end c.args.mode c.args.children.now c.loop-i.i
    (omega (arith, c.loop-i-test.false, c.len-i-end.ensures))
