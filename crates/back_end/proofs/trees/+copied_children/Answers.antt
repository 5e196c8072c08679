-- One tree more is copied, or all are.
use Rattle.std.proofs.Common.{◌<◌, ap, subst, ◌∙◌, arith}
use Rattle.node_tree.specs.Nodes.{width, node_count}
use Rattle.page_tree.proofs.CursorLemmas.{from-end, child-smaller}
use Rattle.back_end.proofs.TreeCopies.{copies-start, copies-turn, copies-end}
use Rattle.back_end.proofs.trees.+copied_children.Goals as goal

pub loop-i-init : goal.loop-i-init
loop-i-init t c = copies-start c.args.children.now c.new-trees.result.items c.new-trees.ensures.items

pub copied_children-requires : goal.copied_children-requires
copied_children-requires t c =
    let inside : c.loop-i.i < width c.args.children.now = omega (arith, c.loop-i-test.true, c.len-i-end.ensures) in
    let small : node_count c.children.result < node_count c.args.children.now = omega
    (arith, child-smaller c.args.children.now c.loop-i.i c.at-child.result inside c.at-child.ensures, ap node_count c.children.ensures) in
    (subst (λ m. node_count c.children.result < m) c.decreases small, tt)

pub loop-i-preserved : goal.loop-i-preserved
loop-i-preserved t c =
    let inside : c.loop-i.i < width c.args.children.now = omega (arith, c.loop-i-test.true, c.len-i-end.ensures) in
    copies-turn c.args.children.now c.loop-i.i c.at-child.result inside c.at-child.ensures c.loop-i.trees.items c.push.new.self.items _ _
    c.loop-i.invariant
    (c.in_ok-below.ensures {u = tt} ∙ c.children.ensures) (c.in_ok-copied_label.ensures {u = tt}) (c.in_ok-push.ensures {u = tt}).items

pub returns : goal.returns
returns t c = copies-end c.args.children.now c.loop-i.i c.loop-i.trees.items
    (from-end c.args.children.now c.loop-i.i (omega (arith, c.loop-i-test.false, c.len-i-end.ensures))) c.loop-i.invariant
