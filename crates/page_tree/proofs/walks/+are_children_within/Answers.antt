-- One tree more.
use Rattle.std.proofs.Common.{◌-◌, ◌<◌, nat_le, ap, sym, ◌∙◌, arith}
use Rattle.node_tree.specs.Nodes.{Nodes, width, height}
use Rattle.node_tree.proofs.NodeLemmas.{from-zero}
use Rattle.page_tree.specs.Pages.{PageRow}
use Rattle.page_tree.proofs.CursorLemmas.{from-end}
use Rattle.page_tree.proofs.WalkLemmas.{high_none, high_over, high_turn, high_end}
use Rattle.page_tree.proofs.walks.+are_children_within.Goals as goal

pub loop-i-init : goal.loop-i-init
loop-i-init t c = ap (λ (n : Nodes PageRow). nat_le (height n) c.args.levels) (from-zero c.args.children.now)

pub returns-then-levels-eq0 : goal.returns-then-levels-eq0
returns-then-levels-eq0 t c =
    let inside : c.loop-i.i < width c.args.children.now = omega (arith, c.loop-i-test.true, c.len-i-end.ensures) in
    high_none c.args.children.now c.loop-i.i c.at-child.result inside c.at-child.ensures c.args.levels c.loop-i.invariant
    c.if-levels-eq0.true

pub returns-then-not-are_children_within : goal.returns-then-not-are_children_within
returns-then-not-are_children_within t c =
    let inside : c.loop-i.i < width c.args.children.now = omega (arith, c.loop-i-test.true, c.len-i-end.ensures) in
    high_over c.args.children.now c.loop-i.i c.at-child.result inside c.at-child.ensures c.args.levels c.loop-i.invariant
    (omega (arith, c.if-levels-eq0.false))
    (ap (λ (n : Nodes PageRow). nat_le (height n) (c.args.levels - 1)) (sym c.children.ensures) ∙ sym c.if-not-are_children_within.ensures)

pub loop-i-preserved : goal.loop-i-preserved
loop-i-preserved t c =
    let inside : c.loop-i.i < width c.args.children.now = omega (arith, c.loop-i-test.true, c.len-i-end.ensures) in
    high_turn c.args.children.now c.loop-i.i c.at-child.result inside c.at-child.ensures c.args.levels c.loop-i.invariant
    (omega (arith, c.if-levels-eq0.false))
    (ap (λ (n : Nodes PageRow). nat_le (height n) (c.args.levels - 1)) (sym c.children.ensures) ∙ sym c.if-not-are_children_within.ensures)

pub returns : goal.returns
returns t c =
    high_end c.args.children.now c.loop-i.i c.args.levels
    (from-end c.args.children.now c.loop-i.i (omega (arith, c.loop-i-test.false, c.len-i-end.ensures))) c.loop-i.invariant
