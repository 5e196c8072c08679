-- One tree more.
use Rattle.std.proofs.Common.{◌-◌, ◌<◌, ap, sym, subst, ◌∙◌, arith}
use Rattle.node_tree.specs.Nodes.{Nodes, width, node_count}
use Rattle.node_tree.proofs.NodeLemmas.{from-zero}
use Rattle.page_tree.specs.Pages.{PageRow}
use Rattle.page_tree.specs.NodesLeft.{nodes_left}
use Rattle.page_tree.proofs.CursorLemmas.{from-end, child-smaller}
use Rattle.page_tree.proofs.WalkLemmas.{room_none, room_over, room_turn, room_end}
use Rattle.page_tree.proofs.walks.+room_beside_children.Goals as goal

pub loop-i-init : goal.loop-i-init
loop-i-init t c = ap (λ (n : Nodes PageRow). nodes_left (node_count n) c.args.room) (from-zero c.args.children.now)

pub returns-then-left-eq0 : goal.returns-then-left-eq0
returns-then-left-eq0 t c =
    let inside : c.loop-i.i < width c.args.children.now = omega (arith, c.loop-i-test.true, c.len-i-end.ensures) in
    room_none c.args.children.now c.loop-i.i c.at-child.result inside c.at-child.ensures c.args.room c.loop-i.left c.loop-i.invariant
    c.if-left-eq0.true

pub room_beside_children-requires : goal.room_beside_children-requires
room_beside_children-requires t c =
    let inside : c.loop-i.i < width c.args.children.now = omega (arith, c.loop-i-test.true, c.len-i-end.ensures) in
    let small : node_count c.children.result < node_count c.args.children.now = omega
    (arith, child-smaller c.args.children.now c.loop-i.i c.at-child.result inside c.at-child.ensures, ap node_count c.children.ensures)
    in
    (subst (λ m. node_count c.children.result < m) c.decreases small, tt)

pub returns-in_default : goal.returns-in_default
returns-in_default t c =
    let inside : c.loop-i.i < width c.args.children.now = omega (arith, c.loop-i-test.true, c.len-i-end.ensures) in
    room_over c.args.children.now c.loop-i.i c.at-child.result inside c.at-child.ensures c.args.room c.loop-i.left c.loop-i.invariant
    (omega (arith, c.if-left-eq0.false))
    (ap (λ (n : Nodes PageRow). nodes_left (node_count n) (c.loop-i.left - 1))
    (sym c.children.ensures) ∙ sym c.room_beside_children.ensures ∙ c.in_default.is)

pub loop-i-preserved : goal.loop-i-preserved
loop-i-preserved t c =
    let inside : c.loop-i.i < width c.args.children.now = omega (arith, c.loop-i-test.true, c.len-i-end.ensures) in
    room_turn c.args.children.now c.loop-i.i c.at-child.result inside c.at-child.ensures c.args.room c.loop-i.left c.loop-i.invariant
    c.in-Some.rest (omega (arith, c.if-left-eq0.false))
    (ap (λ (n : Nodes PageRow). nodes_left (node_count n) (c.loop-i.left - 1))
    (sym c.children.ensures) ∙ sym c.room_beside_children.ensures ∙ c.in-Some.is)

pub returns : goal.returns
returns t c =
    room_end c.args.children.now c.loop-i.i c.args.room c.loop-i.left
    (from-end c.args.children.now c.loop-i.i (omega (arith, c.loop-i-test.false, c.len-i-end.ensures))) c.loop-i.invariant
