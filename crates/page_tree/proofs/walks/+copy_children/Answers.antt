-- One tree more is copied, or all are.
use Rattle.std.proofs.Common.{◌+◌, ◌<◌, ◌^◌, ap, sym, subst, ◌∙◌, arith}
use Rattle.node_tree.specs.Nodes.{Nodes, width, node_count, map_rows}
use Rattle.node_tree.proofs.NodeLemmas.{from-zero, node_count-map_rows}
use Rattle.page_tree.specs.Pages.{PageRow, row_label, numbered}
use Rattle.page_tree.proofs.CursorLemmas.{from-end, child-smaller}
use Rattle.page_tree.proofs.WalkLemmas.{count_open, copy_start, copy_turn, copy_end, count_end}
use Rattle.page_tree.proofs.walks.+copy_children.Goals as goal

pub loop-i-init : goal.loop-i-init
loop-i-init t c = (
  ap (λ (n : Nodes PageRow). c.args.first + node_count n)
      (from-zero c.args.children.now),
  copy_start c.args.children.now c.args.first c.new-trees.result.items c.new-trees.ensures.items,
)

pub overflow_add-serial : goal.overflow_add-serial
overflow_add-serial t c =
    let inside : c.loop-i.i < width c.args.children.now = omega (arith, c.loop-i-test.true, c.len-i-end.ensures) in
    let count = count_open c.args.children.now c.loop-i.i c.at-child.result inside c.at-child.ensures in
    let small : c.loop-i.next + 1 < 2 ^ 64 = omega (arith, count, c.loop-i.invariant.0, c.requires) in
    search small

pub copy_children-requires : goal.copy_children-requires
copy_children-requires t c =
    let inside : c.loop-i.i < width c.args.children.now = omega (arith, c.loop-i-test.true, c.len-i-end.ensures) in
    let small : node_count c.children.result < node_count c.args.children.now = omega
    (arith, child-smaller c.args.children.now c.loop-i.i c.at-child.result inside c.at-child.ensures, ap node_count c.children.ensures)
    in
    let count = count_open c.args.children.now c.loop-i.i c.at-child.result inside c.at-child.ensures in (
      subst (λ m. node_count c.children.result < m) c.decreases small,
      omega
          (arith, count, c.loop-i.invariant.0, ap node_count c.children.ensures, c.requires),
    )

pub loop-i-preserved : goal.loop-i-preserved
loop-i-preserved t c =
    let inside : c.loop-i.i < width c.args.children.now = omega (arith, c.loop-i-test.true, c.len-i-end.ensures) in
    let count = count_open c.args.children.now c.loop-i.i c.at-child.result inside c.at-child.ensures in
    let copy = c.in_ok-below.ensures {u = tt} in
    let below_is = copy.0 ∙ ap (λ (n : Nodes PageRow). numbered (c.loop-i.next + 1) (map_rows row_label n)) c.children.ensures in
    let after_is = copy.1 ∙ ap (λ (n : Nodes PageRow). c.loop-i.next + 1 + node_count n) c.children.ensures in
    let after_too = after_is ∙ ap (λ k. c.loop-i.next + 1 + k) (sym (node_count-map_rows row_label c.at-child.result.children)) in (
      omega (arith, count, after_is, c.loop-i.invariant.0),
      copy_turn c.args.children.now c.loop-i.i c.at-child.result inside c.at-child.ensures c.loop-i.trees.items c.push.new.self.items _
          c.args.first c.loop-i.next c.in_ok-below.after c.loop-i.invariant.1 _ below_is after_too (c.in_ok-copy_label.ensures {u = tt})
          (c.in_ok-push.ensures {u = tt}).items,
    )

pub returns : goal.returns
returns t c =
    let past = from-end c.args.children.now c.loop-i.i (omega (arith, c.loop-i-test.false, c.len-i-end.ensures)) in (
      copy_end c.args.children.now c.loop-i.i c.loop-i.trees.items c.args.first c.loop-i.next past c.loop-i.invariant.1,
      count_end
          c.args.children.now c.loop-i.i c.loop-i.next _ past c.loop-i.invariant.0,
    )
