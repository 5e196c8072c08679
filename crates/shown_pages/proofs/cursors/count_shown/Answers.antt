use Rattle.std.proofs.Common.{◌<◌, sym, ap, ◌∙◌, arith}
use Rattle.node_tree.specs.Nodes.{width}
use Rattle.node_tree.proofs.NodeLemmas.{from-zero}
use Rattle.shown_pages.specs.ShownPages.{shown_nodes}
use Rattle.shown_pages.proofs.StopLemmas.{past-hidden, next-shown, past-end}
use Rattle.shown_pages.proofs.cursors.count_shown.Goals as goal
use Rattle.shown_pages.proofs.cursors.count_shown.Goals.{then-not-is_hidden, else-not-is_hidden}

pub loop-i-init : goal.loop-i-init
loop-i-init c =
    let whole = ap (λ n. width (shown_nodes c.args.mode n)) (from-zero c.args.children.now) in
    record { same = omega (arith, whole); few = omega arith }

pub loop-i-preserved : goal.loop-i-preserved
loop-i-preserved c =
    let inside : c.loop-i.i < width c.args.children.now = omega (arith, c.loop-i-test.true, c.len-i-end.ensures) in
    let same = c.loop-i.invariant.same in
    let few = c.loop-i.invariant.few in
    elim c.if-not-is_hidden.branch [
      | then-not-is_hidden w ↦
          let e = ap width (next-shown c.args.mode c.args.children.now c.loop-i.i c.at-node.result inside c.at-node.ensures
          (sym c.is_hidden.ensures ∙ w.if-not-is_hidden.true)) in
          let count = w.count-is in
          record { same = omega arith; few = omega arith }
      | else-not-is_hidden w ↦
          let e = ap width (past-hidden c.args.mode c.args.children.now c.loop-i.i c.at-node.result inside c.at-node.ensures
          (sym c.is_hidden.ensures ∙ w.if-not-is_hidden.false)) in
          let count = w.count-is in
          record { same = omega arith; few = omega arith }
    ]

pub returns : goal.returns
returns c =
    let e = ap width (past-end c.args.mode c.args.children.now c.loop-i.i (omega (arith, c.loop-i-test.false, c.len-i-end.ensures))) in
    let same = c.loop-i.invariant.same in
    omega arith
