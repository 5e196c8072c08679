use Rattle.std.proofs.Common.{◌&&◌, not, refl, ap, sym, ◌∙◌, arith}
use Rattle.node_tree.specs.Nodes.{node_count}
use Rattle.node_tree.specs.Labels.{holds}
use Rattle.node_binding.specs.Openings.{is_spent}
use Rattle.node_binding.proofs.RevealLemmas.{opened_tree, closed_tree, reveal_turn}
use Rattle.node_binding.proofs.binding.Binding.+reveal.Goals as goal

pub loop-shown-preserved-in-Continue-branch-3 : goal.loop-shown-preserved-in-Continue-branch-3
loop-shown-preserved-in-Continue-branch-3 t c =
    let x = c.in-Some.shown in
    let d = c.args.levels in
    let turn = reveal_turn d x _ c.next.new.self c.loop-shown.self c.reveal.new.self _ c.in-Some.ensures
    (opened_tree d _ x _ _ _ _ _ _ _
    (ap (λ k. holds k && not (is_spent d)) (sym c.kind.ensures) ∙ sym c.is_reached.ensures ∙ c.if-is_reached.true)
    c.serial-serial.ensures c.walk-inside.ensures c.less.ensures c.in_ok-bind.ensures c.in_ok-open.ensures c.in_ok-reveal.ensures refl)
    (record { same = c.loop-shown.invariant.same; room = c.loop-shown.invariant.room }) in
    record {
      same = turn.same;
      room = turn.room;
      few = omega (arith, ap node_count c.in-Some.ensures, c.loop-shown.invariant.few);
    }

pub loop-shown-preserved : goal.loop-shown-preserved
loop-shown-preserved t c =
    let x = c.in-Some.shown in
    let d = c.args.levels in
    let turn = reveal_turn d x _ c.next.new.self c.loop-shown.self c.bind.new.self _ c.in-Some.ensures
    (closed_tree d x _ _ _ _
    (ap (λ k. holds k && not (is_spent d)) (sym c.kind.ensures) ∙ sym c.is_reached.ensures ∙ c.if-is_reached.false)
    c.serial-serial.ensures c.in_ok-bind.ensures refl)
    (record { same = c.loop-shown.invariant.same; room = c.loop-shown.invariant.room }) in
    record {
      same = turn.same;
      room = turn.room;
      few = omega (arith, ap node_count c.in-Some.ensures, c.loop-shown.invariant.few);
    }
