use Rattle.std.proofs.Common.{◌+◌, ◌*◌, ◌<◌, ◌&&◌, not, map, sym, ap, ◌∙◌, subst, arith}
use Rattle.node_tree.specs.Nodes.{node_count, branch_count}
use Rattle.node_tree.specs.Labels.{holds}
use Rattle.node_binding.specs.Bindings.{opened_in}
use Rattle.node_binding.specs.Openings.{is_spent}
use Rattle.dom_agent.specs.Openings.{opening_of}
use Rattle.dom_agent.proofs.OpeningLemmas.{request_dealt, request_turn, request_end}
use Rattle.dom_agent.proofs.openings.+request.Goals as goal

pub request_children-request_node-requires : goal.request_children-request_node-requires
request_children-request_node-requires t c =
    let small : 2 * branch_count c.in-Some.node < 2 * node_count c.args.walk.now + 1 =
    omega (arith, ap node_count c.in-Some.ensures, c.loop-node.invariant.few) in
    (subst (λ m. 2 * branch_count c.in-Some.node < m) c.decreases small, tt)

pub request_children-loop-node-preserved : goal.request_children-loop-node-preserved
request_children-loop-node-preserved t c = record {
  same = request_turn (opened_in c.args.binding.now) c.args.levels c.in-Some.node _ c.next.new.self
      (map opening_of c.loop-node.openings.items) _ _ c.in-Some.ensures c.in_ok-request_node.ensures c.loop-node.invariant.same;
  few = omega (arith, ap node_count c.in-Some.ensures, c.loop-node.invariant.few);
}

pub request_children-returns : goal.request_children-returns
request_children-returns t c =
    let last = c.in_default.ensures {u = tt} in
    request_end (opened_in c.args.binding.now) c.args.levels _ (map opening_of c.loop-node.openings.items) _ last.0
    c.loop-node.invariant.same

pub request_node-returns-then-not-is_opened : goal.request_node-returns-then-not-is_opened
request_node-returns-then-not-is_opened t c =
    request_dealt (opened_in c.args.binding.now) c.args.levels c.args.node.now c.is_reached.result
    (map opening_of c.args.openings.now.items) _
    (c.is_reached.ensures ∙ ap (λ k. holds k && not (is_spent c.args.levels)) c.kind.ensures) c.if-not-is_reached.false
    (ap (opened_in c.args.binding.now) (sym c.serial.ensures) ∙ sym c.is_opened.ensures ∙ c.if-not-is_opened.true)
    c.in_ok-deal_node.ensures
