use Rattle.std.proofs.Common.{map, ap, arith}
use Rattle.node_tree.specs.Nodes.{node_count}
use Rattle.node_binding.specs.Deals.{more_told}
use Rattle.node_binding.specs.Pieces.{opening_of}
use Rattle.node_binding.proofs.PieceLemmas.{deal_turn, deal_end}
use Rattle.node_binding.proofs.pieces.+deal.Goals as goal

pub deal_children-loop-node-preserved : goal.deal_children-loop-node-preserved
deal_children-loop-node-preserved t c = record {
  same = deal_turn more_told c.args.left c.args.levels c.in-Some.node _ c.next.new.self (map opening_of c.loop-node.openings.items) _ _
      c.in-Some.ensures c.in_ok-deal_node.ensures c.loop-node.invariant.same;
  few = omega (arith, ap node_count c.in-Some.ensures, c.loop-node.invariant.few);
}

pub deal_children-returns : goal.deal_children-returns
deal_children-returns t c =
    let last = c.in_default.ensures {u = tt} in
    deal_end more_told c.args.left c.args.levels _ (map opening_of c.loop-node.openings.items) _ last.0 c.loop-node.invariant.same
