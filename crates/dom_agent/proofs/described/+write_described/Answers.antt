use Rattle.std.proofs.Common.{◌++◌, ◌+◌, ◌*◌, ◌<◌, not, ◌&&◌, refl, sym, ap, subst, ◌∙◌, arith}
use Rattle.node_tree.specs.Nodes.{Nodes, node_count, branch_count}
use Rattle.node_tree.specs.Labels.{holds}
use Rattle.page_tree.specs.Pages.{PageRow}
use Rattle.node_binding.specs.Openings.{less, is_spent}
use Rattle.dom_objects.specs.Tokens.{data_tokens}
use Rattle.dom_objects.specs.NodeRows.{told_by}
use Rattle.dom_agent.specs.Described.{no_ids, shows_children, shown_to, row_to, kids_to}
use Rattle.dom_agent.proofs.WritingLemmas.{nodes_data, described_written, children_hidden, children_written, left_start, left_turn}
use Rattle.dom_agent.proofs.WritingLemmas.{left_end}
use Rattle.dom_agent.proofs.described.+write_described.Goals as goal

pub write_described-returns-clause-ok : goal.write_described-returns-clause-ok
write_described-returns-clause-ok t c =
    described_written c.args.levels c.args.node.now
    (told_by c.node_row-row.result) c.args.out.now.tokens c.node_row-row.ensures c.in_ok-head.ensures.ok c.in_ok-write_reached.ensures.ok
    c.in_ok-tail.ensures.ok

pub write_reached-returns-then-not-is_reached-clause-ok : goal.write_reached-returns-then-not-is_reached-clause-ok
write_reached-returns-then-not-is_reached-clause-ok t c =
    children_hidden (shows_children c.args.levels c.args.node.now.row)
    (nodes_data 0 (shown_to no_ids (less c.args.levels) c.args.node.now.children)) c.args.out.now.tokens
    (ap (λ k. holds k && not (is_spent c.args.levels)) (sym c.kind.ensures) ∙ sym c.is_reached.ensures ∙ c.if-not-is_reached.true)

pub write_reached-returns-clause-ok : goal.write_reached-returns-clause-ok
write_reached-returns-clause-ok t c =
    children_written (shows_children c.args.levels c.args.node.now.row)
    (nodes_data 0 (shown_to no_ids (less c.args.levels) c.args.node.now.children)) c.args.out.now.tokens
    (ap (λ k. holds k && not (is_spent c.args.levels))
    (sym c.kind.ensures) ∙ sym c.is_reached.ensures ∙ c.if-not-is_reached.false) c.in_ok-children.ensures.ok
    (c.in_ok-write_below.ensures.ok
    ∙ ap (λ (n : Nodes PageRow). c.children.new.self.tokens
    ++ data_tokens (nodes_data 0 (shown_to no_ids c.less-left.result n))) c.walk-walk.ensures
    ∙ ap (λ l. c.children.new.self.tokens ++ data_tokens (nodes_data 0 (shown_to no_ids l c.args.node.now.children))) c.less-left.ensures)

pub write_below-loop-child-init : goal.write_below-loop-child-init
write_below-loop-child-init t c =
    record {
      tokens = left_start (shown_to no_ids c.args.levels) 0 c.args.walk.now c.args.out.now.tokens c.in_ok-begin_nodes.ensures.ok;
      before = c.in_ok-begin_nodes.ensures.before;
      few = omega arith;
    }

pub write_below-write_described-requires : goal.write_below-write_described-requires
write_below-write_described-requires t c =
    let small : 3 * branch_count c.in-Some.child < 3 * node_count c.args.walk.now + 1 =
    omega (arith, ap node_count c.in-Some.ensures, c.loop-child.invariant.few) in
    (subst (λ m. 3 * branch_count c.in-Some.child < m) c.decreases small, tt)

pub write_below-loop-child-preserved : goal.write_below-loop-child-preserved
write_below-loop-child-preserved t c =
    let x = c.in-Some.child in
    record {
      tokens = left_turn (shown_to no_ids c.args.levels) 0
          (record {
            row = row_to no_ids c.args.levels x.row x.children;
            children = kids_to no_ids c.args.levels x;
          }) x _ c.next.new.self c.loop-child.out.tokens
          c.write_described.new.out.tokens _ c.in-Some.ensures refl c.in_ok-write_described.ensures.ok c.loop-child.invariant.tokens;
      before = c.in_ok-write_described.ensures.before ∙ c.loop-child.invariant.before;
      few = omega (arith, ap node_count c.in-Some.ensures, c.loop-child.invariant.few);
    }

pub write_below-returns-clause-ok : goal.write_below-returns-clause-ok
write_below-returns-clause-ok t c =
    let last = c.in_default.ensures {u = tt} in
    left_end (shown_to no_ids c.args.levels) 0 _ c.loop-child.out.tokens c.end_nodes.new.self.tokens _ refl last.0
    c.in_ok-end_nodes.ensures.ok c.loop-child.invariant.tokens
