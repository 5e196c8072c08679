use Rattle.std.proofs.Common.{◌≡◌, ◌++◌, ◌+◌, ◌*◌, ◌<◌, unwrap_or, refl, sym, ap, subst, ◌∙◌, arith}
use Rattle.node_tree.specs.Nodes.{Nodes, node_count, branch_count}
use Rattle.page_tree.specs.Pages.{PageRow}
use Rattle.node_binding.specs.Cuts.{opens, cut}
use Rattle.node_binding.specs.Bindings.{opened_in, id_in}
use Rattle.dom_objects.specs.Tokens.{data_tokens}
use Rattle.dom_objects.specs.NodeRows.{told_by}
use Rattle.dom_agent.specs.Requests.{shown}
use Rattle.dom_agent.proofs.WritingLemmas.{nodes_data, shown_written, children_hidden, children_written, left_start, left_turn, left_end}
use Rattle.dom_agent.proofs.told.+write_shown.Goals as goal

pub write_shown-returns-clause-ok : goal.write_shown-returns-clause-ok
write_shown-returns-clause-ok t c =
    let b = c.args.binding.now in
    shown_written (opened_in b) (id_in b) c.args.parent c.args.node.now c.unwrap_or-id.result
    (told_by c.node_row-row.result) c.args.out.now.tokens
    (c.unwrap_or-id.ensures ∙ ap (λ o. unwrap_or o 0) c.id_of.ensures ∙ ap
    (id_in b) c.serial.ensures) c.node_row-row.ensures c.in_ok-head.ensures.ok c.in_ok-write_opened.ensures.ok c.in_ok-tail.ensures.ok

pub write_opened-returns-then-not-is_opened-clause-ok : goal.write_opened-returns-then-not-is_opened-clause-ok
write_opened-returns-then-not-is_opened-clause-ok t c =
    let b = c.args.binding.now in
    children_hidden (opens (opened_in b) c.args.node.now.row)
    (nodes_data c.args.id (cut (opened_in b) (id_in b) c.args.node.now.children)) c.args.out.now.tokens
    (sym c.is_opened.ensures ∙ c.if-not-is_opened.true)

pub write_opened-returns-clause-ok : goal.write_opened-returns-clause-ok
write_opened-returns-clause-ok t c =
    let b = c.args.binding.now in
    children_written (opens (opened_in b) c.args.node.now.row)
    (nodes_data c.args.id (cut (opened_in b) (id_in b) c.args.node.now.children)) c.args.out.now.tokens
    (sym c.is_opened.ensures ∙ c.if-not-is_opened.false)
    c.in_ok-children.ensures.ok
    (subst (λ (n : Nodes PageRow). c.write_children.new.out.tokens
    ≡ c.children.new.self.tokens ++ data_tokens
    (nodes_data c.args.id (cut (opened_in b) (id_in b) n))) c.walk-walk.ensures c.in_ok-write_children.ensures.ok)

pub write_children-loop-child-init : goal.write_children-loop-child-init
write_children-loop-child-init t c =
    let b = c.args.binding.now in
    record {
      tokens = left_start (cut (opened_in b) (id_in b)) c.args.parent c.args.walk.now c.args.out.now.tokens c.in_ok-begin_nodes.ensures.ok;
      before = c.in_ok-begin_nodes.ensures.before;
      few = omega arith;
    }

pub write_children-write_shown-requires : goal.write_children-write_shown-requires
write_children-write_shown-requires t c =
    let small : 3 * branch_count c.in-Some.child < 3 * node_count c.args.walk.now + 1 =
    omega (arith, ap node_count c.in-Some.ensures, c.loop-child.invariant.few) in
    (subst (λ m. 3 * branch_count c.in-Some.child < m) c.decreases small, tt)

pub write_children-loop-child-preserved : goal.write_children-loop-child-preserved
write_children-loop-child-preserved t c =
    let b = c.args.binding.now in
    record {
      tokens = left_turn (cut (opened_in b) (id_in b)) c.args.parent (shown (opened_in b) (id_in b) c.in-Some.child) c.in-Some.child _
          c.next.new.self c.loop-child.out.tokens c.write_shown.new.out.tokens _ c.in-Some.ensures refl c.in_ok-write_shown.ensures.ok
          c.loop-child.invariant.tokens;
      before = c.in_ok-write_shown.ensures.before ∙ c.loop-child.invariant.before;
      few = omega (arith, ap node_count c.in-Some.ensures, c.loop-child.invariant.few);
    }

pub write_children-returns-clause-ok : goal.write_children-returns-clause-ok
write_children-returns-clause-ok t c =
    let b = c.args.binding.now in
    let last = c.in_default.ensures {u = tt} in
    left_end (cut (opened_in b) (id_in b)) c.args.parent _ c.loop-child.out.tokens c.end_nodes.new.self.tokens _ refl last.0
    c.in_ok-end_nodes.ensures.ok c.loop-child.invariant.tokens
