-- The lines of a node, and those of the children one after the other.
use Rattle.std.proofs.Common.{◌+◌, ◌*◌, ◌<◌, ◌^◌, ◌++◌, ap, subst, ◌∙◌, arith}
use Rattle.node_tree.specs.Nodes.{width, node_count, branch_count}
use Rattle.node_tree.proofs.NodeLemmas.{from-zero}
use Rattle.page_tree.proofs.CursorLemmas.{from-end, child-smaller}
use Rattle.front_mirror.specs.Outline.{lines_at}
use Rattle.inspect_world.specs.Scripts.{page_line}
use Rattle.replay_parts.proofs.PageLemmas.{lines_turn, lines_end, lines_of_one}
use Rattle.replay_parts.proofs.page_lines.+page_lines.Goals as goal

pub write_node-returns : goal.write_node-returns
write_node-returns t c =
    lines_of_one c.args.level c.args.node.now _ _ _ _ _ c.in_ok-write_spaces.ensures c.in_ok-write_one.ensures c.in_ok-push.ensures.items
    (c.in_ok-write_children.ensures ∙ ap (λ n. c.push.new.self.items ++ lines_at page_line (c.args.level + 1) n) c.children.ensures)

pub write_children-loop-i-init : goal.write_children-loop-i-init
write_children-loop-i-init t c = ap (λ n. c.args.out.now.items ++ lines_at page_line c.args.level n) (from-zero c.args.children.now)

pub write_children-write_node-requires : goal.write_children-write_node-requires
write_children-write_node-requires t c =
    let inside : c.loop-i.i < width c.args.children.now = omega (arith, c.loop-i-test.true, c.len-i-end.ensures) in
    let below = child-smaller c.args.children.now c.loop-i.i c.at-node.result inside c.at-node.ensures in
    let small : 2 * branch_count c.at-node.result < 2 * node_count c.args.children.now + 1 = omega (arith, below) in
    let room : c.args.level + branch_count c.at-node.result < 2 ^ 64 = omega (arith, below, c.requires) in
    (subst (λ m. 2 * branch_count c.at-node.result < m) c.decreases small, room)

pub write_children-loop-i-preserved : goal.write_children-loop-i-preserved
write_children-loop-i-preserved t c =
    let inside : c.loop-i.i < width c.args.children.now = omega (arith, c.loop-i-test.true, c.len-i-end.ensures) in
    lines_turn c.args.level c.args.children.now c.loop-i.i c.at-node.result _ _ _ inside c.at-node.ensures c.in_ok-write_node.ensures
    c.loop-i.invariant

pub write_children-returns : goal.write_children-returns
write_children-returns t c =
    lines_end c.args.level _ _ _ (from-end c.args.children.now c.loop-i.i
    (omega (arith, c.loop-i-test.false, c.len-i-end.ensures))) c.loop-i.invariant
