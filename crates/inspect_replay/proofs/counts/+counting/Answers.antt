-- The numbers with one child more.
use Rattle.std.proofs.Common.{◌*◌, ◌<◌, ap, sym, subst, ◌∙◌, arith}
use Rattle.node_tree.specs.Nodes.{branch_count}
use Rattle.front_mirror.specs.Shown.{known_at}
use Rattle.front_mirror.proofs.ChildLemmas.{child_found, child_known}
use Rattle.inspect_replay.specs.Tallies.{known_in, plus}
use Rattle.inspect_replay.specs.CountsSeen.{known_of}
use Rattle.inspect_replay.proofs.CountLemmas.{from-zero, from-end, child_smaller, on_ok, node_counted, child_counted, plus-none}
use Rattle.inspect_replay.proofs.counts.+counting.Goals as goal

pub count_node-returns : goal.count_node-returns
count_node-returns t c = on_ok c.count_children.result _ _
    (node_counted c.args.id c.args.mirror.now (known_of c.args.known.now) (known_of c.add.new.self) (known_of c.count_children.new.known)
    c.in_ok-add.ensures)
    c.count_children.ensures

pub count_children-loop-i-init : goal.count_children-loop-i-init
count_children-loop-i-init t c = ap (λ n. plus (known_of c.args.known.now) (known_in n))
    (from-zero (known_at c.args.id c.args.mirror.now).children)

pub count_children-count_node-requires : goal.count_children-count_node-requires
count_children-count_node-requires t c =
    let f = child_found c.args.id c.child_at-child.result c.loop-i.i c.args.mirror.now c.valid.ensures c.requires.known
    c.child_at-child.ensures in (
      subst (λ m. 2 * branch_count (known_at c.child_at-child.result c.args.mirror.now) < m) c.decreases
          (child_smaller c.args.id c.child_at-child.result c.loop-i.i c.args.mirror.now f),
      child_known c.args.id c.child_at-child.result c.loop-i.i c.args.mirror.now f,
    )

pub count_children-loop-i-preserved : goal.count_children-loop-i-preserved
count_children-loop-i-preserved t c =
    let f = child_found c.args.id c.child_at-child.result c.loop-i.i c.args.mirror.now c.valid.ensures c.requires.known
    c.child_at-child.ensures in
    child_counted c.args.id c.child_at-child.result c.loop-i.i c.args.mirror.now f (known_of c.loop-i.known)
    (known_of c.count_node.new.known) _ c.in_ok-count_node.ensures c.loop-i.invariant

pub count_children-returns : goal.count_children-returns
count_children-returns t c =
    sym (plus-none (known_of c.loop-i.known))
    ∙ ap (λ n. plus (known_of c.loop-i.known) (known_in n))
    (sym (from-end c.loop-i.i (known_at c.args.id c.args.mirror.now).children
    (omega (arith, c.loop-i-test.false, c.children_len-i-end.ensures))))
    ∙ c.loop-i.invariant
