-- One node more, with all below it.
use Rattle.std.proofs.Common.{◌≡◌, suc, ◌+◌, refl, ap, ◌∙◌, arith}
use Rattle.std.specs.FinMap as map
use Rattle.node_tree.specs.Nodes.{Nodes, Branch, node_count}
use Rattle.node_tree.specs.Seen.{seen_id}
use Rattle.dom_objects.specs.Told.{Told, seen_nodes}
use Rattle.front_mirror.specs.Sizes.{noted}
use Rattle.front_mirror.proofs.IdMapLemmas.{puts-insert}
use Rattle.front_mirror.proofs.EditCounts.{note_turn, count_turn}
use Rattle.front_mirror.proofs.sizes.+note_all.Goals as goal

pub loop-node-preserved : goal.loop-node-preserved
loop-node-preserved t c =
    let below = c.in_ok-own.ensures.count ∙ ap (λ (n : Nodes Told). node_count n) c.children_of.ensures.children in
    let own : c.in_ok-own.field-0 + 1 ≡ suc (node_count c.node-item.result.children) = omega (arith, below) in
    record {
      count = count_turn c.args.nodes.now c.loop-node.node-index c.node-item.result c.loop-node.count (c.in_ok-own.field-0 + 1)
          (c.loop-node.count + (c.in_ok-own.field-0 + 1)) c.loop-node-test.true c.node-item.is own refl c.loop-node.invariant.count;
      notes = note_turn c.args.nodes.now c.loop-node.node-index c.node-item.result (map.get c.loop-node.counts)
          (map.get c.note_all.new.counts) (map.get c.insert.new.self) _ c.node.inside.id (c.in_ok-own.field-0 + 1) c.loop-node-test.true
          c.node-item.is
          (c.in_ok-own.ensures.notes ∙ ap (λ (n : Nodes Told). noted seen_id (seen_nodes n) (map.get c.loop-node.counts))
          c.children_of.ensures.children)
          own (ap (λ (b : Branch Told). b.row.seen.id) c.node.view_is)
          (puts-insert c.note_all.new.counts c.insert.new.self c.node.inside.id (c.in_ok-own.field-0 + 1) c.in_ok-insert.ensures.put)
          c.loop-node.invariant.notes;
    }
