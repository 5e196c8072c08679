-- What is left, noted in what there is, is all of it noted.
use Rattle.std.proofs.Common.{◌≡◌, ◌+◌, drop}
use Rattle.std.specs.FinMap as map
use Rattle.node_tree.specs.Nodes.{nodes_of, node_count}
use Rattle.node_tree.specs.Seen.{seen_id}
use Rattle.front_mirror.specs.Shown.{shown_of}
use Rattle.front_mirror.specs.Sizes.{noted}
use Rattle.front_mirror.proofs.sizes.+note_all.Given as goal

abbrev pub decreases-note_all : goal.decreases-note_all
decreases-note_all l = node_count (nodes_of l.nodes.now)

abbrev pub invariant-loop-node : goal.invariant-loop-node
invariant-loop-node l = record {
  count : l.count + node_count (nodes_of (drop l.node-index l.nodes)) ≡ node_count (nodes_of l.nodes);
  notes : noted seen_id (shown_of (drop l.node-index l.nodes)) (map.get l.counts)
      ≡ noted seen_id (shown_of l.nodes) (map.get l.initial.counts);
}
