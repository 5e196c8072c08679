use Rattle.std.proofs.Common.{◌≡◌, ◌+◌, ◌<◌, ◌≤◌, ◌^◌}
use Rattle.node_tree.specs.Nodes.{node_count}
use Rattle.node_binding.specs.Bindings.{revealed}
use Rattle.node_binding.proofs.binding.Binding.+reveal.Given as goal

abbrev pub decreases-reveal : goal.decreases-reveal
decreases-reveal l = node_count l.walk.now

abbrev pub invariant-loop-shown : goal.invariant-loop-shown
invariant-loop-shown l = record {
  same : revealed l.levels l.walk l.self ≡ revealed l.levels l.initial.walk l.initial.self;
  room : l.self.next + node_count l.walk < 2 ^ 63;
  few : node_count l.walk ≤ node_count l.initial.walk;
}

abbrev pub decreases-loop-shown : goal.decreases-loop-shown
decreases-loop-shown l = node_count l.walk
