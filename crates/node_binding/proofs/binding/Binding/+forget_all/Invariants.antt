use Rattle.std.proofs.Common.{◌≡◌, ◌≤◌}
use Rattle.node_tree.specs.Nodes.{node_count}
use Rattle.node_binding.specs.Bindings.{all_forgotten}
use Rattle.node_binding.proofs.binding.Binding.+forget_all.Given as goal

abbrev pub decreases-forget_all : goal.decreases-forget_all
decreases-forget_all l = node_count l.walk.now

abbrev pub invariant-loop-child : goal.invariant-loop-child
invariant-loop-child l = record {
  same : all_forgotten l.walk l.self ≡ all_forgotten l.initial.walk l.initial.self;
  few : node_count l.walk ≤ node_count l.initial.walk;
}

abbrev pub decreases-loop-child : goal.decreases-loop-child
decreases-loop-child l = node_count l.walk
