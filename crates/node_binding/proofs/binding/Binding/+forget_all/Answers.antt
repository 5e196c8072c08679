use Rattle.std.proofs.Common.{ap, arith}
use Rattle.node_tree.specs.Nodes.{node_count}
use Rattle.node_binding.proofs.OpenDownLemmas.{forget_turn}
use Rattle.node_binding.proofs.binding.Binding.+forget_all.Goals as goal

pub loop-child-preserved : goal.loop-child-preserved
loop-child-preserved t c = record {
  same = forget_turn c.in-Some.child _ c.next.new.self _ _ _ _ _ _ c.in-Some.ensures c.serial.ensures c.walk-below.ensures c.forget.ensures
      c.forget_all.ensures c.loop-child.invariant.same;
  few = omega (arith, ap node_count c.in-Some.ensures, c.loop-child.invariant.few);
}
