use Rattle.std.proofs.Common.{◌≡◌, length}
use Rattle.node_tree.specs.Nodes.{nodes_of, beside}
use Rattle.page_tree.specs.Flat.{kids_of, others_of}
use Rattle.page_tree.proofs.nested.Stack.kids.Given as goal

abbrev pub invariant-loop-form : goal.invariant-loop-form
invariant-loop-form l = record {
  kids : beside (nodes_of l.kids.items) (kids_of l.i l.self) ≡ kids_of l.i l.initial.self;
  others : others_of l.i l.self ≡ others_of l.i l.initial.self;
}

abbrev pub decreases-loop-form : goal.decreases-loop-form
decreases-loop-form l = length l.self
