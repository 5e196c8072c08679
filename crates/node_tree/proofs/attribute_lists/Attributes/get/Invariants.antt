-- What is left of the list gives the same answer.
use Rattle.std.proofs.Common.{◌≡◌}
use Rattle.node_tree.specs.Labels.{value_of}
use Rattle.node_tree.proofs.attribute_lists.Attributes.get.Given as goal

abbrev pub invariant-loop-pair : goal.invariant-loop-pair
invariant-loop-pair l = value_of l.name l.pair-iterator ≡ value_of l.name l.self
