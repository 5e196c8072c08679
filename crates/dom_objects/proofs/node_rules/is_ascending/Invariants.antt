-- What is left, behind the last name, gives the same answer.
use Rattle.std.proofs.Common.{◌≡◌}
use Rattle.node_tree.specs.Labels.{is_ascending}
use Rattle.dom_objects.proofs.Rules.{follows}
use Rattle.dom_objects.proofs.node_rules.is_ascending.Given as goal

abbrev pub invariant-loop-pair : goal.invariant-loop-pair
invariant-loop-pair l = follows l.last l.pair-iterator ≡ is_ascending l.fn.pairs
