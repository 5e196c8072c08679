-- What is left gives the same answer.
use Rattle.std.proofs.Common.{◌≡◌}
use Rattle.std.specs.List.{list_all}
use Rattle.node_tree.specs.Names.{is_attribute_name}
use Rattle.dom_objects.proofs.node_rules.are_attribute_names.Given as goal

abbrev pub invariant-loop-pair : goal.invariant-loop-pair
invariant-loop-pair l = list_all (λ p. is_attribute_name p.0) l.pair-iterator ≡ list_all (λ p. is_attribute_name p.0) l.fn.pairs
