-- The names of those that are left lead to the same.
use Rattle.std.proofs.Common.{◌≡◌, map, drop}
use Rattle.selectors.specs.Forms.{simple_seen}
use Rattle.css_agent.specs.ClassNames.{classes_of_tests, with_names}
use Rattle.css_agent.proofs.NameLemmas.{texts}
use Rattle.css_agent.proofs.class_names.add_tests.Given as goal

abbrev pub invariant-loop-simple : goal.invariant-loop-simple
invariant-loop-simple l = with_names (texts l.names.keys) (classes_of_tests (map simple_seen (drop l.simple-index l.tests)))
    ≡ with_names (texts l.initial.names.keys) (classes_of_tests (map simple_seen l.tests))
