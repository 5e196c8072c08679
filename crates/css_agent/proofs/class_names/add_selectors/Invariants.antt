-- The names of those that are left lead to the same.
use Rattle.std.proofs.Common.{◌≡◌, drop}
use Rattle.selectors.specs.Lists.{list_seen}
use Rattle.css_agent.specs.ClassNames.{classes_of_selectors, with_names}
use Rattle.css_agent.proofs.NameLemmas.{texts}
use Rattle.css_agent.proofs.class_names.add_selectors.Given as goal

abbrev pub invariant-loop-i : goal.invariant-loop-i
invariant-loop-i l = with_names (texts l.names.keys) (classes_of_selectors (drop l.i (list_seen l.selectors)))
    ≡ with_names (texts l.initial.names.keys) (classes_of_selectors (list_seen l.selectors))
