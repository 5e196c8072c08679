-- The names of those that are left lead to the same.
use Rattle.std.proofs.Common.{◌≡◌, map, drop}
use Rattle.selectors.specs.Forms.{compound_seen}
use Rattle.css_agent.specs.ClassNames.{classes_of_compounds, with_names}
use Rattle.css_agent.proofs.NameLemmas.{texts}
use Rattle.css_agent.proofs.class_names.add_compounds.Given as goal

abbrev pub invariant-loop-compound : goal.invariant-loop-compound
invariant-loop-compound l = with_names (texts l.names.keys) (classes_of_compounds (map compound_seen (drop l.compound-index l.compounds)))
    ≡ with_names (texts l.initial.names.keys) (classes_of_compounds (map compound_seen l.compounds))
