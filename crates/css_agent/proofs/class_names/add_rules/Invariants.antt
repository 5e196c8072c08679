-- The names of those that are left lead to the same.
use Rattle.std.proofs.Common.{◌≡◌, map, drop}
use Rattle.sheet_reader.specs.Forms.{rule_seen}
use Rattle.css_agent.specs.ClassNames.{classes_of_rules, with_names}
use Rattle.css_agent.proofs.NameLemmas.{texts}
use Rattle.css_agent.proofs.class_names.add_rules.Given as goal

abbrev pub invariant-loop-rule : goal.invariant-loop-rule
invariant-loop-rule l = with_names (texts l.names.keys) (classes_of_rules (map rule_seen (drop l.rule-index l.rules)))
    ≡ with_names (texts l.initial.names.keys) (classes_of_rules (map rule_seen l.rules))
