use Rattle.std.proofs.Common.{◌∙◌}
use Rattle.sheet_reader.specs.Forms.{RuleForm, rule_seen}
use Rattle.css_agent.specs.ClassNames.{classes_of_selectors}
use Rattle.css_agent.proofs.NameLemmas.{texts, names-turn}
use Rattle.css_agent.proofs.class_names.add_rules.Goals as goal

pub loop-rule-preserved : goal.loop-rule-preserved
loop-rule-preserved c =
    names-turn rule_seen (λ (r : RuleForm). classes_of_selectors r.selectors) c.args.rules.now c.loop-rule.rule-index c.rule-item.result
    (texts c.loop-rule.names.keys) (texts c.add_selectors.new.names.keys)
    c.loop-rule-test.true c.rule-item.is (c.in_ok-add_selectors.ensures {u = tt})
    ∙ c.loop-rule.invariant
