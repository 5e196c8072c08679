use Rattle.css_agent.proofs.StyleLemmas.{rule-here, rule-usable, rule-there}
use Rattle.css_agent.proofs.matched_styles.rule_at.Goals as goal

pub returns-clause-rule : goal.returns-clause-rule
returns-clause-rule c = rule-here c.args.entry.now c.as_slice.result.now c.args.place c.rule_among.result c.requires c.as_slice.ensures
    c.rule_among.ensures

pub returns-clause-usable : goal.returns-clause-usable
returns-clause-usable c =
    rule-usable c.args.entry.now c.as_str-text.result.now c.args.place c.rule_among.result c.as_str-text.ensures c.as_str-text.utf8
    (rule-here c.args.entry.now c.as_slice.result.now c.args.place c.rule_among.result c.requires c.as_slice.ensures c.rule_among.ensures)

pub returns-clause-around : goal.returns-clause-around
returns-clause-around c =
    rule-there c.args.entry.now c.args.place c.rule_among.result
    (rule-here c.args.entry.now c.as_slice.result.now c.args.place c.rule_among.result c.requires c.as_slice.ensures c.rule_among.ensures)
