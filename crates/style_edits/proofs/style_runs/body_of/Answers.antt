use Rattle.style_edits.proofs.LineForms.{NoneThere, open_found, open_range, open_other, open_none}
use Rattle.style_edits.proofs.style_runs.body_of.Goals as goal

pub returns-in_default-clause-none : goal.returns-in_default-clause-none
unfolding NoneThere
returns-in_default-clause-none c = open_none c.args.opened.now c.args.lines c.in_default.ensures.stored c.in_default.ensures.none

pub returns-in_default-rule_with_body-clause-none : goal.returns-in_default-rule_with_body-clause-none
returns-in_default-rule_with_body-clause-none c =
    open_other c.args.opened.now c.args.lines c.in-Some.body c.in-Some.ensures.stored c.in-Some.ensures.there
    c.in_default-rule_with_body.ensures.none

pub returns-clause-found : goal.returns-clause-found
returns-clause-found c =
    open_found c.args.opened.now c.args.lines c.in-Some.body c.in-Some-rule_with_body.rule c.in-Some.ensures.stored
    c.in-Some.ensures.there c.in-Some-rule_with_body.ensures.some

pub returns-clause-range : goal.returns-clause-range
returns-clause-range c =
    open_range c.args.opened.now c.args.lines c.in-Some.body c.in-Some-rule_with_body.rule c.in-Some.ensures.stored
    c.in-Some.ensures.there c.in-Some-rule_with_body.ensures.some
