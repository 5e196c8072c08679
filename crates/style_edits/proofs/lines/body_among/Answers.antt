use Rattle.std.proofs.Common.{◌∙◌, rules}
use Rattle.sheet_reader.specs.declared.sheet.StyleRule.{StyleRule}
use Rattle.style_edits.proofs.Halves.{none_by_halves, one_by_halves}
use Rattle.style_edits.proofs.lines.body_among.Goals as goal

pub returns-in_default : goal.returns-in_default
returns-in_default c =
    none_by_halves (λ (r : StyleRule). r.body) c.args.wanted c.args.rules.now c.partition_point-i.result c.requires
    c.partition_point-i.ensures.bound c.partition_point-i.ensures.partitioned (λ a r q k. search rules)
    c.in_default.ensures.lookup.3

pub returns : goal.returns
returns c =
    let found = c.in-Some.ensures.lookup in
    c.if_same.ensures
    ∙ one_by_halves (λ (r : StyleRule). r.body) c.args.wanted c.args.rules.now c.partition_point-i.result c.requires
    c.partition_point-i.ensures.bound c.partition_point-i.ensures.partitioned (λ a r q k. search rules)
    c.in-Some.rule.now found.3.0 found.1
