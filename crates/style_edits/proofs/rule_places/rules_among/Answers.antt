use Rattle.std.proofs.Common.{nat_lt, rules}
use Rattle.sheet_reader.specs.declared.sheet.StyleRule.{StyleRule}
use Rattle.style_edits.proofs.Halves.{halved, starts_before}
use Rattle.style_edits.proofs.rule_places.rules_among.Goals as goal

pub returns : goal.returns
returns c =
    halved (λ (r : StyleRule). r.body) (λ r. nat_lt r.start c.args.byte) (starts_before c.args.byte)
    c.args.rules.now c.partition_point.result c.requires
    c.partition_point.ensures.bound c.partition_point.ensures.partitioned (λ a r q k. search rules)
