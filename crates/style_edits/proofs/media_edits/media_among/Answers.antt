use Rattle.std.proofs.Common.{nat_le, rules}
use Rattle.sheet_reader.specs.declared.sheet.MediaRule.{MediaRule}
use Rattle.style_edits.proofs.Halves.{halved, starts_up_to}
use Rattle.style_edits.proofs.media_edits.media_among.Goals as goal

pub returns : goal.returns
returns c =
    halved (λ (m : MediaRule). m.prelude) (λ r. nat_le r.start c.args.byte) (starts_up_to c.args.byte)
    c.args.rules.now c.partition_point.result c.requires
    c.partition_point.ensures.bound c.partition_point.ensures.partitioned (λ a r q k. search rules)
