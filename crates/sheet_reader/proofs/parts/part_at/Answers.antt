use Rattle.sheet_reader.proofs.EndForms.{ends_rest}
use Rattle.sheet_reader.proofs.parts.part_at.Goals as goal

pub at_rule_at-requires : goal.at_rule_at-requires
at_rule_at-requires c = ends_rest c.args.ends 1 c.args.pieces.now c.requires.ends
