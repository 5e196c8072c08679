use Rattle.sheet_reader.proofs.EndForms.{ends_rest}
use Rattle.sheet_reader.proofs.parts.at_rule_at.Goals as goal

pub ending_at-requires : goal.ending_at-requires
ending_at-requires c = ends_rest c.args.ends c.in_ok-n.n c.args.pieces.now c.requires
