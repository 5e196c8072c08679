use Rattle.sheet_reader.proofs.EndForms.{ends_rest}
use Rattle.sheet_reader.proofs.parts.ending_at.Goals as goal

pub block_len-requires : goal.block_len-requires
block_len-requires c = ends_rest c.args.ends 1 c.args.pieces.now c.requires
