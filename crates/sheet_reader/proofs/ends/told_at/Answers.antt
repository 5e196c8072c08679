use Rattle.std.proofs.lemmas.Option.{slice_get-get_or}
use Rattle.sheet_reader.proofs.ends.told_at.Goals as goal

pub returns : goal.returns
returns c = slice_get-get_or c.args.table.now c.args.left _ c.requires
