use Rattle.sheet_reader.proofs.Cutting.{cuts_only, pieces_stand, characters}
use Rattle.sheet_laws.proofs.laws.cut_law.Goals as goal

pub returns : goal.returns
returns c = record { only = cuts_only; ascend = pieces_stand; characters = characters }
