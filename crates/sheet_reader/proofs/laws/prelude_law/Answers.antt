use Rattle.sheet_reader.proofs.MadePreludes.{prelude_there}
use Rattle.sheet_reader.proofs.NewMedia.{media_stays}
use Rattle.sheet_reader.proofs.laws.prelude_law.Goals as goal

pub returns : goal.returns
returns c = record { rule = prelude_there; media = media_stays }
