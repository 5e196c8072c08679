use Rattle.sheet_reader.proofs.PlaceForms.{char_units, one_place}
use Rattle.sheet_reader.proofs.laws.position_law.Goals as goal

pub returns : goal.returns
returns c = record { units = char_units; one_place = one_place }
