use Rattle.sheet_reader.proofs.AroundForms.{held_right, sheet_there}
use Rattle.sheet_reader.proofs.laws.around_law.Goals as goal

pub returns : goal.returns
returns c = record { there = sheet_there; held = held_right }
