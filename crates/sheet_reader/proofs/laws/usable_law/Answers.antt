use Rattle.sheet_reader.proofs.UsableForms.{sheet_usable, style_usable}
use Rattle.sheet_reader.proofs.laws.usable_law.Goals as goal

pub returns : goal.returns
returns c = record { sheet = sheet_usable; style = style_usable }
