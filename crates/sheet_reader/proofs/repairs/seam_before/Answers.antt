use Rattle.std.proofs.Common.{inl, refl}
use Rattle.sheet_reader.proofs.repairs.seam_before.Goals as goal

pub returns-clause-seam : goal.returns-clause-seam
returns-clause-seam c = inl refl
