use Rattle.std.proofs.Common.{inl, inr}
use Rattle.sheet_reader.proofs.repairs.stands_alone.Goals as goal

pub returns-then-last : goal.returns-then-last
returns-then-last c e = inl e

pub returns-else-last : goal.returns-else-last
returns-else-last c e = inr (c.ends_shut.ensures e)
