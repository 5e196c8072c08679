-- The position of the byte that is reached.
use Rattle.std.proofs.Common.{◌≡◌}
use Rattle.sheet_reader.specs.Positions.{position_of}
use Rattle.sheet_reader.proofs.places.position_from.Given as goal

abbrev pub invariant-loop-i : goal.invariant-loop-i
invariant-loop-i l = l.place ≡ position_of l.text l.i
