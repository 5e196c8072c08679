use Rattle.std.proofs.Common.{◌≡◌, ◌+◌, drop}
use Rattle.sheet_reader.specs.Brackets.{until_in, until}
use Rattle.sheet_reader.proofs.brackets.until.Given as goal

abbrev pub invariant-loop-n : goal.invariant-loop-n
invariant-loop-n l = l.n + until_in l.stop l.brackets (drop l.n l.pieces) ≡ until l.stop l.pieces
