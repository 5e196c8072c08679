use Rattle.std.proofs.Common.{◌≡◌, drop}
use Rattle.sheet_reader.specs.Brackets.{nesting_in, nesting}
use Rattle.sheet_reader.proofs.brackets.nesting_of.Given as goal

abbrev pub invariant-loop-piece : goal.invariant-loop-piece
invariant-loop-piece l = nesting_in l.brackets (drop l.piece-index l.pieces) ≡ nesting l.pieces
