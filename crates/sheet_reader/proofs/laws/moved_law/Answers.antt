use Rattle.sheet_reader.specs.Declarations.{style_of}
use Rattle.std.proofs.Common.{length}
use Rattle.sheet_reader.proofs.MovedLaw.{moved_holds}
use Rattle.sheet_reader.proofs.ClearBodies.{style_within, body_clear}
use Rattle.sheet_reader.proofs.laws.moved_law.Goals as goal

pub returns : goal.returns
returns c = record {
  moved = moved_holds;
  can_move = λ text put k r is small. body_clear text k r (style_of put) (length put) is (style_within put) small;
}
