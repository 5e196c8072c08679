use Rattle.back_end.proofs.UndoSteps.{undo-restores}
use Rattle.back_end.proofs.laws.undo_law.Goals as goal

pub returns : goal.returns
returns c = undo-restores
