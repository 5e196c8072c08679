-- In a run of a script each state is valid, and so an undo restores.
use Rattle.back_end.proofs.UndoSteps.{undo-restores}
use Rattle.inspect_world.specs.Scripts.{loaded_world, after_lines}
use Rattle.inspect_world.specs.ScriptsFit.{UndoRestoresInRuns}
use Rattle.inspect_world.proofs.Inputs.{inputs-fit}
use Rattle.std.specs.Prelude.{take}

pub restores-in-runs : UndoRestoresInRuns
restores-in-runs input page lines is few kinds n =
    undo-restores (after_lines (take n lines) (loaded_world kinds page)).state.back
    (inputs-fit input page lines is few kinds n).fit.is_state
