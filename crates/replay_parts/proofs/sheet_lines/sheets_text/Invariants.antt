-- The lines so far are written, and those that are left come after them.
use Rattle.std.proofs.Common.{◌≡◌, ◌++◌, ◌∷◌, drop}
use Rattle.inspect_world.specs.SheetTexts.{known_lines}
use Rattle.replay_parts.proofs.sheet_lines.sheets_text.Given as goal

abbrev pub invariant-loop-i : goal.invariant-loop-i
invariant-loop-i g l =
    l.text.items ++ known_lines (drop l.i l.front.value.sheets) ≡ l.heading ++ 10 ∷ known_lines l.front.value.sheets
