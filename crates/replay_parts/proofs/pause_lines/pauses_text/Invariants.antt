-- The pauses so far are written, and those that are left come after them.
use Rattle.std.proofs.Common.{◌≡◌, ◌++◌, ◌∷◌, drop}
use Rattle.inspect_world.specs.ShownPauses.{seen_pause_lines}
use Rattle.replay_parts.proofs.pause_lines.pauses_text.Given as goal

abbrev pub invariant-loop-pause : goal.invariant-loop-pause
invariant-loop-pause l = l.text.items ++ seen_pause_lines (drop l.pause-index l.pauses) ≡ l.heading ++ 10 ∷ seen_pause_lines l.pauses
