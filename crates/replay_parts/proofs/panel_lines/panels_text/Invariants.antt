-- The panels so far are written, and those that are left come after them.
use Rattle.std.proofs.Common.{◌≡◌, ◌++◌, ◌∷◌, drop, codes, false}
use Rattle.inspect_world.specs.PanelTexts.{panels_after, panels_text}
use Rattle.replay_parts.proofs.panel_lines.panels_text.Given as goal

abbrev pub invariant-loop-before : goal.invariant-loop-before
invariant-loop-before g l = l.front.dead ≡ false
    → l.text.items ++ panels_after l.before (drop l.before l.front.panels) l.front.value.tree
    ≡ codes "# panels" ++ 10 ∷ panels_text l.front.panels l.front.value.tree
