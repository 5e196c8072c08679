-- The styles so far.
use Rattle.std.proofs.Common.{◌≡◌, map, take}
use Rattle.css_agent.specs.Edits.{told_at}
use Rattle.css_agent.proofs.edited_rules.styles_at.Given as goal

abbrev pub invariant-loop-place : goal.invariant-loop-place
invariant-loop-place l = l.styles.items ≡ map (λ p. (told_at l.book p).style) (take l.place-index l.places)
