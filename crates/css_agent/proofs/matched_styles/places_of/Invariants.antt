-- The places so far.
use Rattle.std.proofs.Common.{◌≡◌, take}
use Rattle.css_agent.proofs.matched_styles.places_of.Given as goal

abbrev pub invariant-loop-place : goal.invariant-loop-place
invariant-loop-place l = l.told.items ≡ take l.place-index l.places
