use Rattle.std.proofs.Common.{◌≡◌, ◌+◌, map, take}
use Rattle.sheet_reader.proofs.repairs.raised_places.Given as goal

abbrev pub invariant-loop-place : goal.invariant-loop-place
invariant-loop-place l = l.made.items ≡ map (λ place. l.start + place) (take l.place-index l.places)
