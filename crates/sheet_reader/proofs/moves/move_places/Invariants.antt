use Rattle.std.proofs.Common.{◌≡◌, ◌++◌, map, take, drop}
use Rattle.selectors.specs.Moves.{cut, moved_place}
use Rattle.sheet_reader.proofs.moves.move_places.Given as goal

abbrev pub invariant-loop-place : goal.invariant-loop-place
invariant-loop-place l = l.places ≡ map (moved_place (cut l.gap.start l.gap.end l.gap.size)) (take l.place-index l.fn.places)
    ++ drop l.place-index l.fn.places
