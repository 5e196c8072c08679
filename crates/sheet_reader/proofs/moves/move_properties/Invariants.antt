use Rattle.std.proofs.Common.{◌≡◌, ◌++◌, map, take, drop}
use Rattle.selectors.specs.Moves.{cut, moved_place}
use Rattle.sheet_reader.specs.Moves.{placed_property}
use Rattle.sheet_reader.proofs.moves.move_properties.Given as goal

abbrev pub invariant-loop-property : goal.invariant-loop-property
invariant-loop-property l = l.properties
    ≡ map (placed_property (moved_place (cut l.gap.start l.gap.end l.gap.size))) (take l.property-index l.fn.properties)
    ++ drop l.property-index l.fn.properties
