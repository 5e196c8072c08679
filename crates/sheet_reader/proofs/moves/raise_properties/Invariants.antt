use Rattle.std.proofs.Common.{◌≡◌, ◌++◌, ◌+◌, map, take, drop}
use Rattle.sheet_reader.specs.Moves.{placed_property}
use Rattle.sheet_reader.proofs.moves.raise_properties.Given as goal

abbrev pub invariant-loop-property : goal.invariant-loop-property
invariant-loop-property l = l.properties
    ≡ map (placed_property (λ place. l.start + place)) (take l.property-index l.fn.properties) ++ drop l.property-index l.fn.properties
