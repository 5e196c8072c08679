use Rattle.std.proofs.Common.{◌≡◌, ◌++◌, map, take, drop}
use Rattle.selectors.specs.Moves.{cut, moved_place}
use Rattle.sheet_reader.specs.Moves.{placed_media}
use Rattle.sheet_reader.proofs.moves.move_media.Given as goal

abbrev pub invariant-loop-rule : goal.invariant-loop-rule
invariant-loop-rule l = l.rules
    ≡ map (placed_media (moved_place (cut l.gap.start l.gap.end l.gap.size))) (take l.rule-index l.fn.rules) ++ drop l.rule-index l.fn.rules
