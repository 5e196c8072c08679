use Rattle.std.proofs.Common.{◌≡◌, ◌++◌, map, take, drop}
use Rattle.sheet_reader.specs.Forms.{rule_seen}
use Rattle.selectors.specs.Moves.{cut, moved_place}
use Rattle.sheet_reader.specs.Moves.{placed_rule}
use Rattle.sheet_reader.proofs.moves.move_rules.Given as goal

abbrev pub invariant-loop-rule : goal.invariant-loop-rule
invariant-loop-rule l = map rule_seen l.rules
    ≡ map (placed_rule (moved_place (cut l.gap.start l.gap.end l.gap.size))) (take l.rule-index (map rule_seen l.fn.rules))
    ++ drop l.rule-index (map rule_seen l.fn.rules)
