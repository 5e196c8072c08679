use Rattle.std.proofs.Common.{◌≡◌, ◌++◌, map, take, drop}
use Rattle.sheet_reader.specs.Forms.{rule_seen}
use Rattle.selectors.specs.Moves.{cut, moved_place}
use Rattle.sheet_reader.specs.Repairs.{moved_number, renumbered_rule}
use Rattle.sheet_reader.proofs.renumber.renumber_rules.Given as goal

abbrev pub invariant-loop-rule : goal.invariant-loop-rule
invariant-loop-rule l = map rule_seen l.rules
    ≡ map (renumbered_rule (moved_place (cut l.shift.gap.start l.shift.gap.end l.shift.gap.size))
    (moved_number l.shift.share l.shift.count)) (take l.rule-index (map rule_seen l.fn.rules))
    ++ drop l.rule-index (map rule_seen l.fn.rules)
