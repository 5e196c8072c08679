use Rattle.std.proofs.Common.{◌≡◌, ◌++◌, length, map}
use Rattle.std.specs.Vec.Iter.{into_iter_items, into_iter_len}
use Rattle.sheet_reader.specs.Forms.{rule_seen}
use Rattle.sheet_reader.specs.Joins.{behind_rule}
use Rattle.sheet_reader.proofs.renumber.raised_rules.Given as goal

abbrev pub invariant-loop-rule : goal.invariant-loop-rule
invariant-loop-rule l =
    (l.yielded ++ into_iter_items l.rule-iterator ≡ into_iter_items l.initial.rule-iterator)
    × (map rule_seen l.made.items ≡ map (behind_rule l.start l.numbers.before) (map rule_seen l.yielded))
    × (into_iter_len l.rule-iterator ≡ length (into_iter_items l.rule-iterator))
