use Rattle.std.proofs.Common.{◌≡◌, map, take}
use Rattle.sheet_reader.specs.Joins.{behind_media}
use Rattle.sheet_reader.proofs.renumber.raised_media.Given as goal

abbrev pub invariant-loop-rule : goal.invariant-loop-rule
invariant-loop-rule l = l.made.items ≡ map (behind_media l.start l.numbers.before) (take l.rule-index l.rules)
