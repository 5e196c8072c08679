-- The rules so far have other bodies.
use Rattle.std.proofs.Common.{All, map, take}
use Rattle.sheet_reader.specs.Forms.{rule_seen}
use Rattle.sheet_reader.specs.Late.{cut_at, late_rules, HasOther}
use Rattle.sheet_reader.proofs.late.number_among.Given as goal

abbrev pub invariant-loop-i : goal.invariant-loop-i
invariant-loop-i l = All (HasOther l.body) (take l.i (late_rules (cut_at l.late) l.moved (map rule_seen l.rules)))
