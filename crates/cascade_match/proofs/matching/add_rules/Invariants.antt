-- The rules that are left lead to the same entries, and the element is the same.
use Rattle.std.proofs.Common.{◌≡◌, drop}
use Rattle.cascade_match.specs.Judged.{judged_seen}
use Rattle.cascade_match.specs.Matched.{entries_of_rules, all_entered}
use Rattle.cascade_match.proofs.matching.add_rules.Given as goal

abbrev pub invariant-loop-i : goal.invariant-loop-i
invariant-loop-i l = record {
  rest : all_entered l.found.entries (entries_of_rules (judged_seen l.judged) l.i (drop l.i l.judged.sheet.now.reading.rules) l.fn.subject)
      ≡ all_entered l.initial.found.entries (entries_of_rules (judged_seen l.judged) 0 l.judged.sheet.now.reading.rules l.fn.subject);
  same : l.subject ≡ l.fn.subject;
}
