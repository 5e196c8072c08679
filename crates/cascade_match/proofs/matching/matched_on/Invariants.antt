-- The sheets that are left lead to the same entries, and the element is the same.
use Rattle.std.proofs.Common.{◌≡◌, drop}
use Rattle.cascade_match.specs.Matched.{entries_of_sheets, all_entered, matched_entries}
use Rattle.cascade_match.proofs.matching.matched_on.Given as goal

abbrev pub invariant-loop-i : goal.invariant-loop-i
invariant-loop-i l = record {
  rest : all_entered l.found.entries (entries_of_sheets l.medium l.i (drop l.i l.book) l.fn.subject)
      ≡ matched_entries l.medium l.book l.fn.subject;
  same : l.subject ≡ l.fn.subject;
}
