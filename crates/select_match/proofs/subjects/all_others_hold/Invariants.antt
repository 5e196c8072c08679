-- The tests that are left give the same answer, and the element is the same.
use Rattle.std.proofs.Common.{◌≡◌, ◌||◌, drop, map}
use Rattle.std.specs.List.{list_all}
use Rattle.selectors.specs.Forms.{simple_seen}
use Rattle.select_match.specs.Matches.{simple_holds}
use Rattle.select_match.specs.Subjects.{is_quick}
use Rattle.select_match.proofs.subjects.all_others_hold.Given as goal

abbrev pub invariant-loop-simple : goal.invariant-loop-simple
invariant-loop-simple l = record {
  rest : list_all (λ s. is_quick s || simple_holds s l.fn.subject) (map simple_seen (drop l.simple-index l.tests))
      ≡ list_all (λ s. is_quick s || simple_holds s l.fn.subject) (map simple_seen l.tests);
  same : l.subject ≡ l.fn.subject;
}
