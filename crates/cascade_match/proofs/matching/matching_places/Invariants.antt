-- The places found and those that are left make up the whole, and the element is the same.
use Rattle.std.proofs.Common.{◌≡◌, ◌++◌, drop}
use Rattle.selectors.specs.Lists.{list_seen}
use Rattle.cascade_match.specs.Matched.{places_from, places_matching}
use Rattle.cascade_match.proofs.matching.matching_places.Given as goal

abbrev pub invariant-loop-i : goal.invariant-loop-i
invariant-loop-i l = record {
  rest : l.places.items ++ places_from l.i (drop l.i (list_seen l.l)) l.fn.subject ≡ places_matching (list_seen l.l) l.fn.subject;
  same : l.subject ≡ l.fn.subject;
}
