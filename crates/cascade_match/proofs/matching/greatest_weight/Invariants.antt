-- The selectors that are left lead to the greatest, and the element is the same.
use Rattle.std.proofs.Common.{◌≡◌, drop, fold}
use Rattle.std.specs.List.{filter}
use Rattle.selectors.specs.Lists.{list_seen}
use Rattle.selectors.specs.Weight.{specificity_of}
use Rattle.select_match.specs.Matches.{selector_matches}
use Rattle.cascade_match.specs.Precedence.{greater}
use Rattle.cascade_match.specs.Matched.{greatest}
use Rattle.cascade_match.proofs.matching.greatest_weight.Given as goal

abbrev pub invariant-loop-i : goal.invariant-loop-i
invariant-loop-i l = record {
  rest : fold (λ best s. greater best (specificity_of s)) l.best (filter (λ s. selector_matches s l.fn.subject) (drop l.i (list_seen l.l)))
      ≡ greatest (list_seen l.l) l.fn.subject;
  same : l.subject ≡ l.fn.subject;
}
