-- What is left agrees on the same number.
use Rattle.std.proofs.Common.{◌≡◌, drop, fold}
use Rattle.selectors.specs.Lists.{list_seen}
use Rattle.sheet_reader.specs.Filings.{agreed, selector_digest, list_digest}
use Rattle.sheet_reader.proofs.filings.list_digest.Given as goal

abbrev pub invariant-loop-i : goal.invariant-loop-i
invariant-loop-i l = fold (λ n t. agreed n (selector_digest t)) l.number (drop l.i (list_seen l.selectors))
    ≡ list_digest (list_seen l.selectors)
