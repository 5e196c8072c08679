use Rattle.cascade_match.proofs.FilingLemmas.{selector-has, rule-unmatched}
use Rattle.cascade_match.proofs.laws.filing_law.Goals as goal

pub returns : goal.returns
returns c = record {
  has = selector-has;
  only = rule-unmatched;
}
