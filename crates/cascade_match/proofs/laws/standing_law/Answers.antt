use Rattle.cascade_match.proofs.StandingLemmas.{each-applied, only-applied}
use Rattle.cascade_match.proofs.laws.standing_law.Goals as goal

pub returns : goal.returns
returns c = record {
  each = each-applied;
  only = λ m book z e there. let s = only-applied m book z e there in (s.placed, s.applies, s.is);
}
