use Rattle.cascade_match.proofs.WinnerLemmas.{greatest-of, of-greatest, winner-there, one-winner, all-told}
use Rattle.cascade_match.proofs.laws.winner_law.Goals as goal

pub returns : goal.returns
returns c = record {
  greatest = λ blocks d declared. (greatest-of blocks d declared, of-greatest blocks d declared);
  some = winner-there;
  one = one-winner;
  all = all-told;
}
