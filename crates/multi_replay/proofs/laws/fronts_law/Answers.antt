use Rattle.multi_replay.proofs.SendLemmas.{first-asks, first-fetches, second-asks, second-fetches, both-attach, both-detach}
use Rattle.multi_replay.proofs.BothLemmas.{both-begin, both-take, faults-are-of-fold}
use Rattle.multi_replay.proofs.NumberLemmas.{numbers-are-of-texts}
use Rattle.multi_replay.proofs.laws.fronts_law.Goals as goal

pub returns : goal.returns
returns c = record {
  begins = both-begin;
  takes = both-take;
  faults = faults-are-of-fold;
  first_asks = first-asks;
  first_fetches = first-fetches;
  second_asks = second-asks;
  second_fetches = second-fetches;
  attaches = both-attach;
  detaches = both-detach;
  numbers = numbers-are-of-texts;
}
