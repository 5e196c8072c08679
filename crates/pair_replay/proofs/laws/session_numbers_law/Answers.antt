use Rattle.pair_replay.proofs.NumberLemmas.{each-numbers-one}
use Rattle.pair_replay.proofs.laws.session_numbers_law.Goals as goal

pub returns : goal.returns
returns c = record { numbers = each-numbers-one }
