use Rattle.pair_world.proofs.PairLemmas.{pairs-fit, pairs-shown, pairs-settle}
use Rattle.pair_world.proofs.laws.pair_law.Goals as goal

pub returns : goal.returns
returns c = λ d. record { fits = pairs-fit; shown = pairs-shown; settles = pairs-settle }
