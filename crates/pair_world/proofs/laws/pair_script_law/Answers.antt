use Rattle.pair_world.proofs.PairScriptLemmas.{pair-inputs-fit, pair-inputs-show}
use Rattle.pair_world.proofs.laws.pair_script_law.Goals as goal

pub returns : goal.returns
returns c = record { fit = pair-inputs-fit; show = pair-inputs-show }
