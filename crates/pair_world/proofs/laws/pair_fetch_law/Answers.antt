use Rattle.pair_world.proofs.KeptShown.{pair-refresh-shows}
use Rattle.pair_world.proofs.FetchScripts.{pair-lines-show}
use Rattle.pair_world.proofs.laws.pair_fetch_law.Goals as goal

pub returns : goal.returns
returns c = record { refreshed = pair-refresh-shows; lines = pair-lines-show }
