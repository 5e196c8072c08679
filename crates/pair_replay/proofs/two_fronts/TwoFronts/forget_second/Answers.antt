-- Nothing was told of a second front end that is still to come.
use Rattle.pair_replay.proofs.SameEnds.{seated-same}
use Rattle.pair_replay.proofs.two_fronts.TwoFronts.forget_second.Goals as goal

pub returns-clause-ends : goal.returns-clause-ends
returns-clause-ends g c = seated-same _ _
