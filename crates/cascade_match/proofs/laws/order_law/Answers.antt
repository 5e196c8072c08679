use Rattle.cascade_match.proofs.OrderLemmas.{sorted-matched}
use Rattle.cascade_match.proofs.laws.order_law.Goals as goal

pub returns : goal.returns
returns c = sorted-matched
