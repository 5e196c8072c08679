-- As many are told as the front end has.
use Rattle.std.proofs.Common.{length, ap}
use Rattle.inspect_replay.proofs.SameEnds.{pauses-same}
use Rattle.inspect_replay.proofs.one_front.OneFront.tell_pauses.Goals as goal

pub returns : goal.returns
returns g c = pauses-same c.args.self.now _ _ _ (ap length c.pauses.ensures)
