use Rattle.multi_replay.proofs.TakeLemmas.{counted-kept}
use Rattle.multi_replay.proofs.pair.Pair.take_second.Goals as goal

pub returns-then-eq-clause-counted : goal.returns-then-eq-clause-counted
returns-then-eq-clause-counted g c =
    counted-kept c.args.self.now.second c.in-Some.second c.take_whole.new.front c.args.text.items c.take_whole.result c.in-Some.is
    c.requires.counted c.take_whole.ensures.takes
