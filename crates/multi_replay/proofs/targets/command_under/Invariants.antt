use Rattle.std.proofs.Common.{◌≡◌}
use Rattle.std.specs.VecDeque.Iter.{deque_iter_rest}
use Rattle.multi_replay.specs.Held.{command_among}
use Rattle.multi_replay.proofs.targets.command_under.Given as goal

abbrev pub invariant-loop-one : goal.invariant-loop-one
invariant-loop-one l = command_among l.id (deque_iter_rest l.one-iterator) ≡ command_among l.id l.waiting.items
