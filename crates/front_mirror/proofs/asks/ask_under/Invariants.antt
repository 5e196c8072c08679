use Rattle.std.proofs.Common.{◌≡◌}
use Rattle.std.specs.VecDeque.Iter.{deque_iter_rest}
use Rattle.front_mirror.specs.Front.{ask_under}
use Rattle.front_mirror.proofs.asks.ask_under.Given as goal

abbrev pub invariant-loop-ask : goal.invariant-loop-ask
invariant-loop-ask l = ask_under l.id (deque_iter_rest l.ask-iterator) ≡ ask_under l.id l.asks.items
