use Rattle.std.proofs.Common.{◌≡◌, ◌++◌, take, drop}
use Rattle.front_mirror.specs.Front.{ask_under, asks_without}
use Rattle.front_mirror.proofs.asks.take_ask.Given as goal

abbrev pub invariant-loop-i : goal.invariant-loop-i
invariant-loop-i l = record {
  same : l.asks.items ≡ l.initial.asks.items;
  passed : take l.i l.asks.items ++ asks_without l.id (drop l.i l.asks.items) ≡ asks_without l.id l.asks.items;
  found : ask_under l.id (drop l.i l.asks.items) ≡ ask_under l.id l.asks.items;
}
