use Rattle.std.proofs.Common.{◌≡◌, ◌++◌, take, drop}
use Rattle.multi_replay.specs.Held.{without_command}
use Rattle.multi_replay.proofs.targets.take_waiting.Given as goal

abbrev pub invariant-loop-i : goal.invariant-loop-i
invariant-loop-i l = record {
  same : l.waiting.items ≡ l.initial.waiting.items;
  passed : take l.i l.waiting.items ++ without_command l.id (drop l.i l.waiting.items) ≡ without_command l.id l.waiting.items;
}
