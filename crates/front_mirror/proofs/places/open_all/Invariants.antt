use Rattle.std.proofs.Common.{◌≡◌, ◌++◌, Some, map}
use Rattle.front_mirror.proofs.places.open_all.Given as goal

abbrev pub invariant-loop-panel : goal.invariant-loop-panel
invariant-loop-panel g l = l.slots.items ++ map Some l.panel-iterator.rest.items ≡ map Some l.fn.panels.items
