use Rattle.std.proofs.Common.{◌≡◌, ◌++◌, map, take, drop}
use Rattle.selectors.proofs.MoveForms.{placed}
use Rattle.selectors.proofs.selector.SelectorList.move_behind.Given as goal

abbrev pub invariant-loop-selector : goal.invariant-loop-selector
invariant-loop-selector l = l.selector-items
    ≡ map (placed l.start l.end l.size) (take l.selector-index l.fn.self.list.items) ++ drop l.selector-index l.fn.self.list.items
