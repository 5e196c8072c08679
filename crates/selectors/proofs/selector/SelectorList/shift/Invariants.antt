use Rattle.std.proofs.Common.{◌≡◌, ◌++◌, map, take, drop}
use Rattle.selectors.proofs.ShiftForms.{shifted}
use Rattle.selectors.proofs.selector.SelectorList.shift.Given as goal

abbrev pub invariant-loop-selector : goal.invariant-loop-selector
invariant-loop-selector l = l.selector-items
    ≡ map (shifted l.from l.to) (take l.selector-index l.fn.self.list.items) ++ drop l.selector-index l.fn.self.list.items
