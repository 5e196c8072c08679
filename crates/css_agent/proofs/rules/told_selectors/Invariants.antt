-- The selectors so far, of the same text.
use Rattle.std.proofs.Common.{◌≡◌, map, take}
use Rattle.selectors.specs.Lists.{list_seen}
use Rattle.css_agent.specs.RuleObjects.{told_selector}
use Rattle.css_agent.proofs.rules.told_selectors.Given as goal

abbrev pub invariant-loop-i : goal.invariant-loop-i
invariant-loop-i l = record {
  told : l.told.items ≡ map (told_selector l.fn.ruler) (take l.i (list_seen l.selectors));
  same : l.ruler ≡ l.fn.ruler;
}
