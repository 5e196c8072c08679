use Rattle.std.proofs.Common.{◌≡◌, map, take}
use Rattle.serde_json.specs.View.{view}
use Rattle.css_objects.specs.Selectors.{selector_kind}
use Rattle.css_objects.proofs.selectors.selector_list.Given as goal

abbrev pub invariant-loop-selector : goal.invariant-loop-selector
invariant-loop-selector l = map view l.items.items ≡ map selector_kind.spell (take l.selector-index l.selectors)
