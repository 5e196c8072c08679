-- The declarations so far.
use Rattle.std.proofs.Common.{◌≡◌, map, take}
use Rattle.css_agent.specs.RuleObjects.{inline_property}
use Rattle.css_agent.proofs.styles.inline_properties.Given as goal

abbrev pub invariant-loop-property : goal.invariant-loop-property
invariant-loop-property l = l.told.items ≡ map (inline_property l.text) (take l.property-index l.properties)
