-- The declarations so far, of the same text.
use Rattle.std.proofs.Common.{◌≡◌, map, take}
use Rattle.css_agent.specs.RuleObjects.{sheet_property}
use Rattle.css_agent.proofs.styles.sheet_properties.Given as goal

abbrev pub invariant-loop-property : goal.invariant-loop-property
invariant-loop-property l = record {
  told : l.told.items ≡ map (sheet_property l.fn.ruler) (take l.property-index l.properties);
  same : l.ruler ≡ l.fn.ruler;
}
