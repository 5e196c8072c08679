use Rattle.std.proofs.Common.{◌≡◌, map, take}
use Rattle.serde_json.specs.View.{view}
use Rattle.css_objects.specs.Styles.{property_kind}
use Rattle.css_objects.proofs.styles.property_list.Given as goal

abbrev pub invariant-loop-property : goal.invariant-loop-property
invariant-loop-property l = map view l.items.items ≡ map property_kind.spell (take l.property-index l.properties)
