use Rattle.std.proofs.Common.{◌≡◌, map, take}
use Rattle.serde_json.specs.View.{view}
use Rattle.css_objects.specs.Styles.{rule_style_kind}
use Rattle.css_objects.proofs.results.style_list.Given as goal

abbrev pub invariant-loop-style : goal.invariant-loop-style
invariant-loop-style l = map view l.items.items ≡ map rule_style_kind.spell (take l.style-index l.styles)
