use Rattle.std.proofs.Common.{◌≡◌, map, take}
use Rattle.serde_json.specs.View.{view}
use Rattle.cdp_json.specs.Kinds.{text}
use Rattle.css_objects.proofs.results.name_list.Given as goal

abbrev pub invariant-loop-name : goal.invariant-loop-name
invariant-loop-name l = map view l.items.items ≡ map text.spell (take l.name-index l.names)
