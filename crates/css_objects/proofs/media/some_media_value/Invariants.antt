use Rattle.std.proofs.Common.{◌≡◌, map, take}
use Rattle.serde_json.specs.View.{view}
use Rattle.css_objects.specs.Media.{media_kind}
use Rattle.css_objects.proofs.media.some_media_value.Given as goal

abbrev pub invariant-loop-rule : goal.invariant-loop-rule
invariant-loop-rule l = map view l.items.items ≡ map media_kind.spell (take l.rule-index l.media)
