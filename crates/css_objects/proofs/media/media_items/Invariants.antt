use Rattle.std.proofs.Common.{◌≡◌, drop}
use Rattle.serde_json.specs.View.{items_view}
use Rattle.cdp_json.specs.Kinds.{read_items}
use Rattle.cdp_json.specs.Lists.{with_list_front}
use Rattle.css_objects.specs.Media.{media_kind}
use Rattle.css_objects.proofs.media.media_items.Given as goal

abbrev pub invariant-loop-item : goal.invariant-loop-item
invariant-loop-item l = with_list_front l.list.items (read_items media_kind.reads (items_view (drop l.item-index l.items)))
    ≡ read_items media_kind.reads (items_view l.items)
