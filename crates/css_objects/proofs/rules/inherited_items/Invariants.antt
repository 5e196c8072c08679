use Rattle.std.proofs.Common.{◌≡◌, drop}
use Rattle.serde_json.specs.View.{items_view}
use Rattle.cdp_json.specs.Kinds.{read_items}
use Rattle.cdp_json.specs.Lists.{with_list_front}
use Rattle.css_objects.specs.Rules.{inherited_kind}
use Rattle.css_objects.proofs.rules.inherited_items.Given as goal

abbrev pub invariant-loop-item : goal.invariant-loop-item
invariant-loop-item l = with_list_front l.entries.items (read_items inherited_kind.reads (items_view (drop l.item-index l.items)))
    ≡ read_items inherited_kind.reads (items_view l.items)
