use Rattle.std.proofs.Common.{◌≡◌, drop}
use Rattle.serde_json.specs.View.{items_view}
use Rattle.cdp_json.specs.Kinds.{read_items}
use Rattle.cdp_json.specs.Lists.{with_list_front}
use Rattle.css_objects.specs.Rules.{match_kind}
use Rattle.css_objects.proofs.rules.match_items.Given as goal

abbrev pub invariant-loop-item : goal.invariant-loop-item
invariant-loop-item l = with_list_front l.matches.items (read_items match_kind.reads (items_view (drop l.item-index l.items)))
    ≡ read_items match_kind.reads (items_view l.items)
