use Rattle.std.proofs.Common.{◌≡◌, drop}
use Rattle.serde_json.specs.View.{items_view}
use Rattle.cdp_json.specs.Kinds.{as_whole, read_items}
use Rattle.cdp_json.specs.Lists.{with_list_front}
use Rattle.cdp_json.proofs.lists.wholes_of.Given as goal

abbrev pub invariant-loop-item : goal.invariant-loop-item
invariant-loop-item l = with_list_front l.numbers.items (read_items as_whole (items_view (drop l.item-index l.items)))
    ≡ read_items as_whole (items_view l.items)
