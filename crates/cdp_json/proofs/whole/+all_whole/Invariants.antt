use Rattle.std.proofs.Common.{◌≡◌, drop}
use Rattle.serde_json.specs.View.{items_view, members_view}
use Rattle.serde_json.specs.Written.{items_have_float, members_have_float}
use Rattle.cdp_json.proofs.whole.+all_whole.Given as goal

abbrev pub invariant-all_items_whole-loop-item : goal.invariant-all_items_whole-loop-item
invariant-all_items_whole-loop-item l = items_have_float (items_view (drop l.item-index l.items)) ≡ items_have_float (items_view l.items)

abbrev pub invariant-all_members_whole-loop-member : goal.invariant-all_members_whole-loop-member
invariant-all_members_whole-loop-member l =
    (goal.iterator-all_members_whole-loop-member).can_next l.member-iterator
    × (goal.iterator-all_members_whole-loop-member).is_finite l.member-iterator
    × (members_have_float (members_view l.member-iterator) ≡ members_have_float (members_view l.map.entries))
