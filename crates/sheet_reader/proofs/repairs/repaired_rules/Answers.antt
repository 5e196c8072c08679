use Rattle.std.proofs.Common.{◌≡◌, ◌++◌, All, length, map, take, drop, sym, ap, subst, ◌∙◌}
use Rattle.selectors.specs.Moves.{cut, moved_place}
use Rattle.sheet_reader.specs.Forms.{rule_seen}
use Rattle.sheet_reader.specs.Repairs.{moved_number, renumbered_rule, CanRenumberRule}
use Rattle.sheet_reader.proofs.FilingForms.{digests-joined}
use Rattle.sheet_reader.proofs.MoveAround.{lent}
use Rattle.sheet_reader.proofs.PartMoves.{map_take, map_drop}
use Rattle.sheet_reader.proofs.RepairMoves.{joined_seen}
use Rattle.sheet_reader.proofs.repairs.repaired_rules.Goals as goal

pub renumber_rules-requires : goal.renumber_rules-requires
renumber_rules-requires c =
    let left : map rule_seen c.deref_mut.result.now ≡ drop c.args.share.to c.args.old =
    ap (map rule_seen) (c.deref_mut.ensures.value ∙ c.divided.ensures.back)
    ∙ sym (map_drop rule_seen c.args.share.to c.into_vec-front.result.items)
    ∙ ap (drop c.args.share.to) (c.into_vec-front.ensures ∙ c.take_digests-digests.ensures.same) in
    let shift = c.args.shift in
    subst (All (CanRenumberRule (cut shift.gap.start shift.gap.end shift.gap.size) shift.share shift.count)) (sym left) c.requires.behind

pub with_digests-requires : goal.with_digests-requires
with_digests-requires c =
    let front : map rule_seen c.divided.new.list.items ≡ take c.args.share.before c.args.old =
    ap (map rule_seen) c.divided.ensures.front ∙ sym (map_take rule_seen c.args.share.before c.into_vec-front.result.items)
    ∙ ap (take c.args.share.before) (c.into_vec-front.ensures ∙ c.take_digests-digests.ensures.same) in
    digests-joined c.args.share.before c.take_digests-digests.result.items c.truncate.new.self.items c.args.old c.joined.result.items
    c.divided.new.list.items c.args.new.items _ c.take_digests-digests.ensures.digests c.truncate.ensures.items c.joined.ensures front

pub returns : goal.returns
returns c =
    let shift = c.args.shift in
    let f =
    renumbered_rule (moved_place (cut shift.gap.start shift.gap.end shift.gap.size)) (moved_number shift.share shift.count) in
    let items = c.into_vec-front.result.items in
    let left : map rule_seen c.deref_mut.result.now ≡ drop c.args.share.to c.args.old =
    ap (map rule_seen) (c.deref_mut.ensures.value ∙ c.divided.ensures.back)
    ∙ sym (map_drop rule_seen c.args.share.to items)
    ∙ ap (drop c.args.share.to) (c.into_vec-front.ensures ∙ c.take_digests-digests.ensures.same) in
    let front : map rule_seen c.divided.new.list.items ≡ take c.args.share.before c.args.old =
    ap (map rule_seen) c.divided.ensures.front ∙ sym (map_take rule_seen c.args.share.before items)
    ∙ ap (take c.args.share.before) (c.into_vec-front.ensures ∙ c.take_digests-digests.ensures.same) in
    let kept : length c.renumber_rules.new.rules ≡ length c.deref_mut.result.now = c.renumber_rules.auto.rules in
    let back = lent c.divided.new.back.len c.renumber_rules.new.rules c.divided.new.back.items (kept ∙ c.deref_mut.ensures.len)
    (kept ∙ ap length c.deref_mut.ensures.value) in
    let moved = c.renumber_rules.ensures ∙ ap (map f) left in
    c.with_digests.ensures ∙ joined_seen c.joined.result.items c.divided.new.list.items c.args.new.items _ c.joined.ensures
    ∙ (λ i. front i ++ (map rule_seen c.args.new.items ++ (ap (map rule_seen) back ∙ moved) i))
