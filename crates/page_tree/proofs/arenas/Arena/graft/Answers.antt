-- The slot whose children get one more is there, before and after the planting.
use Rattle.std.proofs.Common.{◌≡◌, Some, length, refl, sym, ap, ◌∙◌, arith}
use Rattle.std.specs.Option.{option_copied}
use Rattle.page_tree.specs.Arenas.{slots_in}
use Rattle.page_tree.specs.declared.slots.Slot.{Slot}
use Rattle.page_tree.proofs.ArenaSteps.{place_le, either_way, filed_turned, filed_same}
use Rattle.page_tree.proofs.arenas.Arena.graft.Goals as goal

pub insert_child-requires : goal.insert_child-requires
insert_child-requires c slot at =
    let there : slots_in c.args.self.now c.args.key
    ≡ Some c.in-Some.slot.now = sym c.get.ensures ∙ ap (λ o. option_copied o) c.in-Some.is in
    let both : Some c.in-Some.slot.now ≡ Some slot = sym (c.plant.ensures.grown.kept c.args.key c.in-Some.slot.now there) ∙ at in
    let same : c.in-Some.slot.now ≡ slot = cc in
    let size = ap (λ (s : Slot). length s.children) same in
    let low = place_le c.args.self.now c.args.before c.in-Some.slot.now.children in
    omega (arith, size, low, c.place-i.ensures)

pub returns-clause-filed : goal.returns-clause-filed
returns-clause-filed c =
    let there : slots_in c.args.self.now c.args.key
    ≡ Some c.in-Some.slot.now = sym c.get.ensures ∙ ap (λ o. option_copied o) c.in-Some.is in
    let kept = c.plant.ensures.grown.kept c.args.key c.in-Some.slot.now there in
    either_way c.insert_child.result _ _ _ c.insert_child.ensures.ok c.insert_child.ensures.err
    (λ turned. filed_turned c.plant.new.self c.insert_child.new.self c.args.key c.in-Some.slot.now _ kept refl turned
    c.insert_child.ensures.keys c.plant.ensures.filed)
    (λ same. filed_same c.plant.new.self c.insert_child.new.self same c.insert_child.ensures.keys c.plant.ensures.filed)
