-- The slot at the place before.
use Rattle.std.proofs.Common.{length, ap, sym, ◌∙◌}
use Rattle.std.specs.Option.{option_copied}
use Rattle.page_tree.specs.Zippers.{Zipper, previous_of}
use Rattle.page_tree.proofs.SeatLemmas.{back-there, back-lands}
use Rattle.page_tree.proofs.node_refs.NodeRef.previous_sibling.Goals as goal

pub invariant_of-result : goal.invariant_of-result
invariant_of-result c =
    let is = c.place-place.ensures.place ∙ sym (ap (λ (z : Zipper). length z.before) c.self.view_is) in
    (back-lands c.self.inside.arena.now c.self.inside.root c.self.inside.slot.now c.self.inside.place c.self.invariant c.place-place.result
    c.in-Some.slot.now is c.if-place-eq0.false (sym c.sibling.ensures ∙ ap (λ o. option_copied o) c.in-Some.is)).seated

pub unreachable-requires : goal.unreachable-requires
unreachable-requires c =
    let is = c.place-place.ensures.place ∙ sym (ap (λ (z : Zipper). length z.before) c.self.view_is) in
    back-there c.self.inside.arena.now c.self.inside.root c.self.inside.slot.now c.self.inside.place c.self.invariant c.place-place.result
    is c.if-place-eq0.false (sym c.sibling.ensures ∙ ap (λ o. option_copied o) c.in-None.is)

pub returns : goal.returns
returns c =
    let is = c.place-place.ensures.place ∙ sym (ap (λ (z : Zipper). length z.before) c.self.view_is) in
    (back-lands c.self.inside.arena.now c.self.inside.root c.self.inside.slot.now c.self.inside.place c.self.invariant c.place-place.result
    c.in-Some.slot.now is c.if-place-eq0.false (sym c.sibling.ensures ∙ ap (λ o. option_copied o) c.in-Some.is)).seen
    ∙ ap (λ (z : Zipper). previous_of z) c.self.view_is
