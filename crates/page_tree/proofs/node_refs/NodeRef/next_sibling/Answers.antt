-- The slot at the place after.
use Rattle.std.proofs.Common.{length, ap, sym, ◌∙◌}
use Rattle.std.specs.Option.{option_copied}
use Rattle.page_tree.specs.Zippers.{Zipper, next_of}
use Rattle.page_tree.proofs.SeatLemmas.{on-none, on-lands}
use Rattle.page_tree.proofs.node_refs.NodeRef.next_sibling.Goals as goal

pub invariant_of-result : goal.invariant_of-result
invariant_of-result c =
    let is = c.place-place.ensures.place ∙ sym (ap (λ (z : Zipper). length z.before) c.self.view_is) in
    (on-lands c.self.inside.arena.now c.self.inside.root c.self.inside.slot.now c.self.inside.place c.self.invariant c.place-place.result
    c.in-Some.slot.now is (sym c.sibling.ensures ∙ ap (λ o. option_copied o) c.in-Some.is)).seated

pub returns-in-Some : goal.returns-in-Some
returns-in-Some c =
    let is = c.place-place.ensures.place ∙ sym (ap (λ (z : Zipper). length z.before) c.self.view_is) in
    (on-lands c.self.inside.arena.now c.self.inside.root c.self.inside.slot.now c.self.inside.place c.self.invariant c.place-place.result
    c.in-Some.slot.now is (sym c.sibling.ensures ∙ ap (λ o. option_copied o) c.in-Some.is)).seen
    ∙ ap (λ (z : Zipper). next_of z) c.self.view_is

pub returns-in-None : goal.returns-in-None
returns-in-None c =
    let is = c.place-place.ensures.place ∙ sym (ap (λ (z : Zipper). length z.before) c.self.view_is) in
    on-none c.self.inside.arena.now c.self.inside.root c.self.inside.slot.now c.self.inside.place c.self.invariant c.place-place.result is
    (sym c.sibling.ensures ∙ ap (λ o. option_copied o) c.in-None.is)
    ∙ ap (λ (z : Zipper). next_of z) c.self.view_is
