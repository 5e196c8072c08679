-- The slot of the first key.
use Rattle.std.proofs.Common.{ap, sym, ◌∙◌}
use Rattle.std.specs.Option.{option_copied}
use Rattle.page_tree.specs.Zippers.{Zipper, first_child_of}
use Rattle.page_tree.proofs.SeatLemmas.{down-none, down-lands}
use Rattle.page_tree.proofs.node_refs.NodeRef.first_child.Goals as goal

pub invariant_of-result : goal.invariant_of-result
invariant_of-result c = (down-lands c.self.inside.arena.now c.self.inside.root c.self.inside.slot.now c.self.inside.place c.self.invariant
    c.in-Some.slot.now (sym c.first_child.ensures ∙ ap (λ o. option_copied o) c.in-Some.is)).seated

pub returns-in-Some : goal.returns-in-Some
returns-in-Some c =
    (down-lands c.self.inside.arena.now c.self.inside.root c.self.inside.slot.now c.self.inside.place c.self.invariant c.in-Some.slot.now
    (sym c.first_child.ensures ∙ ap (λ o. option_copied o) c.in-Some.is)).seen
    ∙ ap (λ (z : Zipper). first_child_of z) c.self.view_is

pub returns-in-None : goal.returns-in-None
returns-in-None c = down-none c.self.inside.arena.now c.self.inside.root c.self.inside.slot.now c.self.inside.place c.self.invariant
    (sym c.first_child.ensures ∙ ap (λ o. option_copied o) c.in-None.is) ∙ ap (λ (z : Zipper). first_child_of z) c.self.view_is
