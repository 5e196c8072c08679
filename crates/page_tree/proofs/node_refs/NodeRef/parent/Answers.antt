-- The slot of the parent, where there is one.
use Rattle.std.proofs.Common.{ap, sym, ◌∙◌}
use Rattle.std.specs.Option.{option_copied}
use Rattle.page_tree.specs.Zippers.{Zipper, parent_of}
use Rattle.page_tree.proofs.SeatLemmas.{up-none, up-there, up-lands}
use Rattle.page_tree.proofs.node_refs.NodeRef.parent.Goals as goal

pub returns-in_default : goal.returns-in_default
returns-in_default c = up-none c.self.inside.arena.now c.self.inside.root c.self.inside.slot.now c.self.inside.place c.self.invariant
    c.in_default.is ∙ ap (λ (z : Zipper). parent_of z) c.self.view_is

pub unreachable-requires : goal.unreachable-requires
unreachable-requires c = up-there c.self.inside.arena.now c.self.inside.root c.self.inside.slot.now c.self.inside.place c.self.invariant
    c.in-Some.key c.in-Some.is (sym c.get.ensures ∙ ap (λ o. option_copied o) c.in-None.is)

pub returns : goal.returns
returns c =
    (up-lands c.self.inside.arena.now c.self.inside.root c.self.inside.slot.now c.self.inside.place c.self.invariant c.in-Some.key
    c.in-Some-get.over.now c.in-Some.is (sym c.get.ensures ∙ ap (λ o. option_copied o) c.in-Some-get.is)).seen
    ∙ ap (λ (z : Zipper). parent_of z) c.self.view_is
