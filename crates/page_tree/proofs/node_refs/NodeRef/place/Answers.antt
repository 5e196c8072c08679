-- The place that is known, or the place of the serial among the keys.
use Rattle.std.proofs.Common.{length, ap, ◌∙◌, arith}
use Rattle.page_tree.specs.Zippers.{Zipper}
use Rattle.page_tree.proofs.SeatLemmas.{seat-few, seat-known, seat-place}
use Rattle.page_tree.proofs.node_refs.NodeRef.place.Goals as goal

pub returns-in-Some-clause-few : goal.returns-in-Some-clause-few
returns-in-Some-clause-few c = let is = seat-known c.self.inside.arena.now c.self.inside.root c.self.inside.slot.now c.self.inside.place
    c.self.invariant c.in-Some.i c.in-Some.is in let few =
    (seat-few c.self.inside.arena.now c.self.inside.root c.self.inside.slot.now c.self.inside.place c.self.invariant).2 in omega arith

pub returns-in-None-clause-place : goal.returns-in-None-clause-place
returns-in-None-clause-place c = c.seat.ensures ∙ seat-place c.self.inside.arena.now c.self.inside.root c.self.inside.slot.now
    c.self.inside.place c.self.invariant ∙ ap (λ (z : Zipper). length z.before) c.self.view_is

pub returns-in-None-clause-few : goal.returns-in-None-clause-few
returns-in-None-clause-few c = let is = c.seat.ensures ∙ seat-place c.self.inside.arena.now c.self.inside.root c.self.inside.slot.now
    c.self.inside.place c.self.invariant in let few =
    (seat-few c.self.inside.arena.now c.self.inside.root c.self.inside.slot.now c.self.inside.place c.self.invariant).2 in omega arith
