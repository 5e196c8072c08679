-- No more than the nodes of the page.
use Rattle.std.proofs.Common.{length, ◌<◌, subst}
use Rattle.page_tree.specs.Forms.{max_nodes}
use Rattle.page_tree.specs.Zippers.{Zipper, earlier, later}
use Rattle.page_tree.proofs.SeatLemmas.{seat-few}
use Rattle.page_tree.proofs.node_refs.NodeRef.are_few.Goals as goal

pub returns-clause-earlier : goal.returns-clause-earlier
returns-clause-earlier c = subst (λ (z : Zipper). length (earlier z) < max_nodes) c.self.view_is
    (seat-few c.self.inside.arena.now c.self.inside.root c.self.inside.slot.now c.self.inside.place c.self.invariant).0

pub returns-clause-later : goal.returns-clause-later
returns-clause-later c = subst (λ (z : Zipper). length (later z) < max_nodes) c.self.view_is
    (seat-few c.self.inside.arena.now c.self.inside.root c.self.inside.slot.now c.self.inside.place c.self.invariant).1
