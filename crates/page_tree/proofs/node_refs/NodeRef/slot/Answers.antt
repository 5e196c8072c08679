-- The row of the slot is the node's.
use Rattle.std.proofs.Common.{ap, ◌∙◌}
use Rattle.page_tree.specs.Zippers.{Zipper}
use Rattle.page_tree.proofs.SeatLemmas.{seat-row}
use Rattle.page_tree.proofs.node_refs.NodeRef.slot.Goals as goal

pub returns : goal.returns
returns c = seat-row c.self.inside.arena.now c.self.inside.root c.self.inside.slot.now c.self.inside.place c.self.invariant ∙ ap
    (λ (z : Zipper). z.branch.row) c.self.view_is
