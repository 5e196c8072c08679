-- Where its id stands in the list.
use Rattle.std.proofs.Common.{◌∙◌, ap}
use Rattle.node_tree.specs.Nodes.{Nodes}
use Rattle.node_tree.specs.Seen.{Seen, seen_id}
use Rattle.client_views.specs.Views.{keys}
use Rattle.front_mirror.proofs.RankedIds.{ranked}
use Rattle.front_mirror.proofs.mirror.Mirror.rank.Goals as goal

pub returns : goal.returns
returns c =
    ranked c.args.id c.args.self.now c.valid.ensures c.requires.known c.self.inside.order
    (c.self.invariant.ordered ∙ ap (λ (n : Nodes Seen). keys seen_id n) c.self.view_is) c.place_of.result
    c.place_of.ensures.there
