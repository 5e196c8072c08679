-- As many as the list has ids.
use Rattle.std.proofs.Common.{List, ℕ, ◌∙◌, ap, length}
use Rattle.node_tree.specs.Nodes.{Nodes}
use Rattle.node_tree.specs.Seen.{Seen, seen_id}
use Rattle.client_views.specs.Views.{keys}
use Rattle.front_mirror.proofs.RankedIds.{keys-count}
use Rattle.front_mirror.proofs.mirror.Mirror.known_count.Goals as goal

pub returns : goal.returns
returns c =
    c.len.ensures ∙ ap (λ (l : List ℕ). length l) (c.self.invariant.ordered ∙ ap (λ (n : Nodes Seen). keys seen_id n) c.self.view_is)
    ∙ keys-count seen_id c.args.self.now
