-- The ids of the nodes that come, at the place of the edit.
use Rattle.std.proofs.Common.{ℕ, List, ◌++◌, ap, ◌∙◌}
use Rattle.node_tree.specs.Nodes.{Nodes, nodes_of}
use Rattle.dom_objects.specs.Told.{Told}
use Rattle.client_views.specs.Views.{keys}
use Rattle.front_mirror.specs.Shown.{told_id}
use Rattle.front_mirror.proofs.KeptOrders.{span_known, span_suits, edit_order}
use Rattle.front_mirror.proofs.mirror.Mirror.order_change.Goals as goal

pub span_of-place-requires-clause-known : goal.span_of-place-requires-clause-known
span_of-place-requires-clause-known c =
    span_known c.args.self.now c.args.id c.args.edit.now c.valid.ensures c.requires.fits c.requires.clear

pub span_of-place-requires-clause-suits : goal.span_of-place-requires-clause-suits
span_of-place-requires-clause-suits c =
    span_suits c.args.self.now c.args.id c.args.edit.now c.valid.ensures c.requires.fits c.requires.clear

pub returns : goal.returns
returns c =
    edit_order c.args.self.now c.args.id c.args.edit.now c.valid.ensures c.requires.fits c.requires.clear
    (record { place = c.span_of-place.result.0; gone = c.span_of-place.result.1; ids = c.push_ids.new.ids }) c.span_of-place.ensures.place
    c.span_of-place.ensures.gone
    (c.in_ok-push_ids.ensures ∙ ap (λ (l : List ℕ). l ++ keys told_id (nodes_of c.nodes.result.now)) c.new-ids.ensures.items
    ∙ ap (λ (n : Nodes Told). keys told_id n) c.nodes.ensures)
