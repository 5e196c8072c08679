-- The slots of the root and of all below it keep its tree.
use Rattle.std.proofs.Common.{ℕ, ◌<◌, List, [], ◌∷◌, ◌++◌, sym, ap, ◌∙◌, subst}
use Rattle.node_tree.specs.Nodes.{Branch, alone, nodes_of, node_count}
use Rattle.node_tree.specs.Numbers.{number_limit}
use Rattle.dom_objects.specs.Told.{Told, seen_branch, seen_nodes}
use Rattle.std.specs.FinMap as map
use Rattle.node_tree.specs.Seen.{seen_id}
use Rattle.front_mirror.specs.Shown.{shown_of}
use Rattle.front_mirror.specs.Sizes.{noted}
use Rattle.front_mirror.specs.Tables.{tree_in}
use Rattle.client_views.specs.Views.{keys}
use Rattle.front_mirror.specs.Shown.{told_id}
use Rattle.front_mirror.proofs.EditCounts.{root_counted, low_again}
use Rattle.front_mirror.proofs.KeptOrders.{root_ordered}
use Rattle.front_mirror.proofs.ViewLemmas.{mirror_of_root, low_of_root}
use Rattle.front_mirror.proofs.FewLemmas.{few_of_root}
use Rattle.front_mirror.proofs.EditTableLemmas.{root_kept}
use Rattle.front_mirror.proofs.mirror.Mirror.of_root.Goals as goal

pub note_all-requires : goal.note_all-requires
note_all-requires c = record {
  few = subst (λ (l : List (Branch Told)). node_count (nodes_of l) < number_limit) (sym c.from_ref.ensures.value)
      (few_of_root c.args.root c.requires.clear c.requires.fits);
}

pub invariant_of-result : goal.invariant_of-result
invariant_of-result c =
    let k = (root_kept c.new-table.result c.plant.new.self c.push.new.self
    (seen_branch c.args.root) c.new-table.ensures.slots c.new-table.ensures.ids
    (c.in_ok-push.ensures ∙ ap (λ (l : List ℕ). l ++ c.root.inside.id ∷ []) c.new-roots.ensures ∙ ap
    (λ (b : Branch Told). b.row.seen.id ∷ []) c.root.view_is)
    c.in_ok-plant.ensures.slots c.in_ok-plant.ensures.ids (mirror_of_root c.args.root c.requires.clear c.requires.fits)) in
    record {
      kept = k.1;
      counted = root_counted c.args.root (map.get c.new-counts.result) (map.get c.note_all.new.counts)
          (tree_in c.plant.new.self c.push.new.self)
          (c.in_ok-note_all.ensures.notes
          ∙ ap (λ (l : List (Branch Told)). noted seen_id (shown_of l) (map.get c.new-counts.result)) c.from_ref.ensures.value)
          k.0 (mirror_of_root c.args.root c.requires.clear c.requires.fits).view.ids;
      low = low_again (seen_nodes (alone c.args.root)) (tree_in c.plant.new.self c.push.new.self)
          (low_of_root c.args.root c.requires.fits) k.0;
      ordered = root_ordered c.args.root c.from_ref-2.result.now c.push_ids.new.ids.items c.in_ok-order.order
          (tree_in c.plant.new.self c.push.new.self) c.from_ref-2.ensures.value
          (c.in_ok-push_ids.ensures ∙ ap (λ (l : List ℕ). l ++ keys told_id (nodes_of c.from_ref-2.result.now)) c.new-ids.ensures.items)
          (c.in_ok-order.ensures ∙ c.deref.ensures.value) k.0;
    }

pub returns : goal.returns
returns c =
    (root_kept c.new-table.result c.plant.new.self c.push.new.self
    (seen_branch c.args.root) c.new-table.ensures.slots c.new-table.ensures.ids
    (c.in_ok-push.ensures ∙ ap (λ (l : List ℕ). l ++ c.root.inside.id ∷ []) c.new-roots.ensures ∙ ap
    (λ (b : Branch Told). b.row.seen.id ∷ []) c.root.view_is)
    c.in_ok-plant.ensures.slots c.in_ok-plant.ensures.ids (mirror_of_root c.args.root c.requires.clear c.requires.fits)).0
