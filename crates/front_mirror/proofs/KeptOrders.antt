-- A mirror's table, its map and its list of ids: of nothing, of a document that came, and after an edit.
use Rattle.std.proofs.Common.{◌≡◌, ℕ, true, None, IsSome, List, [], ◌∷◌, sym, ap, ◌∙◌, arith}
use Rattle.std.specs.Ordering.{nat_cmp}
use Rattle.std.specs.FinMap as numbers
use Rattle.node_tree.specs.Nodes.{Nodes, Branch, nodes_of, alone}
use Rattle.node_tree.specs.Keys.{find, spot}
use Rattle.node_tree.specs.Seen.{Seen, seen_id}
use Rattle.node_tree.proofs.KeyLemmas.{at-put}
use Rattle.dom_objects.specs.Told.{Told, seen_nodes}
use Rattle.client_views.specs.Views.{IsMirror, keys}
use Rattle.client_views.specs.Moves.{changed, suits_change, nodes_told}
use Rattle.front_mirror.specs.declared.edits.NodeChange.{NodeChange}
use Rattle.front_mirror.specs.declared.order_changes.OrderChange.{OrderChange}
use Rattle.front_mirror.specs.declared.table.Table.{Table}
use Rattle.front_mirror.specs.Edits.{edit_nodes, edit_change, edit_told, fits_edit, is_ready, spot_fault, with_changed}
use Rattle.front_mirror.specs.Orders.{change_place, nodes_gone, ChangesOrder}
use Rattle.front_mirror.specs.Shown.{known_at, told_id}
use Rattle.front_mirror.specs.Sizes.{KeepsCounted}
use Rattle.front_mirror.specs.Tables.{table_slots, table_ids, tree_in}
use Rattle.front_mirror.specs.Walks.{spliced}
use Rattle.front_mirror.proofs.ChildLemmas.{known-found}
use Rattle.front_mirror.proofs.EditCounts.{none_counted, none_low}
use Rattle.front_mirror.proofs.EditLemmas.{edit_added, edit_ready, mirror_of_edit}
use Rattle.front_mirror.proofs.EditTableLemmas.{nothing_kept}
use Rattle.front_mirror.proofs.EditTurns.{ready_known, ready_suits}
use Rattle.front_mirror.proofs.RankedIds.{ids_turned}
use Rattle.front_mirror.proofs.ToldLemmas.{keys-seen}

-- nothing is kept of nothing
pub nothing_counted : (t : Table) (roots : List ℕ) (counts : numbers.FinMap nat_cmp ℕ) (order : List ℕ)
    → ((k : ℕ) → table_slots t k ≡ None) → ((x : ℕ) → table_ids t x ≡ None) → roots ≡ [] → order ≡ []
    → KeepsCounted t roots counts order
nothing_counted t roots counts order slots ids is empty =
    let k = nothing_kept t roots slots ids is in
    record {
      kept = k.1;
      counted = none_counted (numbers.get counts) (tree_in t roots) k.0;
      low = none_low (tree_in t roots) k.0;
      ordered = empty ∙ ap (λ (n : Nodes Seen). keys seen_id n) (sym k.0);
    }

-- the ids of a document that came
pub root_ordered : (b : Branch Told) (nodes : List (Branch Told)) (ids order : List ℕ) (n : Nodes Seen) → nodes ≡ b ∷ []
    → ids ≡ keys told_id (nodes_of nodes) → order ≡ ids → n ≡ seen_nodes (alone b) → order ≡ keys seen_id n
root_ordered b nodes ids order n one listed same is =
    same ∙ listed ∙ ap (λ (l : List (Branch Told)). keys told_id (nodes_of l)) one ∙ sym (keys-seen seen_id (alone b))
    ∙ ap (λ (m : Nodes Seen). keys seen_id m) (sym is)

module _ (v : Nodes Seen) (id : ℕ) (e : NodeChange) (mirror : IsMirror v) (fits : fits_edit e ≡ true)
    (clear : spot_fault v (edit_told id e) (spot seen_id id 0 v) ≡ None) where
  ready : is_ready id (edit_change e) v ≡ true
  ready = edit_ready v id e mirror fits clear

  pub span_known : IsSome (find seen_id id v)
  span_known = ready_known v id (edit_change e) ready

  pub span_suits : suits_change (edit_change e) (known_at id v) ≡ true
  span_suits = ready_suits v id (edit_change e) ready

  -- the ids of the nodes that come, at their place
  pub edit_order : (s : OrderChange) → s.place ≡ change_place id (edit_change e) v → s.gone ≡ nodes_gone (edit_change e) v
      → s.ids.items ≡ keys told_id (edit_nodes e) → ChangesOrder s v (with_changed id (edit_change e) v)
  edit_order s place gone listed =
      let found = known-found id v span_known in
      let p = at-put seen_id id (changed (edit_change e) (known_at id v)) v (known_at id v) found in
      let t = ids_turned id v (with_changed id (edit_change e) v) mirror (mirror_of_edit v id e mirror fits clear) (known_at id v) found
      (edit_change e) span_suits p.1
      in
      let ids : s.ids.items ≡ keys seen_id (nodes_told (edit_change e)) =
      listed ∙ sym (keys-seen seen_id (edit_nodes e)) ∙ ap (λ (n : Nodes Seen). keys seen_id n) (edit_added e)
      in
      let low = t.fits in
      record {
        fits = omega (arith, low, place, gone);
        turned = t.turned ∙ (λ i. spliced (sym place i) (sym gone i) (sym ids i) (keys seen_id v));
      }

-- the list after it gave way
pub order_spliced : (s : OrderChange) (v m n : Nodes Seen) (ids was is : List ℕ) → ChangesOrder s v m
    → was ≡ keys seen_id v → ids ≡ s.ids.items → is ≡ spliced s.place s.gone ids was → n ≡ m → is ≡ keys seen_id n
order_spliced s v m n ids was is turns before listed made same =
    made ∙ (λ i. spliced s.place s.gone (listed i) (before i)) ∙ sym turns.turned ∙ ap (λ (k : Nodes Seen). keys seen_id k) (sym same)
