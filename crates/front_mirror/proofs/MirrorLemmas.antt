-- The mirror's table after an edit of one node.
use Rattle.std.proofs.Common.{◌≡◌, ℕ, ◌+◌, ◌≤◌, ◌==◌, ◌||◌, true, List, [], ◌∷◌, Some, refl, ap, subst, ◌∙◌, arith}
use Rattle.node_tree.specs.Nodes.{Nodes, none, Branch, alone, height}
use Rattle.node_tree.specs.Keys.{tally, find, put}
use Rattle.node_tree.specs.Seen.{Seen, counted, opened, seen_id}
use Rattle.client_views.specs.Views.{keys}
use Rattle.node_tree.specs.Levels.{most_levels}
use Rattle.node_tree.specs.LabelChanges.{placed, pairs_without, with_attribute, without_attribute, with_value}
use Rattle.client_views.specs.Moves.{shows, inserts, removes, counts, sets, drops, says, changed, has_tree, without_tree}
use Rattle.node_tree.proofs.ArenaLemmas.{kept_trees-keeps}
use Rattle.front_mirror.specs.declared.slots.Slot.{Slot}
use Rattle.front_mirror.specs.declared.slots.Below.TheVariants.{Counted}
use Rattle.front_mirror.specs.declared.table.Table.{Table}
use Rattle.front_mirror.specs.Tables.{mirror_row, by_id, table_slots, table_ids, root_ids, TableTurned, TableGrown, TableCut, opened_slot}
use Rattle.front_mirror.specs.Tables.{with_child_id, without_child_id, table_trees, without_slots, IsTable}
use Rattle.client_views.proofs.InsertedLemmas.{Inserted, tally-inserted, height-inserted, inserted_after}
use Rattle.front_mirror.proofs.TableLemmas.{AreNew}
use Rattle.front_mirror.proofs.TurnLemmas.{here, after_keeps, goes, table_relabelled, table_grown, table_cut}

-- a tree is no higher than those among which it stands
height_inserted_le : (w : Branch Seen) (m k : Nodes Seen) → Inserted w m k → height k ≤ most_levels → height (alone w) ≤ most_levels
height_inserted_le w m k e h = let i = height-inserted e in omega arith

module _ (a b : Table) (roots : List ℕ) (n : Nodes Seen) (table : IsTable a roots n) (once : (y : ℕ) → tally seen_id y n ≤ 1) (x : ℕ)
    (old : Branch Seen) (found : find seen_id x n ≡ Some old) where
  abbrev slot : Slot
  slot = (here a roots n table once x old found).slot

  at : table_slots a x ≡ Some slot
  at = (here a roots n table once x old found).at

  row : mirror_row slot ≡ old.row
  row = (here a roots n table once x old found).row_is

  -- the row alone changed
  row_changed : (f : Slot → Slot) (g : Seen → Seen) → ((s : Slot) → mirror_row (f s) ≡ g (mirror_row s)) → ((s : Slot) → (f s).id ≡ s.id)
      → ((s : Slot) → (f s).serial ≡ s.serial) → ((s : Slot) → (f s).parent ≡ s.parent)
      → ((s : Slot) → (f s).children ≡ s.children) → TableTurned a b x f → b.ids ≡ a.ids
      → IsTable b roots (put seen_id x (record { row = g old.row; children = old.children }) n)
  row_changed f g rows ids serials parents children turned same =
      subst (λ (r : Seen). IsTable b roots (put seen_id x (record { row = r; children = old.children }) n)) (rows slot ∙ ap g row)
      (table_relabelled a roots n table once x old found b (f slot) (turned slot at) same (ids slot) (serials slot) (parents slot)
      (children slot))

  pub counted_table : (m : ℕ) → TableTurned a b x (λ s. record s { below = Counted m }) → b.ids ≡ a.ids
      → IsTable b roots (put seen_id x (changed (counts m) old) n)
  counted_table m turned same = row_changed (λ s. record s { below = Counted m }) (λ r. record r { hold = counted m }) (λ s. refl)
      (λ s. refl) (λ s. refl) (λ s. refl) (λ s. refl) turned same

  pub said_table : (v : List ℕ) → TableTurned a b x (λ s. record s { value = v }) → b.ids ≡ a.ids
      → IsTable b roots (put seen_id x (changed (says v) old) n)
  said_table v turned same = row_changed (λ s. record s { value = v }) (λ r. record r { label = with_value v r.label }) (λ s. refl)
      (λ s. refl) (λ s. refl) (λ s. refl) (λ s. refl) turned same

  pub set_table : (name v : List ℕ) → TableTurned a b x (λ s. record s { attributes = placed (name, v) s.attributes }) → b.ids ≡ a.ids
      → IsTable b roots (put seen_id x (changed (sets name v) old) n)
  set_table name v turned same =
      row_changed (λ s. record s { attributes = placed (name, v) s.attributes }) (λ r. record r { label = with_attribute name v r.label })
      (λ s. refl) (λ s. refl) (λ s. refl) (λ s. refl) (λ s. refl) turned same

  pub dropped_table : (name : List ℕ) → TableTurned a b x (λ s. record s { attributes = pairs_without name s.attributes }) → b.ids ≡ a.ids
      → IsTable b roots (put seen_id x (changed (drops name) old) n)
  dropped_table name turned same =
      row_changed (λ s. record s { attributes = pairs_without name s.attributes })
      (λ r. record r { label = without_attribute name r.label }) (λ s. refl) (λ s. refl) (λ s. refl) (λ s. refl) (λ s. refl) turned same

  pub shown_table : (kids : Nodes Seen) → old.children ≡ none → (g : TableGrown a b x (opened_slot (root_ids kids)) kids)
      → AreNew (table_slots g.mid) (table_ids g.mid) kids → ((y : ℕ) → tally seen_id y n + tally seen_id y kids ≤ 1)
      → IsTable b roots (put seen_id x (changed (shows kids) old) n)
  shown_table kids bare g fresh apart =
      table_grown a roots n table once x old found g.mid b (opened_slot (root_ids kids) slot)
      (g.turned slot at) g.ids_are refl refl refl kids g.slots_are g.listing fresh apart (changed (shows kids) old)
      (ap (λ (r : Seen). record r { hold = opened }) row) (λ own was kept. kept)
      (λ y. let e = ap (tally seen_id y) bare in omega arith)

  pub inserted_table : (previous : ℕ) (w : Branch Seen) → (previous == 0 || has_tree previous old.children) ≡ true
      → (g : TableGrown a b x (with_child_id previous w.row.id) (alone w)) → AreNew (table_slots g.mid) (table_ids g.mid) (alone w)
      → ((y : ℕ) → tally seen_id y n + tally seen_id y (alone w) ≤ 1) → IsTable b roots (put seen_id x (changed (inserts previous w) old) n)
  inserted_table previous w there g fresh apart =
      table_grown a roots n table once x old found g.mid b (with_child_id previous w.row.id slot)
      (g.turned slot at) g.ids_are refl refl refl (alone w) g.slots_are g.listing fresh apart (changed (inserts previous w) old) row
      (λ own was kept. after_keeps (table_slots b) own (Some x) previous w.row.id w old.children slot.children kept was)
      (λ y. let h = tally-inserted seen_id y (inserted_after previous w old.children there) in omega arith)

  pub removed_table : (child : ℕ) → has_tree child old.children ≡ true → height old.children ≤ most_levels → TableCut a b x child
      → IsTable b roots (put seen_id x (changed (removes child) old) n)
  removed_table child there low_below g =
      let h = here a roots n table once x old found in
      let gone = goes (table_slots a) table.own (Some x) child old.children slot.children there h.below in
      let height_is : height (alone gone.tree)
      ≤ most_levels = height_inserted_le gone.tree (without_tree child old.children) old.children gone.stood low_below in
      let tree_is : table_trees a most_levels (child ∷ [])
      ≡ alone gone.tree = kept_trees-keeps by_id (table_slots a) most_levels (alone gone.tree) (Some x)
      (child ∷ []) gone.kept height_is in
      table_cut a roots n table once x old found g.mid b (without_child_id child slot)
      (g.turned slot at) g.ids_are refl refl refl child gone.tree gone.stood g.files
      (g.slots_are ∙ ap (λ (m : Nodes Seen). without_slots (keys seen_id m) (table_slots g.mid)) tree_is) row refl
