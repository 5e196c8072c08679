-- The mirror's table after an edit of one node, by what the edit is.
use Rattle.std.proofs.Common.{◌≡◌, ℕ, ◌≤◌, ◌==◌, ◌||◌, Bool, true, false, not, List, [], ◌∷◌, Option, Some, None, option_map, IsSome, refl}
use Rattle.std.proofs.Common.{sym, ap, subst, ◌∙◌, inl, inr, arith}
use Rattle.std.specs.Option.{option_map_or}
use Rattle.node_tree.specs.Nodes.{Nodes, none, Branch, nodes_of, alone, height}
use Rattle.node_tree.specs.Keys.{Spot, find, spot, put}
use Rattle.node_tree.specs.Labels.{is_element, is_ascending, is_formed_label}
use Rattle.node_tree.specs.Arena.{Keeps, IsFiled}
use Rattle.node_tree.specs.Seen.{Seen, is_opened, seen_id}
use Rattle.node_tree.proofs.KeyLemmas.{height_above-at}
use Rattle.node_tree.proofs.ChangeLemmas.{at-old}
use Rattle.dom_objects.specs.Told.{seen_branch}
use Rattle.client_views.specs.Views.{IsMirror, is_in}
use Rattle.node_tree.specs.Levels.{most_levels}
use Rattle.client_views.specs.Moves.{changed, suits_change, has_tree}
use Rattle.front_mirror.specs.declared.edits.NodeChange.{NodeChange}
use Rattle.front_mirror.specs.declared.edits.NodeChange.TheVariants as edit
use Rattle.front_mirror.specs.declared.slots.Slot.{Slot}
use Rattle.front_mirror.specs.declared.table.Table.{Table}
use Rattle.front_mirror.specs.Shown.{shown_of}
use Rattle.front_mirror.specs.Front.{change_fault}
use Rattle.front_mirror.specs.Edits.{edit_change, edit_told, fits_edit, can_change, spot_fault, with_changed}
use Rattle.front_mirror.specs.declared.faults.FrontKind.TheVariants.{UnknownNode}
use Rattle.front_mirror.specs.Tables.{mirror_row, by_id, by_serial, table_slots, table_ids, root_ids, planted, serials_listed, HasOwnIds}
use Rattle.front_mirror.specs.Tables.{IsListed, IsTable, KeepsMirror, tree_in, opened_slot, with_child_id}
use Rattle.front_mirror.specs.TableEdits.{Suits, IsEdited}
use Rattle.client_views.proofs.BoolLemmas.{and_left, and_right}
use Rattle.front_mirror.proofs.SpotLemmas.{spot_branch, find-spot, put-spot}
use Rattle.front_mirror.proofs.ApartLemmas.{once_new}
use Rattle.front_mirror.proofs.EditLemmas.{clear_change, counted_none, bare-at, known-spot, ascending_label, mirror_of_edit, edit_ready}
use Rattle.front_mirror.proofs.TableLemmas.{AreNew, planted-own, planted-only, planted-keeps, planted-files}
use Rattle.front_mirror.proofs.LookLemmas.{located, keeps-ids, ids-has}
use Rattle.front_mirror.proofs.NewLemmas.{new_turned}
use Rattle.front_mirror.proofs.TurnLemmas.{tree_is}
use Rattle.front_mirror.proofs.MirrorLemmas.{counted_table, said_table, set_table, dropped_table, shown_table, inserted_table}
use Rattle.front_mirror.proofs.MirrorLemmas.{removed_table}

-- a mirror's tree out of its table
pub settled : (b : Table) (roots : List ℕ) (n : Nodes Seen) → IsTable b roots n → IsMirror n → (tree_in b roots ≡ n) × KeepsMirror b roots
settled b roots n table mirror =
    let is = tree_is b roots n table mirror.view.levels in
    (is, record { table = subst (λ (m : Nodes Seen). IsTable b roots m) (sym is) table; mirror = subst IsMirror (sym is) mirror })

module _ (a b : Table) (roots : List ℕ) (v : Nodes Seen) (id : ℕ) (table : IsTable a roots v) (mirror : IsMirror v) (s : Spot Seen)
    (is : spot seen_id id 0 v ≡ Some s) where
  found : find seen_id id v ≡ Some s.branch
  found = find-spot seen_id id 0 v ∙ ap (option_map spot_branch) is

  abbrev slot : Slot
  slot = (located a roots v table id s.branch found).slot

  at : table_slots a id ≡ Some slot
  at = (located a roots v table id s.branch found).at

  low_below : height s.branch.children ≤ most_levels
  low_below =
      let p = put-spot seen_id id s.branch 0 v s is in
      let h = height_above-at (at-old p.2) in
      let k = mirror.view.levels in
      omega arith

  pub edited_at : (e : NodeChange) → change_fault v (edit_told id e) s ≡ None → IsEdited e a b id
      → IsTable b roots (put seen_id id (changed (edit_change e) s.branch) v)
  edited_at (edit.Show nodes) clear g =
      let fine = clear_change v (edit_told id (edit.Show nodes)) s clear in
      let p = put-spot seen_id id s.branch 0 v s is in
      let once = once_new v (nodes_of nodes.items) mirror.view fine.new in
      shown_table a b roots v table mirror.view.ids id s.branch found (shown_of nodes.items)
      (counted_none s.branch fine.suits (bare-at p.2 mirror.view.bare)) g
      (new_turned a roots v (shown_of nodes.items) table mirror.view.serials once.ids once.serials g.mid id slot
      (opened_slot (root_ids (shown_of nodes.items)) slot) at (g.turned slot at) g.ids_are) once.ids
  edited_at (edit.Insert previous tree) clear g =
      let fine = clear_change v (edit_told id (edit.Insert previous tree)) s clear in
      let once = once_new v (alone tree) mirror.view fine.new in
      let there = and_right (is_opened s.branch.row.hold) (previous == 0 || has_tree previous s.branch.children)
      (and_left _ (not (is_opened tree.row.seen.hold)) fine.suits) in
      inserted_table a b roots v table mirror.view.ids id s.branch found previous (seen_branch tree) there g
      (new_turned a roots v (alone (seen_branch tree)) table mirror.view.serials once.ids once.serials g.mid id slot
      (with_child_id previous tree.row.seen.id slot) at (g.turned slot at) g.ids_are) once.ids
  edited_at (edit.Remove child) clear g =
      let fine = clear_change v (edit_told id (edit.Remove child)) s clear in
      removed_table a b roots v table mirror.view.ids id s.branch found child
      (and_right (is_opened s.branch.row.hold) (has_tree child s.branch.children) fine.suits) low_below g
  edited_at (edit.Count n) clear (turned, same) = counted_table a b roots v table mirror.view.ids id s.branch found n turned same
  edited_at (edit.SetAttribute name value) clear
      (turned, same) = set_table a b roots v table mirror.view.ids id s.branch found name value turned same
  edited_at (edit.DropAttribute name) clear
      (turned, same) = dropped_table a b roots v table mirror.view.ids id s.branch found name turned same
  edited_at (edit.SetValue value) clear (turned, same) = said_table a b roots v table mirror.view.ids id s.branch found value turned same

-- the mirror after an edit with which nothing is wrong
module _ (a b : Table) (roots : List ℕ) (v : Nodes Seen) (id : ℕ) (e : NodeChange) (table : IsTable a roots v) (mirror : IsMirror v)
    (fits : fits_edit e ≡ true) (edited : IsEdited e a b id) where
  edited_spot : (o : Option (Spot Seen)) → spot seen_id id 0 v ≡ o → spot_fault v (edit_told id e) o ≡ None
      → IsTable b roots (with_changed id (edit_change e) v)
  edited_spot None is clear = absurd (cc)
  edited_spot (Some s) is clear =
      subst (λ (k : Branch Seen). IsTable b roots (put seen_id id (changed (edit_change e) k) v)) (sym (known-spot id v s is))
      (edited_at a b roots v id table mirror s is e clear edited)

  pub edit_settled : spot_fault v (edit_told id e) (spot seen_id id 0 v) ≡ None
      → (tree_in b roots ≡ with_changed id (edit_change e) v) × KeepsMirror b roots
  edit_settled clear = settled b roots (with_changed id (edit_change e) v) (edited_spot (spot seen_id id 0 v) refl clear)
      (mirror_of_edit v id e mirror fits clear)

-- ---- what an edit with which nothing is wrong finds

some_is : {A : Type 0} (o : Option A) (x : A) → o ≡ Some x → IsSome o
some_is (Some y) x e = refl
some_is None x e = absurd (cc)

module _ (a : Table) (roots : List ℕ) (v : Nodes Seen) (id : ℕ) (table : IsTable a roots v) (mirror : IsMirror v) (s : Spot Seen)
    (is : spot seen_id id 0 v ≡ Some s) where
  found_node : find seen_id id v ≡ Some s.branch
  found_node = find-spot seen_id id 0 v ∙ ap (option_map spot_branch) is

  pub slot_found : IsSome (table_slots a id)
  slot_found = let l = located a roots v table id s.branch found_node in some_is (table_slots a id) l.slot l.at

  -- a slot of that id is the node's
  slot_is : (slot : Slot) → table_slots a id ≡ Some slot → (mirror_row slot ≡ s.branch.row) × (slot.children ≡ root_ids s.branch.children)
  slot_is slot e =
      let l = located a roots v table id s.branch found_node in
      let same : l.slot ≡ slot = let both : Some l.slot ≡ Some slot = sym l.at ∙ e in cc in (
        ap mirror_row (sym same) ∙ l.row_is,
        ap (λ (z : Slot). z.children) (sym same) ∙ keeps-ids (table_slots a) s.branch.children
            (Some id) l.slot.children table.own l.below,
      )

  ascends : (slot : Slot) → table_slots a id ≡ Some slot → is_element s.branch.row.label.kind ≡ true
      → is_formed_label s.branch.row.label ≡ true → is_ascending slot.attributes ≡ true
  ascends slot e element formed = ap (λ (r : Seen). is_ascending r.label.attributes)
      (slot_is slot e).0 ∙ ascending_label s.branch.row.label element formed

  pub suits_at : (e : NodeChange) → suits_change (edit_change e) s.branch ≡ true → is_formed_label s.branch.row.label ≡ true → (slot : Slot)
      → table_slots a id ≡ Some slot → Suits e slot
  suits_at (edit.Show nodes) suits formed z e = tt
  suits_at (edit.Insert previous tree) suits formed z e =
      let there = and_right (is_opened s.branch.row.hold) (previous == 0 || has_tree previous s.branch.children)
      (and_left _ (not (is_opened tree.row.seen.hold)) suits) in
      ap (λ (b : Bool). previous == 0 || b) (ap (is_in previous) (slot_is z e).1 ∙ ids-has previous s.branch.children) ∙ there
  suits_at (edit.Remove child) suits formed z e = tt
  suits_at (edit.Count n) suits formed z e = tt
  suits_at (edit.SetAttribute name value) suits formed z e = ascends z e suits formed
  suits_at (edit.DropAttribute name) suits formed z e = ascends z e suits formed
  suits_at (edit.SetValue value) suits formed z e = tt

module _ (a : Table) (roots : List ℕ) (v : Nodes Seen) (id : ℕ) (e : NodeChange) (kept : KeepsMirror a roots) (view : tree_in a roots ≡ v)
    (fits : fits_edit e ≡ true) (clear : spot_fault v (edit_told id e) (spot seen_id id 0 v) ≡ None) where
  table : IsTable a roots v
  table = subst (λ (m : Nodes Seen). IsTable a roots m) view kept.table

  mirror : IsMirror v
  mirror = subst IsMirror view kept.mirror

  ready_of : (s : Spot Seen) → spot seen_id id 0 v ≡ Some s → can_change (edit_change e) s.branch ≡ true
  ready_of s is =
      ap (λ (o : Option (Branch Seen)). option_map_or (can_change (edit_change e)) o false)
      (sym (find-spot seen_id id 0 v ∙ ap (option_map spot_branch) is))
      ∙ edit_ready v id e mirror fits clear

  with_spot : (P : Type 0) → ((s : Spot Seen) → spot seen_id id 0 v ≡ Some s → P) → P
  with_spot P f =
      (elim (spot seen_id id 0 v) as (λ o. spot seen_id id 0 v ≡ o → P) [
        | Some s ↦ λ is. f s is
        | None ↦ λ is. absurd (let clash : Some UnknownNode ≡ None = sym (ap (spot_fault v (edit_told id e)) is) ∙ clear in cc)
      ]) refl

  pub edit_there : IsSome (table_slots a id)
  edit_there = with_spot (IsSome (table_slots a id)) (λ s is. slot_found a roots v id table mirror s is)

  pub edit_suits : (slot : Slot) → table_slots a id ≡ Some slot → Suits e slot
  edit_suits slot at =
      with_spot (Suits e slot)
      (λ s is. suits_at a roots v id table mirror s is e
      (and_left (suits_change (edit_change e) s.branch) (is_formed_label s.branch.row.label) (ready_of s is))
      (and_right (suits_change (edit_change e) s.branch) (is_formed_label s.branch.row.label) (ready_of s is)) slot at)

  pub edit_done : (b : Table) → IsEdited e a b id → (tree_in b roots ≡ with_changed id (edit_change e) v) × KeepsMirror b roots
  edit_done b edited = edit_settled a b roots v id e table mirror fits edited clear

  -- the table and the roots were taken out before
  pub edit_lands : (before : Table) (ks : List ℕ) → before ≡ a → ks ≡ roots → (b : Table) → IsEdited e before b id
      → (tree_in b ks ≡ with_changed id (edit_change e) v) × KeepsMirror b ks
  edit_lands before ks same keys b edited =
      subst (λ (l : List ℕ). (tree_in b l ≡ with_changed id (edit_change e) v) × KeepsMirror b l) (sym keys)
      (edit_done b (subst (λ (t : Table). IsEdited e t b id) same edited))

-- ---- an empty mirror, and a new document

pub nothing_kept : (t : Table) (roots : List ℕ) → ((k : ℕ) → table_slots t k ≡ None) → ((x : ℕ) → table_ids t x ≡ None) → roots ≡ []
    → (tree_in t roots ≡ none) × KeepsMirror t roots
nothing_kept t roots vacant unlisted empty =
    settled t roots none
    (record {
      stands = subst (λ (ks : List ℕ). Keeps by_id (table_slots t) none None ks) (sym empty) tt;
      own = λ k s e. absurd (let clash : None ≡ Some s = sym (vacant k) ∙ e in cc);
      files = record {
        filed = λ k s e. absurd (let clash : None ≡ Some s = sym (vacant k) ∙ e in cc);
        found = λ x k e. absurd (let clash : None ≡ Some k = sym (unlisted x) ∙ e in cc);
      };
      reached = λ k s e. absurd (let clash : None ≡ Some s = sym (vacant k) ∙ e in cc);
    })
    (record {
      view = record { ids = λ x. omega arith; serials = λ x. omega arith; above = refl; levels = omega arith; bare = refl };
      labels = refl;
      document = refl;
    })

pub root_kept : (empty t : Table) (roots : List ℕ) (b : Branch Seen) → ((k : ℕ) → table_slots empty k ≡ None)
    → ((x : ℕ) → table_ids empty x ≡ None) → roots ≡ b.row.id ∷ [] → table_slots t ≡ planted None (alone b) (table_slots empty)
    → table_ids t ≡ serials_listed (alone b) (table_ids empty) → IsMirror (alone b) → (tree_in t roots ≡ alone b) × KeepsMirror t roots
root_kept empty t roots b vacant unlisted one slots_are listing mirror =
    let before = (nothing_kept empty [] vacant unlisted refl) in
    let own : HasOwnIds (table_slots empty) = λ k s e. absurd (let clash : None ≡ Some s = sym (vacant k) ∙ e in cc) in
    let fresh : AreNew (table_slots empty) (table_ids empty)
    (alone b) = record {
      ids_once = mirror.view.ids;
      serials_once = mirror.view.serials;
      no_slot = λ x there. vacant x;
      no_id = λ x there. unlisted x;
    } in
    let files : IsListed empty = record {
      filed = λ k s e. absurd (let clash : None ≡ Some s = sym (vacant k) ∙ e in cc);
      found = λ x k e. absurd (let clash : None ≡ Some k = sym (unlisted x) ∙ e in cc);
    } in
    settled t roots (alone b)
    (record {
      stands =
          subst (λ (ks : List ℕ). Keeps by_id (table_slots t) (alone b) None ks) (sym one)
          (subst (λ (s : ℕ → Option Slot). Keeps by_id s (alone b) None (b.row.id ∷ [])) (sym slots_are)
          (planted-keeps None (alone b) (table_slots empty) own mirror.view.ids));
      own = subst HasOwnIds (sym slots_are) (planted-own None (alone b) (table_slots empty) own);
      files =
          subst (λ (s : ℕ → Option Slot). IsFiled by_serial s (table_ids t)) (sym slots_are)
          (subst (λ (d : ℕ → Option ℕ). IsFiled by_serial (planted None (alone b) (table_slots empty)) d) (sym listing)
          (planted-files None (alone b) (table_slots empty) (table_ids empty) files fresh));
      reached = λ k s e. elim (planted-only None (alone b) (table_slots empty) k) [
        | inl was ↦ absurd (let clash : None
            ≡ Some s = sym (vacant k) ∙ sym was ∙ sym (ap (λ (z : ℕ → Option Slot). z k) slots_are) ∙ e in cc)
        | inr came ↦ came
      ];
    }) mirror
