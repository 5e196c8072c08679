-- What a mirror reads from its table.
use Rattle.std.proofs.Common.{◌≡◌, ℕ, ◌<◌, ◌≤◌, ◌==◌, ◌&&◌, ◌||◌, Bool, not, List, ◌++◌, length, slice_get, Option, Some, None, Result, Ok}
use Rattle.std.proofs.Common.{Err, IfOk, OnOk, IfSome, IsSome, option_map, is_some, unwrap_or, refl, sym, ap, subst, ◌∙◌, rules, arith}
use Rattle.std.specs.Borrow.{Bor}
use Rattle.std.specs.Option.{option_copied}
use Rattle.node_tree.specs.Nodes.{Nodes, Branch, tree_at, width, height}
use Rattle.node_tree.specs.Keys.{Spot, has, find, spot, level_of, parent_of}
use Rattle.node_tree.specs.Labels.{is_element, has_value}
use Rattle.node_tree.specs.Seen.{Seen, is_opened, shows_count, seen_id, seen_serial}
use Rattle.node_tree.proofs.KeyLemmas.{has-find, found_key}
use Rattle.dom_objects.specs.Told.{count_in}
use Rattle.client_views.specs.Views.{IsMirror, is_in}
use Rattle.node_tree.specs.Levels.{most_levels}
use Rattle.client_views.specs.Moves.{Change, shows, inserts, removes, counts, sets, drops, says, suits_change}
use Rattle.front_mirror.specs.declared.edits.NodeChange.{NodeChange}
use Rattle.front_mirror.specs.declared.faults.FrontKind.{FrontKind}
use Rattle.front_mirror.specs.declared.faults.FrontKind.TheVariants.{UnknownNode}
use Rattle.front_mirror.specs.declared.slots.Slot.{Slot}
use Rattle.front_mirror.specs.declared.slots.Below.{Below}
use Rattle.front_mirror.specs.declared.slots.Below.TheVariants.{Opened}
use Rattle.front_mirror.specs.declared.table.Table.{Table}
use Rattle.front_mirror.specs.Front.{change_fault}
use Rattle.front_mirror.specs.Edits.{edit_told, spot_fault}
use Rattle.front_mirror.specs.Outline.{lines_at, seen_line}
use Rattle.front_mirror.specs.Tables.{below_hold, table_slots, table_ids, root_ids, table_trees, tree_in, IsTable, KeepsMirror, IsFace}
use Rattle.front_mirror.specs.Tables.{TableLooks, table_climbed}
use Rattle.front_mirror.specs.TableEdits.{suits_slot}
use Rattle.front_mirror.proofs.SpotLemmas.{spot_branch, find-spot, spot_level}
use Rattle.front_mirror.proofs.TableLemmas.{on_ok}
use Rattle.front_mirror.proofs.LookLemmas.{looks, id_is, up, climbs, level-spot, ids-width, ids-at, ids-has}

if_ok : {A E : Type 0} (r : Result A E) (P Q : A → Type 0) → ((x : A) → P x → Q x) → IfOk r P → IfOk r Q
if_ok (Ok x) P Q f p = f x p
if_ok (Err e) P Q f p = p

none_known : {A : Type 0} (o : Option A) → IsSome o → o ≡ None → ⊥
none_known None there e = cc
none_known (Some x) there e = cc

some_known : {A : Type 0} (o : Option A) (x : A) → o ≡ Some x → IsSome o
some_known (Some y) x e = refl
some_known None x e = absurd (cc)

mapped : {A B : Type 0} (f : A → B) (o : Option A) → is_some (option_map f o) ≡ is_some o
mapped f None = refl
mapped f (Some x) = refl

-- a node is on one of the levels that there are
level_low : (v : Nodes Seen) (x l : ℕ) → height v ≤ most_levels → level_of seen_id x 0 v ≡ Some l → l < most_levels
level_low v x l h e =
    (elim (spot seen_id x 0 v) as (λ o. spot seen_id x 0 v ≡ o → l < most_levels) [
      | None ↦ λ is. absurd (let clash : None
          ≡ Some l = sym (ap (option_map (λ (s : Spot Seen). s.level)) is) ∙ level-spot seen_id x 0 v ∙ e in cc)
      | Some s ↦ λ is.
          let both : Some s.level ≡ Some l = sym (ap (option_map (λ (s : Spot Seen). s.level)) is) ∙ level-spot seen_id x 0 v ∙ e in
          let same : s.level ≡ l = cc in
          let low = spot_level seen_id x 0 v s is in
          omega arith
    ]) refl

module _ (t : Table) (roots : List ℕ) (v : Nodes Seen) (kept : KeepsMirror t roots) (view : tree_in t roots ≡ v) where
  pub kept_table : IsTable t roots v
  kept_table = subst (λ (m : Nodes Seen). IsTable t roots m) view kept.table

  pub kept_tree : IsMirror v
  kept_tree = subst IsMirror view kept.mirror

  pub slot_looks : (id : ℕ) (o : Option Slot) → o ≡ table_slots t id → TableLooks o (find seen_id id v)
  slot_looks id o e = subst (λ (p : Option Slot). TableLooks p (find seen_id id v)) (sym e) (looks t roots v kept_table id)

  pub slot_parent : (id : ℕ) (o : Option (Bor Slot)) → option_copied o ≡ table_slots t id
      → IfSome o (λ s. Some (unwrap_or s.now.parent 0) ≡ parent_of seen_id id 0 v)
  slot_parent id None e = search rules
  slot_parent id (Some s) e = let u = up t roots v kept_table kept_tree.view.ids id s.now (sym e) in sym u.parent_is

  pub serial_is : (s : ℕ) (o : Option ℕ) → o ≡ table_ids t s → o ≡ option_map (λ (b : Branch Seen). b.row.id) (find seen_serial s v)
  serial_is s o e = e ∙ id_is t roots v kept_table kept_tree.view.ids kept_tree.view.serials s

  pub serial_has : (s : ℕ) (o : Option ℕ) (r : Bool) → o ≡ table_ids t s → r ≡ is_some o → r ≡ has seen_serial s v
  serial_has s o r e is = is ∙ ap is_some (serial_is s o e) ∙ mapped (λ (b : Branch Seen). b.row.id) (find seen_serial s v) ∙ sym
      (has-find seen_serial s v)

  -- a known node has a slot
  pub slot_known : (id : ℕ) (o : Option Slot) → IsSome (find seen_id id v) → o ≡ table_slots t id → o ≡ None → ⊥
  slot_known id o known e gone =
      none_known (find seen_id id v) known (subst (λ (p : Option Slot). TableLooks p (find seen_id id v)) gone (slot_looks id o e))

  pub level_is : (id : ℕ) (slot : Slot) (r : ℕ) → table_slots t id ≡ Some slot → r ≡ table_climbed t most_levels slot.parent
      → level_of seen_id id 0 v ≡ Some r
  level_is id slot r at is =
      let u = up t roots v kept_table kept_tree.view.ids id slot at in
      let low = level_low v id u.level kept_tree.view.levels u.level_is in
      u.level_is ∙ ap (λ (l : ℕ). Some l)
      (sym (is ∙ climbs t roots v kept_table kept_tree.view.ids most_levels id slot u.level at u.level_is (omega arith)))

  pub level_fits : (id : ℕ) (slot : Slot) (r : ℕ) → table_slots t id ≡ Some slot → r ≡ table_climbed t most_levels slot.parent
      → r < most_levels
  level_fits id slot r at is = level_low v id r kept_tree.view.levels (level_is id slot r at is)

-- the lines of all trees
pub lines_of : {E : Type 0} (t : Table) (roots : List ℕ) (v : Nodes Seen) (r : Result (Unit {0}) E) (old new : List ℕ)
    → tree_in t roots ≡ v
    → OnOk r (new ≡ old ++ lines_at seen_line 0 (table_trees t most_levels roots)) → OnOk r (new ≡ old ++ lines_at seen_line 0 v)
unfolding tree_in
lines_of t roots v r old new view written =
    on_ok r _ _ (λ e. e ∙ ap (λ (n : Nodes Seen). old ++ lines_at seen_line 0 n) view) written

-- ---- a slot and its node

pub suits_face : (c : Change) (s : Slot) (b : Branch Seen) → IsFace s b → suits_slot c s ≡ suits_change c b
suits_face (shows kids) s b face = ap (λ (r : Seen). shows_count r.hold) face.row
suits_face (inserts previous w) s b face =
    ap (λ (r : Seen). is_opened r.hold && (previous == 0 || is_in previous s.children) && not (is_opened w.row.hold)) face.row
    ∙ ap (λ (x : Bool). is_opened b.row.hold && (previous == 0 || x) && not (is_opened w.row.hold))
    (ap (is_in previous) face.children ∙ ids-has previous b.children)
suits_face (removes id) s b face =
    ap (λ (r : Seen). is_opened r.hold && is_in id s.children) face.row ∙ ap (λ (x : Bool). is_opened b.row.hold && x)
    (ap (is_in id) face.children ∙ ids-has id b.children)
suits_face (counts n) s b face = ap (λ (r : Seen). shows_count r.hold) face.row
suits_face (sets name value) s b face = ap (λ (r : Seen). is_element r.label.kind) face.row
suits_face (drops name) s b face = ap (λ (r : Seen). is_element r.label.kind) face.row
suits_face (says value) s b face = ap (λ (r : Seen). has_value r.label.kind) face.row

pub opened_count : (b : Below) (ks : List ℕ) (len : ℕ) → b ≡ Opened → len ≡ length ks → (n : Nodes Seen) → ks ≡ root_ids n
    → len ≡ count_in (below_hold b) n
opened_count b ks len is count n same = count ∙ ap length same ∙ ids-width n ∙ sym (ap (λ (x : Below). count_in (below_hold x) n) is)

pub child_place : (ks : List ℕ) (n : Nodes Seen) (i : ℕ) → ks ≡ root_ids n → i < width n → i < length ks
child_place ks n i is h = let e : length ks ≡ width n = ap length is ∙ ids-width n in omega arith

pub child_is : (ks : List ℕ) (n : Nodes Seen) (i r : ℕ) → ks ≡ root_ids n → slice_get ks i ≡ Some r
    → Some r ≡ option_map (λ (b : Branch Seen). b.row.id) (tree_at i n)
child_is ks n i r is at = sym at ∙ ap (λ (l : List ℕ). slice_get l i) is ∙ ids-at n i

pub child_count : (ks : List ℕ) (n : Nodes Seen) (r : ℕ) → ks ≡ root_ids n → r ≡ length ks → r ≡ width n
child_count ks n r is count = count ∙ ap length is ∙ ids-width n

-- ---- what is wrong with a change

spot_step : (o : Option (Spot Seen)) (b : Branch Seen) (l : ℕ) → option_map spot_branch o ≡ Some b
    → option_map (λ (s : Spot Seen). s.level) o ≡ Some l → o ≡ Some (record { branch = b; level = l })
spot_step None b l f g = absurd (cc)
spot_step (Some s) b l f g =
    let p : s.branch ≡ b = cc in
    let q : s.level ≡ l = cc in
    λ i. Some (record { branch = p i; level = q i })

spot_none : (o : Option (Spot Seen)) → option_map spot_branch o ≡ None → o ≡ None
spot_none None e = refl
spot_none (Some s) e = absurd (cc)

pub fault_nowhere : (v : Nodes Seen) (e : NodeChange) (id : ℕ) → find seen_id id v ≡ None
    → Some UnknownNode ≡ spot_fault v (edit_told id e) (spot seen_id id 0 v)
fault_nowhere v e id gone = sym
    (ap (spot_fault v (edit_told id e)) (spot_none (spot seen_id id 0 v) (sym (find-spot seen_id id 0 v) ∙ gone)))

pub found_known : (slot : Slot) (o : Option (Branch Seen)) → TableLooks (Some slot) o → IsSome o
found_known slot o (b, found, row, children) = some_known o b found

pub fault_found : {E : Type 0} (v : Nodes Seen) (e : NodeChange) (id l : ℕ) (slot : Slot) (r : Result (Option FrontKind) E)
    → TableLooks (Some slot) (find seen_id id v) → level_of seen_id id 0 v ≡ Some l
    → ((b : Branch Seen) → IsFace slot b
    → IfOk r (λ wrong. wrong ≡ change_fault v (edit_told slot.id e) (record { branch = b; level = l })))
    → IfOk r (λ wrong. wrong ≡ spot_fault v (edit_told id e) (spot seen_id id 0 v))
fault_found v e id l slot r (b, found, row, children) level faults =
    let s : Spot Seen = record { branch = b; level = l } in
    let at : spot seen_id id 0 v ≡ Some s = spot_step (spot seen_id id 0 v) b l (sym (find-spot seen_id id 0 v) ∙ found)
    (level-spot seen_id id 0 v ∙ level) in
    let own : slot.id ≡ id = ap (λ (q : Seen). q.id) row ∙ found_key seen_id id v b found in
    if_ok r _ _ (λ wrong is. is ∙ ap (λ (k : ℕ). change_fault v (edit_told k e) s) own ∙ sym (ap (spot_fault v (edit_told id e)) at))
    (faults b (record { row = row; children = children }))
