-- What is read of the nodes of a table.
use Rattle.std.proofs.Common.{◌≡◌, ◌⊎◌, ℕ, zero, suc, ◌<◌, ◌≤◌, ◌==◌, ◌||◌, nat_eq, Bool, true, false, cond, List, [], ◌∷◌, length}
use Rattle.std.proofs.Common.{slice_get, Option, Some, None, option_map, is_some, unwrap_or, refl, sym, ap, subst, ◌∙◌, inl, inr, arith}
use Rattle.std.specs.Option.{option_and_then}
use Rattle.std.proofs.lemmas.Bool.{eq-eqb, ne_eqb, cases_eq}
use Rattle.node_tree.specs.Nodes.{Nodes, none, node, Branch, tree_at, width}
use Rattle.node_tree.specs.Keys.{tally, find, first_of, level_of, parent_of, spot, Spot}
use Rattle.node_tree.specs.Seen.{Seen, seen_id, seen_serial}
use Rattle.node_tree.specs.Arena.{Keeps}
use Rattle.node_tree.proofs.KeyLemmas.{found_key, has-find, has-there, stands-find, find-stands}
use Rattle.node_tree.proofs.ArenaLemmas.{keeps-find, keeps-up}
use Rattle.client_views.specs.Views.{is_in}
use Rattle.client_views.specs.Moves.{has_tree}
use Rattle.front_mirror.specs.declared.slots.Slot.{Slot}
use Rattle.front_mirror.specs.declared.table.Table.{Table}
use Rattle.front_mirror.specs.Tables.{mirror_row, by_id, table_slots, table_ids, root_ids, HasOwnIds, IsTable, TableLooks, table_climbed}

-- the ids of children are those of the trees that they keep
pub keeps-ids : (slots : ℕ → Option Slot) (n : Nodes Seen) (above : Option ℕ) (ks : List ℕ) → HasOwnIds slots
    → Keeps by_id slots n above ks → ks ≡ root_ids n
keeps-ids slots none above [] own kept = refl
keeps-ids slots none above (k ∷ ks) own kept = absurd kept
keeps-ids slots (node r c t) above [] own kept = absurd kept
keeps-ids slots (node r c t) above (k ∷ ks) own (slot, at, up, is, below, after) =
    let same : k ≡ r.id = sym (own k slot at) ∙ ap (λ (q : Seen). q.id) is in
    ap (λ (j : ℕ). j ∷ ks) same ∙ ap (λ (js : List ℕ). r.id ∷ js) (keeps-ids slots t above ks own after)

-- ---- a list of trees by its first ids

pub ids-width : (n : Nodes Seen) → length (root_ids n) ≡ width n
ids-width none = refl
ids-width (node r c t) = ap suc (ids-width t)

pub ids-at : (n : Nodes Seen) (i : ℕ) → slice_get (root_ids n) i ≡ option_map (λ (b : Branch Seen). b.row.id) (tree_at i n)
ids-at none i = refl
ids-at (node r c t) zero = refl
ids-at (node r c t) (suc i) = ids-at t i

same_eq : (x y : ℕ) → nat_eq x y ≡ (y == x)
same_eq x y = elim (cases_eq y x) [
  | inl same ↦ rw (eq-eqb y x same, eq-eqb x y (sym same)) refl
  | inr other ↦ rw (ne_eqb y x other, ne_eqb x y (λ e. other (sym e))) refl
]

pub ids-has : (x : ℕ) (n : Nodes Seen) → is_in x (root_ids n) ≡ has_tree x n
ids-has x none = refl
ids-has x (node r c t) = ap (λ (v : Bool). v || is_in x (root_ids t)) (same_eq x r.id) ∙ ap (λ (v : Bool). (r.id == x) || v) (ids-has x t)

pub some_there : {A : Type 0} (o : Option A) → is_some o ≡ true → (x : A) × (o ≡ Some x)
some_there None e = absurd (cc)
some_there (Some x) e = (x, refl)

climbed_none : (t : Table) (levels : ℕ) → table_climbed t levels None ≡ 0
climbed_none t zero = refl
climbed_none t (suc levels) = refl

pub climbed_lost : (t : Table) (levels k : ℕ) → 0 < levels → table_slots t k ≡ None → 1 ≡ table_climbed t levels (Some k)
climbed_lost t zero k some e = absurd (omega arith)
climbed_lost t (suc levels) k some e = sym
    (ap (λ (o : Option Slot). suc (table_climbed t levels (option_and_then (λ (s : Slot). s.parent) o))) e ∙ ap suc (climbed_none t levels))

module _ (t : Table) (roots : List ℕ) (n : Nodes Seen) (table : IsTable t roots n) where
  -- the slot of a node that is found
  pub record Located (x : ℕ) (b : Branch Seen) : Type 0 where
    pub slot : Slot
    pub at : table_slots t x ≡ Some slot
    pub row_is : mirror_row slot ≡ b.row
    pub below : Keeps by_id (table_slots t) b.children (Some x) slot.children

  pub located : (x : ℕ) (b : Branch Seen) → find seen_id x n ≡ Some b → Located x b
  located x b e =
      let (a, k, (slot, at, up, is, below, after)) = keeps-find by_id (table_slots t) x n None roots b table.stands e in
      let same : k ≡ x = sym (table.own k slot at) ∙ ap (λ (q : Seen). q.id) is ∙ found_key seen_id x n b e in
      record {
        slot = slot;
        at = ap (table_slots t) (sym same) ∙ at;
        row_is = is;
        below = subst (λ (j : ℕ). Keeps by_id (table_slots t) b.children (Some j) slot.children) same below;
      }

  pub found_there : (x : ℕ) → 0 < tally seen_id x n → (b : Branch Seen) × (find seen_id x n ≡ Some b)
  found_there x there = some_there (find seen_id x n) (sym (has-find seen_id x n) ∙ has-there seen_id x n there)

  pub look_at : (x : ℕ) (b : Branch Seen) → find seen_id x n ≡ Some b → TableLooks (table_slots t x) (Some b)
  look_at x b e =
      let l = located x b e in
      subst (λ (o : Option Slot). TableLooks o (Some b)) (sym l.at)
      (b, refl, l.row_is, keeps-ids (table_slots t) b.children (Some x) l.slot.children table.own l.below)

  pub looks : (x : ℕ) → TableLooks (table_slots t x) (find seen_id x n)
  looks x =
      (elim (find seen_id x n) as (λ f. find seen_id x n ≡ f → TableLooks (table_slots t x) f) [
        | Some b ↦ λ e. look_at x b e
        | None ↦ λ e.
            (elim (table_slots t x) as (λ o. table_slots t x ≡ o → TableLooks o None) [
              | None ↦ λ f. refl
              | Some slot ↦ λ f.
                  let (b, found) = found_there x (table.reached x slot f) in
                  absurd (let clash : None ≡ Some b = sym e ∙ found in cc)
            ]) refl
      ]) refl

  -- ---- by its serial

  pub serial_found : ((x : ℕ) → tally seen_serial x n ≤ 1) → (s k : ℕ) → table_ids t s ≡ Some k
      → (b : Branch Seen) × (find seen_serial s n ≡ Some b) × (b.row.id ≡ k)
  serial_found once s k e =
      let (slot, at, serial_is) = table.files.found s k e in
      let (b, found) = found_there k (table.reached k slot at) in
      let l = located k b found in
      let same : l.slot ≡ slot = let both : Some l.slot ≡ Some slot = sym l.at ∙ at in cc in
      let is : b.row.serial ≡ s = ap (λ (r : Seen). r.serial) (sym l.row_is) ∙ ap (λ (z : Slot). z.serial) same ∙ serial_is in
      let stands = find-stands seen_serial b n (stands-find seen_id k n b found) (once b.row.serial) in
      (b, ap (λ (y : ℕ). find seen_serial y n) (sym is) ∙ stands, found_key seen_id k n b found)

  pub serial_id : ((x : ℕ) → tally seen_id x n ≤ 1) → (s : ℕ) (b : Branch Seen) → find seen_serial s n ≡ Some b
      → table_ids t s ≡ Some b.row.id
  serial_id once s b e =
      let found = find-stands seen_id b n (stands-find seen_serial s n b e) (once b.row.id) in
      let l = located b.row.id b found in
      let is : l.slot.serial ≡ s = ap (λ (r : Seen). r.serial) l.row_is ∙ found_key seen_serial s n b e in
      ap (table_ids t) (sym is) ∙ table.files.filed b.row.id l.slot l.at

  -- the id of a serial
  pub id_is : ((x : ℕ) → tally seen_id x n ≤ 1) → ((x : ℕ) → tally seen_serial x n ≤ 1) → (s : ℕ)
      → table_ids t s ≡ option_map (λ (b : Branch Seen). b.row.id) (find seen_serial s n)
  id_is ids_once serials_once s =
      (elim (table_ids t s) as (λ o. table_ids t s ≡ o → o ≡ option_map (λ (b : Branch Seen). b.row.id) (find seen_serial s n)) [
        | Some k ↦ λ e.
            let (b, found, is) = serial_found serials_once s k e in
            ap (λ (i : ℕ). Some i) (sym is) ∙ ap (option_map (λ (b : Branch Seen). b.row.id)) (sym found)
        | None ↦ λ e.
            (elim (find seen_serial s n) as (λ f. find seen_serial s n ≡ f → None ≡ option_map (λ (b : Branch Seen). b.row.id) f) [
              | None ↦ λ f. refl
              | Some b ↦ λ f. absurd (let clash : None ≡ Some b.row.id = sym e ∙ serial_id ids_once s b f in cc)
            ]) refl
      ]) refl

  -- ---- upwards

  pub record Up (x : ℕ) (slot : Slot) : Type 0 where
    pub parent_is : parent_of seen_id x 0 n ≡ Some (unwrap_or slot.parent 0)
    pub level : ℕ
    pub level_is : level_of seen_id x 0 n ≡ Some level
    pub climbs : (slot.parent ≡ None × level ≡ 0)
        ⊎ ((key : ℕ) × (over : Slot) × (slot.parent ≡ Some key) × (table_slots t key ≡ Some over) × (over_level : ℕ)
        × (level ≡ suc over_level) × (level_of seen_id key 0 n ≡ Some over_level))

  pub up : ((y : ℕ) → tally seen_id y n ≤ 1) → (x : ℕ) (slot : Slot) → table_slots t x ≡ Some slot → Up x slot
  up once x slot e =
      let u = keeps-up by_id (table_slots t) 0 0 x n None roots once (table.reached x slot e) table.stands in
      let same_key : u.key ≡ x = sym (table.own u.key u.slot u.at) ∙ u.number_is in
      let same : u.slot ≡ slot = let both : Some u.slot ≡ Some slot = sym u.at ∙ ap (table_slots t) same_key ∙ e in cc in
      let parent_same : slot.parent ≡ u.slot.parent = ap (λ (s : Slot). s.parent) (sym same) in
      elim u.place [
        | inl top ↦ record {
          parent_is = top.parent_is ∙ sym (ap (λ (o : Option ℕ). Some (unwrap_or o 0)) (parent_same ∙ top.up));
          level = 0;
          level_is = top.level_is;
          climbs = inl (parent_same ∙ top.up, refl);
        }
        | inr low ↦
            let own : low.over.id ≡ low.key = table.own low.key low.over low.over_at in
            record {
              parent_is = low.parent_is ∙ ap (λ (i : ℕ). Some i) own ∙ sym
                  (ap (λ (o : Option ℕ). Some (unwrap_or o 0)) (parent_same ∙ low.up));
              level = suc low.over_level;
              level_is = low.level_is;
              climbs = inr (
                low.key,
                low.over,
                parent_same ∙ low.up,
                low.over_at,
                low.over_level,
                refl,
                ap
                    (λ (y : ℕ). level_of seen_id y 0 n) (sym own) ∙ low.over_is,
              );
            }
      ]

  pub climbs : ((y : ℕ) → tally seen_id y n ≤ 1) → (levels x : ℕ) (slot : Slot) (l : ℕ) → table_slots t x ≡ Some slot
      → level_of seen_id x 0 n ≡ Some l → l ≤ levels → table_climbed t levels slot.parent ≡ l
  climbs once zero x slot l e is h = omega arith
  climbs once (suc levels) x slot l e is h =
      let u = up once x slot e in
      let same : u.level ≡ l = let both : Some u.level ≡ Some l = sym u.level_is ∙ is in cc in
      elim u.climbs [
        | inl (top, zero_is) ↦ ap (table_climbed t (suc levels)) top ∙ sym zero_is ∙ same
        | inr (key, over, above, at, over_level, level_is, over_is) ↦
            ap (table_climbed t (suc levels)) above
            ∙ ap (λ (o : Option Slot). suc (table_climbed t levels (option_and_then (λ (s : Slot). s.parent) o))) at
            ∙ ap suc (climbs once levels key over over_level at over_is (omega arith))
            ∙ sym level_is
            ∙ same
      ]

-- ---- a node with its level

joined_step : {R : Type 0} (v : Bool) (b : Branch R) (l : ℕ) (f g : Option (Spot R))
    → option_map (λ (s : Spot R). s.level) (cond v (Some (record { branch = b; level = l })) (first_of f g))
    ≡ cond v (Some l) (first_of (option_map (λ (s : Spot R). s.level) f) (option_map (λ (s : Spot R). s.level) g))
joined_step true b l f g = refl
joined_step false b l None g = refl
joined_step false b l (Some s) g = refl

pub level-spot : {R : Type 0} (key : R → ℕ) (x level : ℕ) (n : Nodes R)
    → option_map (λ (s : Spot R). s.level) (spot key x level n) ≡ level_of key x level n
level-spot key x level none = refl
level-spot key x level (node r c t) =
    joined_step (key r == x) (record { row = r; children = c }) level (spot key x (suc level) c) (spot key x level t)
    ∙ ap (λ o. cond (key r == x) (Some level) (first_of o (option_map (λ (s : Spot _). s.level) (spot key x level t))))
    (level-spot key x (suc level) c)
    ∙ ap (λ o. cond (key r == x) (Some level) (first_of (level_of key x (suc level) c) o)) (level-spot key x level t)
