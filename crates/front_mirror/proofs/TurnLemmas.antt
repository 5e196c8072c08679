-- A table with one node changed.
use Rattle.std.proofs.Common.{◌≡◌, ◌≢◌, ℕ, ◌+◌, ◌<◌, ◌≤◌, ◌==◌, ◌||◌, Bool, true, false, cond, List, [], ◌∷◌, Option, Some, None, IsSome}
use Rattle.std.proofs.Common.{refl, sym, ap, subst, ◌∙◌, inl, inr, arith}
use Rattle.std.specs.FinMap as numbers
use Rattle.std.proofs.lemmas.Bool.{eq-eqb, eqb-true, cases_lt, cases_eq}
use Rattle.node_tree.specs.Nodes.{Nodes, none, node, Branch, alone, height}
use Rattle.node_tree.specs.Keys.{tally, tally_in, find, put}
use Rattle.node_tree.specs.Seen.{Seen, seen_id}
use Rattle.node_tree.specs.Arena.{Keeps, KeepsOne, IsFiled}
use Rattle.node_tree.proofs.KeyLemmas.{tally_row, tally_below, tally_cases, tally-at, found_key, at-put}
use Rattle.node_tree.proofs.ChangeLemmas.{tally_in-at}
use Rattle.node_tree.proofs.ArenaLemmas.{keeps-same, keeps-at, files-turn, kept_trees-keeps}
use Rattle.client_views.specs.Views.{keys}
use Rattle.node_tree.specs.Levels.{most_levels}
use Rattle.client_views.specs.Moves.{put_behind, put_after, without_tree, has_tree}
use Rattle.front_mirror.specs.declared.slots.Slot.{Slot}
use Rattle.front_mirror.specs.declared.table.Table.{Table}
use Rattle.front_mirror.specs.IdLists.{id_behind, id_after, without_id}
use Rattle.front_mirror.specs.Tables.{mirror_row, by_id, by_serial, table_slots, table_ids, IsListed, root_ids, planted, serials_listed}
use Rattle.front_mirror.specs.Tables.{without_slots, PutsAt, TableTurned, HasOwnIds, tree_in, IsTable}
use Rattle.client_views.proofs.InsertedLemmas.{Inserted, first, later, tally-inserted}
use Rattle.front_mirror.proofs.TableLemmas.{planted-outside, planted-own, planted-only, planted-keeps, planted-files, AreNew, gone-outside}
use Rattle.front_mirror.proofs.TableLemmas.{gone-inside}
use Rattle.front_mirror.proofs.LookLemmas.{Located, located, some_there}

-- what a table keeps is read from it
pub tree_is : (t : Table) (roots : List ℕ) (n : Nodes Seen) → IsTable t roots n → height n ≤ most_levels → tree_in t roots ≡ n
unfolding tree_in
tree_is t roots n table low = kept_trees-keeps by_id (table_slots t) most_levels n None roots table.stands low

-- a slot that keeps its serial leaves the serials as they are
pub listed_turned : (a m : Table) (x : ℕ) (f : Slot → Slot) → IsListed a → IsSome (table_slots a x)
    → ((s : Slot) → (f s).serial ≡ s.serial) → TableTurned a m x f → m.ids ≡ a.ids → IsListed m
listed_turned a m x f files there serials turned same =
    let (slot, at) = some_there (table_slots a x) there in
    let puts = turned slot at in
    subst (λ d. IsFiled by_serial (table_slots m) (numbers.get d)) (sym same)
    (files-turn by_serial (table_slots a) (table_slots m) (table_ids a) (table_ids a) x slot (f slot) files
    (record { before = at; at = puts.at; others = puts.others }) (serials slot))

-- ---- slots of children, one more or one less

module _ (slots : ℕ → Option Slot) (own : HasOwnIds slots) (above : Option ℕ) where
  key_is : (k : ℕ) (slot : Slot) (r : Seen) → slots k ≡ Some slot → mirror_row slot ≡ r → k ≡ r.id
  key_is k slot r at is = sym (own k slot at) ∙ ap (λ (q : Seen). q.id) is

  behind_step : (v u : Bool) (w : Branch Seen) (r : Seen) (c t rest : Nodes Seen) (k x : ℕ) (ks more : List ℕ) → u ≡ v
      → KeepsOne by_id slots w above x → Keeps by_id slots (node r c t) above (k ∷ ks) → Keeps by_id slots rest above more
      → Keeps by_id slots (cond v (node r c (node w.row w.children t)) (node r c rest)) above (cond u (k ∷ x ∷ ks) (k ∷ more))
  behind_step true true w r c t rest k x ks more e (s, at, up, is, below, nothing) (slot, at2, up2, is2, below2, after) beside =
      (slot, at2, up2, is2, below2, (s, at, up, is, below, after))
  behind_step false false w r c t rest k x ks more e one (slot, at, up, is, below, after) beside = (slot, at, up, is, below, beside)
  behind_step true false w r c t rest k x ks more e one whole beside = absurd (cc)
  behind_step false true w r c t rest k x ks more e one whole beside = absurd (cc)

  pub behind_keeps : (previous x : ℕ) (w : Branch Seen) (n : Nodes Seen) (ks : List ℕ) → KeepsOne by_id slots w above x
      → Keeps by_id slots n above ks → Keeps by_id slots (put_behind previous w n) above (id_behind previous x ks)
  behind_keeps previous x w none [] one kept = tt
  behind_keeps previous x w none (k ∷ ks) one kept = absurd kept
  behind_keeps previous x w (node r c t) [] one kept = absurd kept
  behind_keeps previous x w (node r c t) (k ∷ ks) one (slot, at, up, is, below, after) =
      behind_step (r.id == previous) (k == previous) w r c t (put_behind previous w t) k x ks (id_behind previous x ks)
      (ap (λ (j : ℕ). j == previous) (key_is k slot r at is)) one (slot, at, up, is, below, after)
      (behind_keeps previous x w t ks one after)

  after_step : (v : Bool) (w : Branch Seen) (n rest : Nodes Seen) (x : ℕ) (ks more : List ℕ) → KeepsOne by_id slots w above x
      → Keeps by_id slots n above ks → Keeps by_id slots rest above more
      → Keeps by_id slots (cond v (node w.row w.children n) rest) above (cond v (x ∷ ks) more)
  after_step true w n rest x ks more (s, at, up, is, below, nothing) kept beside = (s, at, up, is, below, kept)
  after_step false w n rest x ks more one kept beside = beside

  -- a tree more
  pub after_keeps : (previous x : ℕ) (w : Branch Seen) (n : Nodes Seen) (ks : List ℕ) → KeepsOne by_id slots w above x
      → Keeps by_id slots n above ks → Keeps by_id slots (put_after previous w n) above (id_after previous x ks)
  after_keeps previous x w n ks one kept = after_step (previous == 0) w n (put_behind previous w n) x ks (id_behind previous x ks) one kept
      (behind_keeps previous x w n ks one kept)

  out_step : (v u : Bool) (r : Seen) (c t rest : Nodes Seen) (k : ℕ) (ks more : List ℕ) → u ≡ v
      → Keeps by_id slots (node r c t) above (k ∷ ks) → Keeps by_id slots rest above more
      → Keeps by_id slots (cond v t (node r c rest)) above (cond u ks (k ∷ more))
  out_step true true r c t rest k ks more e (slot, at, up, is, below, after) beside = after
  out_step false false r c t rest k ks more e (slot, at, up, is, below, after) beside = (slot, at, up, is, below, beside)
  out_step true false r c t rest k ks more e whole beside = absurd (cc)
  out_step false true r c t rest k ks more e whole beside = absurd (cc)

  -- a tree less
  pub out_keeps : (x : ℕ) (n : Nodes Seen) (ks : List ℕ) → Keeps by_id slots n above ks
      → Keeps by_id slots (without_tree x n) above (without_id x ks)
  out_keeps x none [] kept = tt
  out_keeps x none (k ∷ ks) kept = absurd kept
  out_keeps x (node r c t) [] kept = absurd kept
  out_keeps x (node r c t) (k ∷ ks) (slot, at, up, is, below, after) =
      out_step (r.id == x) (k == x) r c t (without_tree x t) k ks (without_id x ks) (ap (λ (j : ℕ). j == x) (key_is k slot r at is))
      (slot, at, up, is, below, after) (out_keeps x t ks after)

  -- the tree that goes, with where it stood and what keeps it
  pub record Goes (x : ℕ) (n : Nodes Seen) : Type 0 where
    pub tree : Branch Seen
    pub stood : Inserted tree (without_tree x n) n
    pub kept : KeepsOne by_id slots tree above x

  goes_step : (v : Bool) (x : ℕ) (r : Seen) (c t : Nodes Seen) (k : ℕ) (ks : List ℕ) → (k ≡ x → v ≡ true) → (v ≡ true → k ≡ x)
      → (v || has_tree x t) ≡ true → Keeps by_id slots (node r c t) above (k ∷ ks) → (has_tree x t ≡ true → Goes x t)
      → (w : Branch Seen) × Inserted w (cond v t (node r c (without_tree x t))) (node r c t) × KeepsOne by_id slots w above x
  goes_step true x r c t k ks there back e (slot, at, up, is, below, after) beside = (
    record { row = r; children = c },
    first t,
    subst (λ (j : ℕ). KeepsOne by_id slots (record { row = r; children = c }) above j)
        (back refl) (slot, at, up, is, below, tt),
  )
  goes_step false x r c t k ks there back e whole beside = let g = beside e in (g.tree, later r c (without_tree x t) t g.stood, g.kept)

  pub goes : (x : ℕ) (n : Nodes Seen) (ks : List ℕ) → has_tree x n ≡ true → Keeps by_id slots n above ks → Goes x n
  goes x none ks e kept = absurd (cc)
  goes x (node r c t) [] e kept = absurd kept
  goes x (node r c t) (k ∷ ks) e (slot, at, up, is, below, after) =
      let named = key_is k slot r at is in
      let (w, stood, kept) = goes_step (r.id == x) x r c t k ks (λ same. eq-eqb r.id x (sym named ∙ same))
      (λ v. named ∙ eqb-true r.id x v) e (slot, at, up, is, below, after) (λ there. goes x t ks there after) in
      record { tree = w; stood = stood; kept = kept }

-- ---- one node changed

module _ (a : Table) (roots : List ℕ) (n : Nodes Seen) (table : IsTable a roots n) (once : (y : ℕ) → tally seen_id y n ≤ 1) (x : ℕ)
    (old : Branch Seen) (found : find seen_id x n ≡ Some old) where
  pub here : Located a roots n table x old
  here = located a roots n table x old found

  pub own_id : here.slot.id ≡ x
  own_id = table.own x here.slot here.at

  old_id : old.row.id ≡ x
  old_id = found_key seen_id x n old found

  -- the node's id is its own: it stands once, and not below itself
  own_times : 0 < tally seen_id x (alone old)
  own_times = tally_row seen_id x old.row old.children none old_id

  within : (y : ℕ) → tally_in seen_id y old ≤ tally seen_id y n
  within y = tally_in-at seen_id y (at-put seen_id x old n old found).1

  pub own_below : tally seen_id x old.children ≡ 0
  own_below =
      let o = once x in
      let w = within x in
      elim (tally_cases seen_id x old.row old.children none) [
        | inl p ↦ let e = p.1 in omega arith
        | inr p ↦ absurd (p.0 old_id)
      ]

  -- how many nodes have an id, before and after
  pub counts : (new : Branch Seen) (y : ℕ)
      → tally seen_id y (put seen_id x new n) + tally_in seen_id y old ≡ tally seen_id y n + tally_in seen_id y new
  counts new y = tally-at seen_id y (at-put seen_id x new n old found).1

  -- what another node's slot is apart from
  pub other_slot : (k : ℕ) → tally seen_id k (alone old) ≡ 0 → k ≢ x
  other_slot k absent same = let z = subst (λ (y : ℕ). tally seen_id y (alone old) ≡ 0) same absent in let o = own_times in omega arith

  pub below_slot : (k : ℕ) → 0 < tally seen_id k old.children → k ≢ x
  below_slot k there same = let z = subst (λ (y : ℕ). 0 < tally seen_id y old.children) same there in let o = own_below in omega arith

  module _ (b : Table) (new : Branch Seen) (files : IsListed b) (own : HasOwnIds (table_slots b))
      (keeps : KeepsOne by_id (table_slots b) new here.slot.parent x)
      (same : (k : ℕ) (s : Slot) → table_slots a k ≡ Some s → tally seen_id k (alone old) ≡ 0 → table_slots b k ≡ Some s)
      (reached : (k : ℕ) (s : Slot) → table_slots b k ≡ Some s → 0 < tally seen_id k (put seen_id x new n)) where
    changed_keeps : (o : Option ℕ) (k : ℕ) → KeepsOne by_id (table_slots a) old o k → KeepsOne by_id (table_slots b) new o k
    changed_keeps o k (s, at, up, row_is, below, after) =
        let same_key : k ≡ x = sym (table.own k s at) ∙ ap (λ (r : Seen). r.id) row_is ∙ old_id in
        let same_slot : s ≡ here.slot = let both : Some s ≡ Some here.slot = sym at ∙ ap (table_slots a) same_key ∙ here.at in cc in
        let same_parent : here.slot.parent ≡ o = ap (λ (z : Slot). z.parent) (sym same_slot) ∙ up in
        subst (λ (p : Option ℕ). KeepsOne by_id (table_slots b) new p k) same_parent
        (subst (λ (j : ℕ). KeepsOne by_id (table_slots b) new here.slot.parent j) (sym same_key) keeps)

    pub changed_table : IsTable b roots (put seen_id x new n)
    changed_table = record {
      stands =
          keeps-at by_id (table_slots a) (table_slots b) None roots (at-put seen_id x new n old found).1 once changed_keeps
          (λ k s e there absent. same k s e (subst (λ (y : ℕ). tally seen_id y (alone old) ≡ 0) (table.own k s e) absent)) table.stands;
      own = own;
      files = files;
      reached = reached;
    }

  -- ---- its slot alone

  module _ (m : Table) (slot2 : Slot) (puts : PutsAt (table_slots a) (table_slots m) x (Some slot2)) (ids_are : m.ids ≡ a.ids)
      (same_id : slot2.id ≡ here.slot.id) (same_serial : slot2.serial ≡ here.slot.serial) where
    pub turned_own : HasOwnIds (table_slots m)
    turned_own k s e =
        elim (cases_eq k x) [
          | inl same ↦
              let one : slot2 ≡ s = let both : Some slot2 ≡ Some s = sym puts.at ∙ ap (table_slots m) (sym same) ∙ e in cc in
              ap (λ (z : Slot). z.id) (sym one) ∙ same_id ∙ own_id ∙ sym same
          | inr other ↦ table.own k s (sym (puts.others k other) ∙ e)
        ]

    pub turned_files : IsListed m
    turned_files =
        subst (λ d. IsFiled by_serial (table_slots m) (numbers.get d)) (sym ids_are)
        (files-turn by_serial (table_slots a) (table_slots m) (table_ids a) (table_ids a) x here.slot slot2 table.files
        (record { before = here.at; at = puts.at; others = puts.others }) same_serial)

    -- each slot is of a node that there was
    pub turned_there : (k : ℕ) (s : Slot) → table_slots m k ≡ Some s → 0 < tally seen_id k n
    turned_there k s e =
        elim (cases_eq k x) [
          | inl same ↦ subst (λ (y : ℕ). 0 < tally seen_id y n) (sym same) (table.reached x here.slot here.at)
          | inr other ↦ table.reached k s (sym (puts.others k other) ∙ e)
        ]

    -- what is below the node stays
    pub turned_below : Keeps by_id (table_slots m) old.children (Some x) here.slot.children
    turned_below =
        keeps-same by_id (table_slots a) (table_slots m) old.children (Some x) here.slot.children
        (λ k s e there. puts.others k (below_slot k
        (subst (λ (y : ℕ). 0 < tally seen_id y old.children) (table.own k s e) there)) ∙ e) here.below

  -- a node with another row, and the children that it has
  module _ (b : Table) (slot2 : Slot) (puts : PutsAt (table_slots a) (table_slots b) x (Some slot2)) (ids_are : b.ids ≡ a.ids)
      (same_id : slot2.id ≡ here.slot.id) (same_serial : slot2.serial ≡ here.slot.serial)
      (same_parent : slot2.parent ≡ here.slot.parent) (same_children : slot2.children ≡ here.slot.children) where
    abbrev row_new : Branch Seen
    row_new = record { row = mirror_row slot2; children = old.children }

    pub table_relabelled : IsTable b roots (put seen_id x row_new n)
    table_relabelled =
        changed_table b row_new (turned_files b slot2 puts ids_are same_id same_serial)
        (turned_own b slot2 puts ids_are same_id same_serial) (
          slot2,
          puts.at,
          same_parent,
          refl,
          subst (λ (ks : List ℕ). Keeps by_id (table_slots b) old.children (Some x) ks)
              (sym same_children) (turned_below b slot2 puts ids_are same_id same_serial),
          tt,
        )
        (λ k s e absent. puts.others k (other_slot k absent) ∙ e)
        (λ k s e.
        let there = turned_there b slot2 puts ids_are same_id same_serial k s e in
        let c = counts row_new k in
        let is : slot2.id ≡ old.row.id = same_id ∙ own_id ∙ sym old_id in
        let row_same : cond {A = ℕ} (slot2.id == k) 1 0
        ≡ cond {A = ℕ} (old.row.id == k) 1 0 = ap (λ (i : ℕ). cond {A = ℕ} (i == k) 1 0) is in
        omega arith)

  -- ---- trees more below it

  -- Its slot was told of the ids first; then these trees came in.
  module _ (m b : Table) (slot2 : Slot) (puts : PutsAt (table_slots a) (table_slots m) x (Some slot2)) (ids_are : m.ids ≡ a.ids)
      (same_id : slot2.id ≡ here.slot.id) (same_serial : slot2.serial ≡ here.slot.serial)
      (same_parent : slot2.parent ≡ here.slot.parent) (kids : Nodes Seen)
      (slots_are : table_slots b ≡ planted (Some x) kids (table_slots m)) (listing : table_ids b ≡ serials_listed kids (table_ids m))
      (fresh : AreNew (table_slots m) (table_ids m) kids) (apart : (y : ℕ) → tally seen_id y n + tally seen_id y kids ≤ 1)
      (new : Branch Seen) (row_is : mirror_row slot2 ≡ new.row)
      (below : HasOwnIds (table_slots b) → Keeps by_id (table_slots b) old.children (Some x) here.slot.children
      → Keeps by_id (table_slots b) kids (Some x) (root_ids kids) → Keeps by_id (table_slots b) new.children (Some x) slot2.children)
      (more : (y : ℕ) → tally_in seen_id y new ≡ tally_in seen_id y old + tally seen_id y kids) where
    stays : (k : ℕ) → 0 < tally seen_id k n → table_slots b k ≡ table_slots m k
    stays k there = ap (λ (s : ℕ → Option Slot). s k) slots_are ∙ planted-outside (Some x) kids (table_slots m) k
        (let h = apart k in omega arith)

    there_x : 0 < tally seen_id x n
    there_x = table.reached x here.slot here.at

    m_own : HasOwnIds (table_slots m)
    m_own = turned_own m slot2 puts ids_are same_id same_serial

    b_own : HasOwnIds (table_slots b)
    b_own = subst HasOwnIds (sym slots_are) (planted-own (Some x) kids (table_slots m) m_own)

    b_files : IsListed b
    b_files =
        subst (λ (s : ℕ → Option Slot). IsFiled by_serial s (table_ids b)) (sym slots_are)
        (subst (λ (d : ℕ → Option ℕ). IsFiled by_serial (planted (Some x) kids (table_slots m)) d) (sym listing)
        (planted-files (Some x) kids (table_slots m) (table_ids m) (turned_files m slot2 puts ids_are same_id same_serial) fresh))

    b_below : Keeps by_id (table_slots b) old.children (Some x) here.slot.children
    b_below =
        keeps-same by_id (table_slots m) (table_slots b) old.children (Some x) here.slot.children
        (λ k s e there.
        let there : 0 < tally seen_id k old.children = subst (λ (y : ℕ). 0 < tally seen_id y old.children) (m_own k s e) there in
        stays k (let w = within k in let v = tally_below seen_id k old.row old.children none in omega arith) ∙ e)
        (turned_below m slot2 puts ids_are same_id same_serial)

    b_kids : Keeps by_id (table_slots b) kids (Some x) (root_ids kids)
    b_kids = subst (λ (s : ℕ → Option Slot). Keeps by_id s kids (Some x) (root_ids kids)) (sym slots_are)
        (planted-keeps (Some x) kids (table_slots m) m_own fresh.ids_once)

    pub table_grown : IsTable b roots (put seen_id x new n)
    table_grown =
        changed_table b new b_files b_own
        (slot2, stays x there_x ∙ puts.at, same_parent, row_is, below b_own b_below b_kids, tt)
        (λ k s e absent. stays k (table.reached k s e) ∙ puts.others k (other_slot k absent) ∙ e)
        (λ k s e.
        let c = counts new k in
        let d = more k in
        elim (planted-only (Some x) kids (table_slots m) k) [
          | inl was ↦ let there = turned_there m slot2 puts ids_are same_id same_serial k s
              (sym was ∙ sym (ap (λ (s : ℕ → Option Slot). s k) slots_are) ∙ e) in omega arith
          | inr came ↦ let w = within k in omega arith
        ])

  -- ---- a tree less below it

  -- Its slot was told first; then the slots of the tree went.
  module _ (m b : Table) (slot2 : Slot) (puts : PutsAt (table_slots a) (table_slots m) x (Some slot2)) (ids_are : m.ids ≡ a.ids)
      (same_id : slot2.id ≡ here.slot.id) (same_serial : slot2.serial ≡ here.slot.serial)
      (same_parent : slot2.parent ≡ here.slot.parent) (child : ℕ) (w : Branch Seen)
      (stood : Inserted w (without_tree child old.children) old.children) (files : IsListed b)
      (slots_are : table_slots b ≡ without_slots (keys seen_id (alone w)) (table_slots m)) (row_is : mirror_row slot2 ≡ old.row)
      (children_are : slot2.children ≡ without_id child here.slot.children) where
    abbrev less : Branch Seen
    less = record { row = old.row; children = without_tree child old.children }

    split : (y : ℕ) → tally seen_id y old.children ≡ tally seen_id y (alone w) + tally seen_id y (without_tree child old.children)
    split y = let h = tally-inserted seen_id y stood in omega arith

    left : (k : ℕ) → tally seen_id k (alone w) ≡ 0 → table_slots b k ≡ table_slots m k
    left k absent = ap (λ (s : ℕ → Option Slot). s k) slots_are ∙ gone-outside (alone w) (table_slots m) k absent

    kept_slot : (k : ℕ) (s : Slot) → table_slots b k ≡ Some s → (tally seen_id k (alone w) ≡ 0) × (table_slots m k ≡ Some s)
    kept_slot k s e =
        elim (cases_lt 0 (tally seen_id k (alone w))) [
          | inl some ↦ absurd (let clash : None
              ≡ Some s = sym (ap (λ (s : ℕ → Option Slot). s k) slots_are ∙ gone-inside (alone w) (table_slots m) k some) ∙ e in cc)
          | inr few ↦ let absent : tally seen_id k (alone w) ≡ 0 = omega arith in (absent, sym (left k absent) ∙ e)
        ]

    less_own : HasOwnIds (table_slots b)
    less_own k s e = turned_own m slot2 puts ids_are same_id same_serial k s (kept_slot k s e).1

    pub table_cut : IsTable b roots (put seen_id x less n)
    table_cut =
        let kept = out_keeps (table_slots m) (turned_own m slot2 puts ids_are same_id same_serial)
        (Some x) child old.children here.slot.children (turned_below m slot2 puts ids_are same_id same_serial) in
        let kept_b =
        keeps-same by_id (table_slots m) (table_slots b) (without_tree child old.children) (Some x) (without_id child here.slot.children)
        (λ k s e there.
        let there : 0 < tally seen_id k (without_tree child old.children) = subst
        (λ (y : ℕ). 0 < tally seen_id y (without_tree child old.children))
        (turned_own m slot2 puts ids_are same_id same_serial k s e) there in
        let i = split k in
        let v = within k in
        let o = once k in
        left k (omega arith) ∙ e) kept in
        changed_table b less files less_own (
          slot2,
          left x (let i = split x in let o = own_below in omega arith) ∙ puts.at,
          same_parent,
          row_is,
          subst
              (λ (ks : List ℕ). Keeps by_id (table_slots b) (without_tree child old.children) (Some x) ks) (sym children_are) kept_b,
          tt,
        )
        (λ k s e absent. left k (let i = split k in omega arith) ∙ puts.others k (other_slot k absent) ∙ e)
        (λ k s e.
        let (absent, at) = kept_slot k s e in
        let there = turned_there m slot2 puts ids_are same_id same_serial k s at in
        let c = counts less k in
        let i = split k in
        omega arith)
