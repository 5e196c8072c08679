-- A page in an arena with one node changed: its label, or its children.
use Rattle.std.proofs.Common.{◌≡◌, ℕ, suc, ◌+◌, ◌<◌, ◌==◌, Bool, true, false, cond, List, [], ◌∷◌, Option, Some, None, is_some, refl, sym}
use Rattle.std.proofs.Common.{ap, subst, ◌∙◌, inl, inr, arith}
use Rattle.std.specs.Option.{option_map_or}
use Rattle.std.specs.List.{insert, remove}
use Rattle.std.proofs.lemmas.Bool.{cases_eq}
use Rattle.node_tree.specs.Nodes.{Nodes, none, node, Branch, alone}
use Rattle.node_tree.specs.Labels.{Label}
use Rattle.node_tree.specs.Arena.{times, Keeps, KeepsOne, IsArena, Turns}
use Rattle.node_tree.proofs.KeyLemmas.{tally-at}
use Rattle.node_tree.proofs.ChangeLemmas.{tally_in-at}
use Rattle.node_tree.proofs.ArenaLemmas.{keeps-same, keeps-at, row_there, row_alone}
use Rattle.page_tree.specs.Pages.{PageRow, row_serial, IsValid, node_at}
use Rattle.page_tree.specs.Edits.{first_serial, next_sibling, relabelled, put_before, taken_out, with_child, without_child, changed_at}
use Rattle.page_tree.specs.EditFaults.{is_live}
use Rattle.page_tree.specs.Arenas.{page_slots, slot_row, slots_in, keys_in, Filed, Fresh, slot_of, is_numbered, place_in, first_in, next_in}
use Rattle.page_tree.specs.Arenas.{with_child_key, without_child_key, graft_point, Grafted, Cut, tree_of, IsPage}
use Rattle.page_tree.specs.declared.slots.Slot.{Slot}
use Rattle.page_tree.specs.declared.arenas.Arena.{Arena}
use Rattle.page_tree.proofs.PlaceLemmas.{located, node_at_is, once, tree_is, rebuilt}
use Rattle.page_tree.proofs.EditLemmas.{changed, serial-live}
use Rattle.page_tree.proofs.ChildLemmas.{Inserted, tally-inserted, inserted-before}

-- ---- keys of children

pub numbered_is : (a : Arena) (serial k : ℕ) (slot : Slot) (r : PageRow) → slots_in a k ≡ Some slot → slot_row slot ≡ r
    → is_numbered a serial k ≡ (r.serial == serial)
numbered_is a serial k slot r at is = ap (λ (o : Option Slot). option_map_or (λ (s : Slot). s.serial == serial) o false) at ∙ ap
    (λ (q : PageRow). q.serial == serial) is

first_keeps : (a : Arena) (above : Option ℕ) (n : Nodes PageRow) (ks : List ℕ) → Keeps page_slots (slots_in a) n above ks
    → first_in a ks ≡ first_serial n
first_keeps a above none [] kept = refl
first_keeps a above none (k ∷ ks) kept = absurd kept
first_keeps a above (node r c t) [] kept = absurd kept
first_keeps a above (node r c t) (k ∷ ks) (slot, at, up, is, below, after) = ap
    (λ (o : Option Slot). option_map_or (λ (s : Slot). s.serial) o 0) at ∙ ap (λ (q : PageRow). q.serial) is

cond_same : (u v : Bool) (x y z w : ℕ) → u ≡ v → x ≡ y → z ≡ w → cond u x z ≡ cond v y w
cond_same u v x y z w e f g = cc

-- the next of the siblings, by keys and by trees
pub next_keeps : (a : Arena) (serial : ℕ) (above : Option ℕ) (n : Nodes PageRow) (ks : List ℕ) → Keeps page_slots (slots_in a) n above ks
    → next_in a serial ks ≡ next_sibling serial n
next_keeps a serial above none [] kept = refl
next_keeps a serial above none (k ∷ ks) kept = absurd kept
next_keeps a serial above (node r c t) [] kept = absurd kept
next_keeps a serial above (node r c t) (k ∷ ks) (slot, at, up, is, below, after) =
    cond_same (is_numbered a serial k) (r.serial == serial) (first_in a ks) (first_serial t) (next_in a serial ks) (next_sibling serial t)
    (numbered_is a serial k slot r at is) (first_keeps a above t ks after) (next_keeps a serial above t ks after)

module _ (b : Arena) (above : Option ℕ) where
  insert_step : (v u : Bool) (w : Branch PageRow) (r : PageRow) (c t after : Nodes PageRow) (k child p : ℕ) (ks : List ℕ) → u ≡ v
      → KeepsOne page_slots (slots_in b) w above child → Keeps page_slots (slots_in b) (node r c t) above (k ∷ ks)
      → Keeps page_slots (slots_in b) after above (insert ks p child)
      → Keeps page_slots (slots_in b) (cond v (node w.row w.children (node r c t)) (node r c after)) above
      (insert (k ∷ ks) (cond {A = ℕ} u 0 (suc p)) child)
  insert_step true true w r c t after k child p ks e (slot, at, up, is, below, nothing) whole rest = (slot, at, up, is, below, whole)
  insert_step false false w r c t after k child p ks e one (slot, at, up, is, below, beside) rest = (slot, at, up, is, below, rest)
  insert_step true false w r c t after k child p ks e one whole rest = absurd (cc)
  insert_step false true w r c t after k child p ks e one whole rest = absurd (cc)

  remove_step : (v u : Bool) (r : PageRow) (c t after : Nodes PageRow) (k p : ℕ) (ks : List ℕ) → u ≡ v
      → Keeps page_slots (slots_in b) (node r c t) above (k ∷ ks) → Keeps page_slots (slots_in b) after above (remove ks p)
      → Keeps page_slots (slots_in b) (cond v t (node r c after)) above (remove (k ∷ ks) (cond {A = ℕ} u 0 (suc p)))
  remove_step true true r c t after k p ks e (slot, at, up, is, below, beside) rest = beside
  remove_step false false r c t after k p ks e (slot, at, up, is, below, beside) rest = (slot, at, up, is, below, rest)
  remove_step true false r c t after k p ks e whole rest = absurd (cc)
  remove_step false true r c t after k p ks e whole rest = absurd (cc)

-- a tree more among those that are kept
insert_keeps : (a b : Arena) (before child : ℕ) (w : Branch PageRow) (above : Option ℕ) (n : Nodes PageRow) (ks : List ℕ)
    → KeepsOne page_slots (slots_in b) w above child → Keeps page_slots (slots_in a) n above ks → Keeps page_slots (slots_in b) n above ks
    → Keeps page_slots (slots_in b) (put_before before w n) above (insert ks (place_in a before ks) child)
insert_keeps a b before child w above none [] one kept whole = one
insert_keeps a b before child w above none (k ∷ ks) one kept whole = absurd kept
insert_keeps a b before child w above (node r c t) [] one kept whole = absurd kept
insert_keeps a b before child w above (node r c t) (k ∷ ks) one (slot, at, up, is, below, after) whole =
    insert_step b above (r.serial == before) (is_numbered a before k) w r c t (put_before before w t) k child (place_in a before ks) ks
    (numbered_is a before k slot r at is) one whole
    (insert_keeps a b before child w above t ks one after whole.5)

-- and a tree less
remove_keeps : (a : Arena) (serial : ℕ) (above : Option ℕ) (n : Nodes PageRow) (ks : List ℕ) → Keeps page_slots (slots_in a) n above ks
    → Keeps page_slots (slots_in a) (taken_out serial n) above (remove ks (place_in a serial ks))
remove_keeps a serial above none [] kept = tt
remove_keeps a serial above none (k ∷ ks) kept = absurd kept
remove_keeps a serial above (node r c t) [] kept = absurd kept
remove_keeps a serial above (node r c t) (k ∷ ks) (slot, at, up, is, below, after) =
    remove_step a above (r.serial == serial) (is_numbered a serial k) r c t (taken_out serial t) k (place_in a serial ks) ks
    (numbered_is a serial k slot r at is) (slot, at, up, is, below, after) (remove_keeps a serial above t ks after)

module _ (a : Arena) (root next : ℕ) (page : IsPage a root next) (x : ℕ) (slot : Slot) (e : slot_of a x ≡ Some slot) where
  -- where the node that is changed stands
  pub record Seat : Type 0 where
    pub key : ℕ
    pub key_is : keys_in a x ≡ Some key
    pub at : slots_in a key ≡ Some slot
    pub serial_is : slot.serial ≡ x
    pub live : is_live x (tree_of a root) ≡ true
    pub row_is : slot_row slot ≡ (node_at x (tree_of a root)).row
    pub below : Keeps page_slots (slots_in a) (node_at x (tree_of a root)).children (Some key) slot.children

  pub seat : Seat
  seat =
      let l = located a root next page x slot e in
      let is = node_at_is a root next page x l.branch l.found in
      record {
        key = l.key;
        key_is = l.key_is;
        at = l.at;
        serial_is = l.serial_is;
        live = ap (λ (o : Option (Branch PageRow)). is_some o) l.found;
        row_is = l.row_is ∙ ap (λ (b : Branch PageRow). b.row) (sym is);
        below = subst (λ (b : Branch PageRow). Keeps page_slots (slots_in a) b.children (Some l.key) slot.children) (sym is) l.below;
      }

  -- the node's serial is its own: it stands once, and not below itself
  own_times : 0 < times page_slots slot.serial (alone (node_at x (tree_of a root)))
  own_times = row_there page_slots slot (node_at x (tree_of a root)).row (node_at x (tree_of a root)).children none seat.row_is

  own_below : times page_slots slot.serial (node_at x (tree_of a root)).children ≡ 0
  own_below =
      let within = tally_in-at row_serial slot.serial (changed x (λ b. b) (tree_of a root) seat.live).1 in
      let o = once a root next page slot.serial in
      let h = row_alone page_slots slot (node_at x (tree_of a root)).row (node_at x (tree_of a root)).children none seat.row_is
      (omega arith) in
      omega arith

  module _ (b : Arena) (then : ℕ) (change : Branch PageRow → Branch PageRow) (files : Filed b)
      (keeps : KeepsOne page_slots (slots_in b) (change (node_at x (tree_of a root))) slot.parent seat.key)
      (same : (k : ℕ) (s : Slot) → slots_in a k ≡ Some s → times page_slots s.serial (alone (node_at x (tree_of a root))) ≡ 0
      → slots_in b k ≡ Some s)
      (reached : (k : ℕ) (s : Slot) → slots_in b k ≡ Some s → 0 < times page_slots s.serial (alone (changed_at x change (tree_of a root))))
      (valid : IsValid (record { tree = changed_at x change (tree_of a root); next = then })) where
    changed_keeps : (o : Option ℕ) (k : ℕ) → KeepsOne page_slots (slots_in a) (node_at x (tree_of a root)) o k
        → KeepsOne page_slots (slots_in b) (change (node_at x (tree_of a root))) o k
    changed_keeps o k (s, at, up, row_is, below, after) =
        let serial_is : s.serial ≡ x = ap (λ (r : PageRow). r.serial) row_is ∙ serial-live x (tree_of a root) seat.live in
        let key_is : keys_in a x ≡ Some k = ap (λ (y : ℕ). keys_in a y) (sym serial_is) ∙ page.arena.files.filed k s at in
        let same_key : k ≡ seat.key = let both : Some k ≡ Some seat.key = sym key_is ∙ seat.key_is in cc in
        let same_slot : s ≡ slot = let both : Some s ≡ Some slot = sym at ∙ ap (λ (y : ℕ). slots_in a y) same_key ∙ seat.at in cc in
        let same_parent : slot.parent ≡ o = ap (λ (z : Slot). z.parent) (sym same_slot) ∙ up in
        subst (λ (p : Option ℕ). KeepsOne page_slots (slots_in b) (change (node_at x (tree_of a root))) p k) same_parent
        (subst (λ (j : ℕ). KeepsOne page_slots (slots_in b) (change (node_at x (tree_of a root))) slot.parent j) (sym same_key) keeps)

    changed_arena : IsArena page_slots (slots_in b) (keys_in b) root (changed_at x change (tree_of a root))
    changed_arena =
        record {
          stands = keeps-at page_slots (slots_in a) (slots_in b) None (root ∷ []) (changed x change (tree_of a root) seat.live).1
              (once a root next page) changed_keeps (λ k s f there absent. same k s f absent) page.arena.stands;
          files = files;
          reached = reached;
        }

    pub page_changed : (tree_of b root ≡ changed_at x change (tree_of a root)) × IsPage b root then
    page_changed = (tree_is b root then _ changed_arena valid, rebuilt b root then _ changed_arena valid)

  -- how many nodes have a serial, before and after
  counts : (change : Branch PageRow → Branch PageRow) (y : ℕ)
      → times page_slots y (alone (changed_at x change (tree_of a root))) + times page_slots y (alone (node_at x (tree_of a root)))
      ≡ times page_slots y (alone (tree_of a root)) + times page_slots y (alone (change (node_at x (tree_of a root))))
  counts change y = let h = tally-at row_serial y (changed x change (tree_of a root) seat.live).1 in omega arith

  -- ---- another label

  module _ (b : Arena) (f : Label → Label) (slot2 : Slot) (files : Filed b)
      (turns : Turns page_slots (slots_in a) (slots_in b) seat.key slot slot2)
      (row_is : slot_row slot2 ≡ record { serial = slot.serial; label = f (slot_row slot).label }) (parent_is : slot2.parent ≡ slot.parent)
      (children_are : slot2.children ≡ slot.children)
      (valid : IsValid (record { tree = changed_at x (relabelled f) (tree_of a root); next = next })) where
    others : (k : ℕ) (s : Slot) → slots_in a k ≡ Some s → (s.serial ≡ slot.serial → ⊥) → slots_in b k ≡ Some s
    others k s at apart = turns.others k
        (λ same. apart (let both : Some s
        ≡ Some slot = sym at ∙ ap (λ (y : ℕ). slots_in a y) same ∙ seat.at in ap (λ (z : Slot). z.serial)
        (let is : s ≡ slot = cc in is))) ∙ at

    relabelled_keeps : KeepsOne page_slots (slots_in b) (relabelled f (node_at x (tree_of a root))) slot.parent seat.key
    relabelled_keeps =
        let kept = keeps-same page_slots (slots_in a) (slots_in b) (node_at x (tree_of a root)).children (Some seat.key) slot.children
        (λ k s at there. others k s at
        (λ same. let z = subst (λ (y : ℕ). times page_slots y (node_at x (tree_of a root)).children ≡ 0) (sym same) own_below in absurd
        (omega arith))) seat.below in (
          slot2,
          turns.at,
          parent_is,
          row_is ∙ ap (λ (r : PageRow). record { serial = r.serial; label = f r.label }) seat.row_is,
          subst (λ (ks : List ℕ). Keeps page_slots (slots_in b) (node_at x (tree_of a root)).children (Some seat.key) ks)
              (sym children_are) kept,
          tt,
        )

    relabelled_there : (k : ℕ) (s : Slot) → slots_in b k ≡ Some s → 0 < times page_slots s.serial (alone (tree_of a root))
    relabelled_there k s at =
        elim (cases_eq k seat.key) [
          | inl same ↦
              let is : slot2 ≡ s = let both : Some slot2 ≡ Some s = sym turns.at ∙ ap (λ (y : ℕ). slots_in b y) (sym same) ∙ at in cc in
              let serial_is : slot.serial ≡ s.serial = sym (ap (λ (r : PageRow). r.serial) row_is) ∙ ap (λ (z : Slot). z.serial) is in
              subst (λ (y : ℕ). 0 < times page_slots y (alone (tree_of a root))) serial_is (page.arena.reached seat.key slot seat.at)
          | inr other ↦ page.arena.reached k s (sym (turns.others k other) ∙ at)
        ]

    pub page_relabelled : (tree_of b root ≡ changed_at x (relabelled f) (tree_of a root)) × IsPage b root next
    page_relabelled =
        page_changed b next (relabelled f) files relabelled_keeps
        (λ k s at absent. others k s at
        (λ same. let z = subst (λ (y : ℕ). 0 < times page_slots y (alone (node_at x (tree_of a root)))) (sym same) own_times in absurd
        (omega arith)))
        (λ k s at. let there = relabelled_there k s at in let h = counts (relabelled f) s.serial in omega arith) valid

  -- ---- a tree more below it

  module _ (b : Arena) (then before : ℕ) (w : Branch PageRow) (files : Filed b) (fresh : Fresh a (alone w))
      (g : Grafted a b (graft_point seat.key before) w)
      (valid : IsValid (record { tree = changed_at x (with_child before w) (tree_of a root); next = then })) where
    grafted : Turns page_slots (slots_in g.mid) (slots_in b) seat.key slot (with_child_key a before g.child slot)
    grafted = g.turned slot (g.grown.kept seat.key slot seat.at)

    to_b : (k : ℕ) (s : Slot) → slots_in g.mid k ≡ Some s → (s.serial ≡ slot.serial → ⊥) → slots_in b k ≡ Some s
    to_b k s at apart =
        grafted.others k (λ same. apart
        (let both : Some s ≡ Some slot = sym at ∙ ap (λ (y : ℕ). slots_in g.mid y) same ∙ g.grown.kept seat.key slot seat.at in ap
        (λ (z : Slot). z.serial) (let is : s ≡ slot = cc in is))) ∙ at

    grafted_keeps : KeepsOne page_slots (slots_in b) (with_child before w (node_at x (tree_of a root))) slot.parent seat.key
    grafted_keeps =
        let node_below = keeps-same page_slots (slots_in a) (slots_in b) (node_at x (tree_of a root)).children (Some seat.key) slot.children
        (λ k s at there. to_b k s (g.grown.kept k s at)
        (λ same. let z = subst (λ (y : ℕ). times page_slots y (node_at x (tree_of a root)).children ≡ 0) (sym same) own_below in absurd
        (omega arith))) seat.below in
        let one = keeps-same page_slots (slots_in g.mid) (slots_in b) (alone w) (Some seat.key) (g.child ∷ [])
        (λ k s at there. to_b k s at (λ same. let z = subst (λ (y : ℕ). times page_slots y (alone w) ≡ 0) (sym same)
        (fresh.apart seat.key slot seat.at) in absurd (omega arith))) g.stored in (
          with_child_key a before g.child slot,
          grafted.at,
          refl,
          seat.row_is,
          insert_keeps a b before g.child w (Some seat.key)
              (node_at x (tree_of a root)).children slot.children one seat.below node_below,
          tt,
        )

    more : (y : ℕ) → times page_slots y (alone (changed_at x (with_child before w) (tree_of a root)))
        ≡ times page_slots y (alone (tree_of a root)) + times page_slots y (alone w)
    more y =
        let h = counts (with_child before w) y in
        let i = tally-inserted y (inserted-before before w (node_at x (tree_of a root)).children) in
        omega arith

    pub page_grafted : (tree_of b root ≡ changed_at x (with_child before w) (tree_of a root)) × IsPage b root then
    page_grafted =
        page_changed b then (with_child before w) files grafted_keeps
        (λ k s at absent. to_b k s (g.grown.kept k s at)
        (λ same. let z = subst (λ (y : ℕ). 0 < times page_slots y (alone (node_at x (tree_of a root)))) (sym same) own_times in absurd
        (omega arith)))
        (λ k s at.
        let h = more s.serial in
        elim (cases_eq k seat.key) [
          | inl same ↦
              let is : with_child_key a before g.child slot ≡ s = let both : Some (with_child_key a before g.child slot)
              ≡ Some s = sym grafted.at ∙ ap (λ (y : ℕ). slots_in b y) (sym same) ∙ at in cc in
              let there = subst (λ (y : ℕ). 0 < times page_slots y (alone (tree_of a root))) (ap (λ (z : Slot). z.serial) is)
              (page.arena.reached seat.key slot seat.at) in
              omega arith
          | inr other ↦ elim (g.grown.only k s (sym (grafted.others k other) ∙ at)) [
            | inl old ↦ let there = page.arena.reached k s old in omega arith
            | inr new ↦ omega arith
          ]
        ])
        valid

  -- ---- and a tree less

  module _ (b : Arena) (serial : ℕ) (w : Branch PageRow) (files : Filed b) (g : Cut a b (graft_point seat.key serial) w)
      (child : Inserted w (taken_out serial (node_at x (tree_of a root)).children) (node_at x (tree_of a root)).children)
      (valid : IsValid (record { tree = changed_at x (without_child serial) (tree_of a root); next = next })) where
    cut : Turns page_slots (slots_in a) (slots_in g.mid) seat.key slot (without_child_key a serial slot)
    cut = g.turned slot seat.at

    less : (y : ℕ) → times page_slots y (alone (changed_at x (without_child serial) (tree_of a root))) + times page_slots y (alone w)
        ≡ times page_slots y (alone (tree_of a root))
    less y =
        let h = counts (without_child serial) y in
        let i = tally-inserted y child in
        omega arith

    -- what is below the node, or the node itself, but for the tree that goes, stays
    stays : (k : ℕ) (s : Slot) → slots_in a k ≡ Some s → (s.serial ≡ slot.serial → ⊥) → times page_slots s.serial (alone w) ≡ 0
        → slots_in b k ≡ Some s
    stays k s at apart absent =
        let mid = cut.others k (λ same. apart
        (let both : Some s ≡ Some slot = sym at ∙ ap (λ (y : ℕ). slots_in a y) same ∙ seat.at in ap (λ (z : Slot). z.serial)
        (let is : s ≡ slot = cc in is))) ∙ at in
        g.shrunk.kept k s mid (g.listing s.serial ∙ absent)

    own_apart : times page_slots slot.serial (alone w) ≡ 0
    own_apart = let i = tally-inserted slot.serial child in let o = own_below in omega arith

    cut_keeps : KeepsOne page_slots (slots_in b) (without_child serial (node_at x (tree_of a root))) slot.parent seat.key
    cut_keeps =
        let kept = remove_keeps a serial (Some seat.key) (node_at x (tree_of a root)).children slot.children seat.below in
        let rest = keeps-same page_slots (slots_in a) (slots_in b) (taken_out serial (node_at x (tree_of a root)).children) (Some seat.key)
        (remove slot.children (place_in a serial slot.children))
        (λ k s at there.
        let i = tally-inserted s.serial child in
        let within = tally_in-at row_serial s.serial (changed x (λ b. b) (tree_of a root) seat.live).1 in
        let o = once a root next page s.serial in
        stays k s at (λ same. let z = subst (λ (y : ℕ). times page_slots y (node_at x (tree_of a root)).children ≡ 0)
        (sym same) own_below in absurd (omega arith)) (omega arith)) kept in (
          without_child_key a serial slot,
          g.shrunk.kept seat.key (without_child_key a serial slot) cut.at
              (g.listing slot.serial ∙ own_apart),
          refl,
          seat.row_is,
          rest,
          tt,
        )

    pub page_cut : (tree_of b root ≡ changed_at x (without_child serial) (tree_of a root)) × IsPage b root next
    page_cut =
        page_changed b next (without_child serial) files cut_keeps
        (λ k s at absent.
        let i = tally-inserted s.serial child in
        stays k s at (λ same. let z = subst (λ (y : ℕ). 0 < times page_slots y (alone (node_at x (tree_of a root))))
        (sym same) own_times in absurd (omega arith)) (omega arith))
        (λ k s at.
        let (mid, gone) = g.shrunk.only k s at in
        let h = less s.serial in
        let l = g.listing s.serial in
        elim (cases_eq k seat.key) [
          | inl same ↦
              let is : without_child_key a serial slot ≡ s = let both : Some (without_child_key a serial slot)
              ≡ Some s = sym cut.at ∙ ap (λ (y : ℕ). slots_in g.mid y) (sym same) ∙ mid in cc in
              let there = subst (λ (y : ℕ). 0 < times page_slots y (alone (tree_of a root))) (ap (λ (z : Slot). z.serial) is)
              (page.arena.reached seat.key slot seat.at) in
              omega arith
          | inr other ↦ let there = page.arena.reached k s (sym (cut.others k other) ∙ mid) in omega arith
        ])
        valid
