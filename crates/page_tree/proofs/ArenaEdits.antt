-- A page in an arena after an edit.
use Rattle.std.proofs.Common.{◌≡◌, ℕ, suc, ◌<◌, max, true, false, List, [], ◌∷◌, Option, Some, None, IsSome, is_some, Result, Ok, Err, IfOk}
use Rattle.std.proofs.Common.{OnOk, OnErr, refl, sym, ap, subst, ◌∙◌, inl, inr, arith}
use Rattle.std.specs.Option.{option_and_then}
use Rattle.std.proofs.lemmas.Bool.{not-false, cases_lt}
use Rattle.node_tree.specs.Levels.{most_levels}
use Rattle.node_tree.specs.Nodes.{Nodes, none, node, Branch, alone}
use Rattle.node_tree.specs.Labels.{Label, is_element, is_ascending, value_of}
use Rattle.node_tree.specs.Keys.{tally}
use Rattle.node_tree.specs.Arena.{times, IsArena}
use Rattle.node_tree.proofs.KeyLemmas.{tally_row, tally_below, height_above-at}
use Rattle.node_tree.proofs.ChangeLemmas.{at-old, child_of}
use Rattle.node_tree.proofs.NodeLemmas.{height-map_rows}
use Rattle.node_tree.proofs.ArenaLemmas.{keeps-same, kept_trees-keeps}
use Rattle.page_tree.specs.Pages.{PageRow, row_serial, row_label, PageValue, IsValid, find_in, node_at, parent_at}
use Rattle.page_tree.specs.Loads.{placed}
use Rattle.page_tree.specs.Edits.{with_attribute, without_attribute, pairs_without, with_value, relabelled, with_child, without_child}
use Rattle.page_tree.specs.Edits.{changed_at, greatest_serial, after, children_at, label_at, sibling_after}
use Rattle.page_tree.specs.EditFaults.{is_live, CanAttach, CanApply, edit_faults}
use Rattle.page_tree.specs.declared.edits.TreeEdit.{TreeEdit}
use Rattle.page_tree.specs.declared.edits.TreeEdit.TheVariants.{SetAttr, DropAttr, SetText, Attach, Detach}
use Rattle.page_tree.specs.Arenas.{page_slots, slot_row, slots_in, keys_in, Filed, Fresh, SameSlots, Turned, slot_of, stored_trees, next_in}
use Rattle.page_tree.specs.Arenas.{Grafted, Cut, graft_point, tree_of, IsPage, Looks}
use Rattle.page_tree.specs.declared.slots.Slot.{Slot}
use Rattle.page_tree.specs.declared.arenas.Arena.{Arena}
use Rattle.page_tree.proofs.PlaceLemmas.{located, tree_is, rebuilt, looks, Under, placed_up}
use Rattle.page_tree.proofs.TurnLemmas.{Seat, seat, next_keeps, page_relabelled, page_grafted, page_cut}
use Rattle.page_tree.proofs.HangLemmas.{branch_same}
use Rattle.page_tree.proofs.ChildLemmas.{inserted-taken}
use Rattle.node_tree.proofs.PairLemmas.{left}
use Rattle.page_tree.proofs.WholeLemmas.{whole-valid}
use Rattle.page_tree.proofs.EditLemmas.{fits-live, ascending-element, clear, changed, serial-live, parted, valid-after}

-- the page as it was, where no slot changed
pub same_page : (a b : Arena) (root next : ℕ) → IsPage a root next → SameSlots a b → Filed b
    → (tree_of b root ≡ tree_of a root) × IsPage b root next
same_page a b root next page same files =
    let arena : IsArena page_slots (slots_in b) (keys_in b) root (tree_of a root) =
    record {
      stands = keeps-same page_slots (slots_in a) (slots_in b) (alone (tree_of a root)) None (root ∷ [])
          (λ k s e there. same k ∙ e) page.arena.stands;
      files = files;
      reached = λ k s e. page.arena.reached k s (sym (same k) ∙ e);
    } in
    (tree_is b root next (tree_of a root) arena page.valid, rebuilt b root next (tree_of a root) arena page.valid)

-- the page after an edit
pub record IsAfter (b : Arena) (root next : ℕ) (e : TreeEdit) (p : PageValue) : Type 0 where
  pub shown : ◌≡◌ {A = PageValue} (record { tree = tree_of b root; next = next }) (after e p)
  pub page : IsPage b root next

greatest-below : (n : Nodes PageRow) (next : ℕ) → 0 < next → ((x : ℕ) → 0 < tally row_serial x n → x < next) → greatest_serial n < next
greatest-below none next some low = some
greatest-below (node r c t) next some low =
    let h = low r.serial (tally_row row_serial r.serial r c t refl) in
    let u = greatest-below c next some (λ x p. low x (let w = tally_below row_serial x r c t in omega arith)) in
    let v = greatest-below t next some (λ x p. low x (let w = tally_below row_serial x r c t in omega arith)) in
    omega arith

next_stays : (next : ℕ) (w tree : Branch PageRow) → CanAttach next w tree → max next (suc (greatest_serial (alone w))) ≡ next
next_stays next w tree can =
    let root_low = can.below_next w.row.serial (let h = tally_row row_serial w.row.serial w.row w.children none refl in omega arith) in
    let low = greatest-below (alone w) next (omega arith) (λ x p. can.below_next x (omega arith)) in
    omega arith

module _ (a b : Arena) (root next : ℕ) (page : IsPage a root next) (p : PageValue)
    (view : ◌≡◌ {A = PageValue} (record { tree = tree_of a root; next = next }) p) where
  can_here : (e : TreeEdit) → CanApply p.next e p.tree → CanApply next e (tree_of a root)
  can_here e can = subst (λ (q : PageValue). CanApply q.next e q.tree) (sym view) can

  valid_here : (e : TreeEdit) → CanApply p.next e p.tree → IsValid (after e (record { tree = tree_of a root; next = next }))
  valid_here e can = valid-after (record { tree = tree_of a root; next = next }) e page.valid (can_here e can)

  -- a live node has a slot
  slot_here : (x : ℕ) → is_live x (tree_of a root) ≡ true → (slot : Slot) × (slot_of a x ≡ Some slot)
  slot_here x live =
      (elim (slot_of a x) as (λ o. slot_of a x ≡ o → (slot : Slot) × (o ≡ Some slot)) [
        | Some slot ↦ λ e. (slot, refl)
        | None ↦ λ e.
            let f = subst (λ (o : Option Slot). Looks o (find_in x (tree_of a root))) e (looks a root next page x) in
            let clash : false ≡ true = sym (ap (λ (o : Option (Branch PageRow)). is_some o) f) ∙ live in absurd (cc)
      ]) refl

  -- ---- a text or a comment with another value

  pub text_set : (serial key : ℕ) (value : List ℕ) → CanApply p.next (SetText serial value) p.tree → keys_in a serial ≡ Some key
      → Turned a b key (λ slot. record slot { value = value }) → Filed b → IsAfter b root next (SetText serial value) p
  text_set serial key value can key_is turned files =
      let tests = clear (edit_faults (SetText serial value) (tree_of a root)) (can_here (SetText serial value) can).fits in
      let (slot, at) = slot_here serial (not-false _ tests.0) in
      let s = seat a root next page serial slot at in
      let same : key ≡ s.key = let both : Some key ≡ Some s.key = sym key_is ∙ s.key_is in cc in
      let turns = subst (λ (k : ℕ). Turned a b k (λ slot. record slot { value = value })) same turned in
      let done = page_relabelled a root next page serial slot at b (with_value value) (record slot { value = value }) files
      (turns slot s.at) refl refl refl (valid_here (SetText serial value) can) in
      record {
        shown = ap (λ (t : Branch PageRow). record { tree = t; next = next }) done.0 ∙ ap
            (λ (q : PageValue). after (SetText serial value) q) view;
        page = done.1;
      }

  pub text_there : (serial : ℕ) (value : List ℕ) → CanApply p.next (SetText serial value) p.tree → keys_in a serial ≡ None → ⊥
  text_there serial value can e =
      let tests = clear (edit_faults (SetText serial value) (tree_of a root)) (can_here (SetText serial value) can).fits in
      let (slot, at) = slot_here serial (not-false _ tests.0) in
      let s = seat a root next page serial slot at in
      let clash : None ≡ Some s.key = sym e ∙ s.key_is in absurd (cc)

  -- a serial's slot has what the node has
  pub label_here : (serial key : ℕ) → keys_in a serial ≡ Some key
      → (slot : Slot) × (slots_in a key ≡ Some slot) × ((slot_row slot).label ≡ label_at serial p.tree)
  label_here serial key e =
      let (slot, at, number_is) = page.arena.files.found serial key e in
      let s = seat a root next page serial slot (ap (λ (o : Option ℕ). option_and_then (slots_in a) o) e ∙ at) in
      (slot, at, ap (λ (r : PageRow). r.label) s.row_is ∙ ap (λ (q : PageValue). label_at serial q.tree) view)

  -- ---- an element with other attributes

  -- the label of a live node changed
  label_set : (e : TreeEdit) (f : Label → Label) (g : Slot → Slot) (serial key : ℕ)
      → ((q : PageValue) → after e q ≡ record { tree = changed_at serial (relabelled f) q.tree; next = q.next }) → CanApply p.next e p.tree
      → is_live serial (tree_of a root) ≡ true → keys_in a serial ≡ Some key → Turned a b key g
      → ((s : Slot) → slot_row (g s) ≡ record { serial = s.serial; label = f (slot_row s).label })
      → ((s : Slot) → (g s).parent ≡ s.parent) → ((s : Slot) → (g s).children ≡ s.children)
      → Filed b → IsAfter b root next e p
  label_set e f g serial key means can live key_is turned rows parents children files =
      let (slot, at) = slot_here serial live in
      let s = seat a root next page serial slot at in
      let same : key ≡ s.key = let both : Some key ≡ Some s.key = sym key_is ∙ s.key_is in cc in
      let turns = subst (λ (k : ℕ). Turned a b k g) same turned in
      let here : PageValue = record { tree = tree_of a root; next = next } in
      let valid = subst IsValid (means here) (valid_here e can) in
      let done = page_relabelled a root next page serial slot at b f (g slot) files (turns slot s.at) (rows slot) (parents slot)
      (children slot) valid in
      record {
        shown = ap (λ (t : Branch PageRow). record { tree = t; next = next }) done.0 ∙ sym (means here) ∙ ap
            (λ (q : PageValue). after e q) view;
        page = done.1;
      }

  attr_live : (serial : ℕ) (name value : List ℕ) → CanApply p.next (SetAttr serial name value) p.tree
      → is_live serial (tree_of a root) ≡ true
  attr_live serial name value can = not-false _
      (clear (edit_faults (SetAttr serial name value) (tree_of a root)) (can_here (SetAttr serial name value) can).fits).0

  drop_live : (serial : ℕ) (name : List ℕ) → CanApply p.next (DropAttr serial name) p.tree → is_live serial (tree_of a root) ≡ true
  drop_live serial name can = not-false _
      (clear (edit_faults (DropAttr serial name) (tree_of a root)) (can_here (DropAttr serial name) can).fits).0

  pub attr_set : (serial key : ℕ) (name value : List ℕ) → CanApply p.next (SetAttr serial name value) p.tree → keys_in a serial ≡ Some key
      → Turned a b key (λ slot. record slot { attributes = placed (name, value) slot.attributes }) → Filed b
      → IsAfter b root next (SetAttr serial name value) p
  attr_set serial key name value can key_is turned files =
      label_set (SetAttr serial name value) (with_attribute name value)
      (λ slot. record slot { attributes = placed (name, value) slot.attributes }) serial key (λ q. refl) can
      (attr_live serial name value can) key_is turned (λ s. refl) (λ s. refl) (λ s. refl) files

  pub attr_dropped : (serial key : ℕ) (name : List ℕ) → CanApply p.next (DropAttr serial name) p.tree → keys_in a serial ≡ Some key
      → Turned a b key (λ slot. record slot { attributes = pairs_without name slot.attributes }) → Filed b
      → IsAfter b root next (DropAttr serial name) p
  attr_dropped serial key name can key_is turned files =
      label_set (DropAttr serial name) (without_attribute name)
      (λ slot. record slot { attributes = pairs_without name slot.attributes }) serial key (λ q. refl) can
      (drop_live serial name can) key_is turned (λ s. refl) (λ s. refl) (λ s. refl) files

  -- a live serial has a key
  key_there : (serial : ℕ) → is_live serial (tree_of a root) ≡ true → keys_in a serial ≡ None → ⊥
  key_there serial live e =
      let (slot, at) = slot_here serial live in
      let s = seat a root next page serial slot at in
      let clash : None ≡ Some s.key = sym e ∙ s.key_is in absurd (cc)

  pub attr_there : (serial : ℕ) (name value : List ℕ) → CanApply p.next (SetAttr serial name value) p.tree → keys_in a serial ≡ None → ⊥
  attr_there serial name value can e = key_there serial (attr_live serial name value can) e

  pub drop_there : (serial : ℕ) (name : List ℕ) → CanApply p.next (DropAttr serial name) p.tree → keys_in a serial ≡ None → ⊥
  drop_there serial name can e = key_there serial (drop_live serial name can) e

  -- an element's attributes ascend
  ascends : (serial key : ℕ) (slot : Slot) → is_live serial (tree_of a root) ≡ true
      → is_element (label_at serial (tree_of a root)).kind ≡ true → keys_in a serial ≡ Some key → slots_in a key ≡ Some slot
      → is_ascending slot.attributes ≡ true
  ascends serial key slot live element key_is at =
      let fits = (fits-live next (tree_of a root) (whole-valid (record { tree = tree_of a root; next = next }) page.valid) serial live).1 in
      let order = ascending-element (label_at serial (tree_of a root)) element fits.formed in
      let s = seat a root next page serial slot (ap (λ (o : Option ℕ). option_and_then (slots_in a) o) key_is ∙ at) in
      ap (λ (r : PageRow). is_ascending r.label.attributes) s.row_is ∙ order

  pub attr_ascends : (serial key : ℕ) (name value : List ℕ) → CanApply p.next (SetAttr serial name value) p.tree
      → keys_in a serial ≡ Some key → (slot : Slot) → slots_in a key ≡ Some slot → is_ascending slot.attributes ≡ true
  attr_ascends serial key name value can key_is slot at =
      let tests = clear (edit_faults (SetAttr serial name value) (tree_of a root)) (can_here (SetAttr serial name value) can).fits in
      ascends serial key slot (not-false _ tests.0) (not-false _ tests.1.0) key_is at

  pub drop_ascends : (serial key : ℕ) (name : List ℕ) → CanApply p.next (DropAttr serial name) p.tree → keys_in a serial ≡ Some key
      → (slot : Slot) → slots_in a key ≡ Some slot → is_ascending slot.attributes ≡ true
  drop_ascends serial key name can key_is slot at =
      let tests = clear (edit_faults (DropAttr serial name) (tree_of a root)) (can_here (DropAttr serial name) can).fits in
      ascends serial key slot (not-false _ tests.0) (not-false _ tests.1.0) key_is at

  -- ---- a tree more

  pub tree_attached : (parent before key : ℕ) (w : Branch PageRow) → CanApply p.next (Attach parent before w) p.tree
      → keys_in a parent ≡ Some key → Grafted a b (graft_point key before) w → Filed b → Fresh a (alone w)
      → IsAfter b root next (Attach parent before w) p
  tree_attached parent before key w can key_is grafted files fresh =
      let can = can_here (Attach parent before w) can in
      let tests = clear (edit_faults (Attach parent before w) (tree_of a root)) can.fits in
      let (slot, at) = slot_here parent (left (is_live parent (tree_of a root)) _ (not-false _ tests.0)) in
      let s = seat a root next page parent slot at in
      let same : key ≡ s.key = let both : Some key ≡ Some s.key = sym key_is ∙ s.key_is in cc in
      let stays = next_stays next w (tree_of a root) can.ready in
      let valid = valid-after (record { tree = tree_of a root; next = next }) (Attach parent before w) page.valid can in
      let valid = subst (λ (n : ℕ). IsValid
      (record { tree = changed_at parent (with_child before w) (tree_of a root); next = n })) stays valid in
      let done = page_grafted a root next page parent slot at b next before w files fresh
      (subst (λ (k : ℕ). Grafted a b (graft_point k before) w) same grafted) valid in
      record {
        shown =
            ap (λ (t : Branch PageRow). record { tree = t; next = next }) done.0
            ∙ ap (λ (n : ℕ). record { tree = changed_at parent (with_child before w) (tree_of a root); next = n }) (sym stays)
            ∙ ap (λ (q : PageValue). after (Attach parent before w) q) view;
        page = done.1;
      }

  -- what is attached is fresh
  pub attach_fresh : (parent before : ℕ) (w : Branch PageRow) → CanApply p.next (Attach parent before w) p.tree → Fresh a (alone w)
  attach_fresh parent before w can =
      let ready = (can_here (Attach parent before w) can).ready in
      record {
        distinct = λ x. let d = ready.distinct x in omega arith;
        apart = λ k s e. elim (cases_lt 0 (times page_slots s.serial (alone w))) [
          | inl there ↦ absurd (let z = ready.apart s.serial (omega arith) in let r = page.arena.reached k s e in omega arith)
          | inr z ↦ omega arith
        ];
      }

  pub attach_key : (parent before : ℕ) (w : Branch PageRow) → CanApply p.next (Attach parent before w) p.tree → keys_in a parent ≡ None → ⊥
  attach_key parent before w can e =
      let tests = clear (edit_faults (Attach parent before w) (tree_of a root)) (can_here (Attach parent before w) can).fits in
      let (slot, at) = slot_here parent (left (is_live parent (tree_of a root)) _ (not-false _ tests.0)) in
      let s = seat a root next page parent slot at in
      let clash : None ≡ Some s.key = sym e ∙ s.key_is in absurd (cc)

  pub attach_slot : (parent before key : ℕ) (w : Branch PageRow) → CanApply p.next (Attach parent before w) p.tree
      → keys_in a parent ≡ Some key → IsSome (slots_in a key)
  attach_slot parent before key w can e =
      let (slot, at, number_is) = page.arena.files.found parent key e in
      subst (λ (o : Option Slot). IsSome o) (sym at) refl

  -- ---- a tree less

  record Parting (serial : ℕ) : Type 0 where
    slot : Slot
    at : slot_of a serial ≡ Some slot
    under : Under a root next page serial slot
    over_seat : Seat a root next page under.over.serial under.over under.over_is
    live : is_live serial (tree_of a root) ≡ true
    child : child_of row_serial serial (children_at under.over.serial (tree_of a root)) ≡ Some (node_at serial (tree_of a root))

  parting : (serial : ℕ) → CanApply p.next (Detach serial) p.tree → Parting serial
  parting serial can =
      let tests = clear (edit_faults (Detach serial) (tree_of a root)) (can_here (Detach serial) can).fits in
      let live = not-false _ tests.0 in
      let part = parted serial (tree_of a root) (whole-valid (record { tree = tree_of a root; next = next }) page.valid) live tests.1.0 in
      let (slot, at) = slot_here serial live in
      elim (placed_up a root next page serial slot at) [
        | inl top ↦
            absurd (let none_there : is_live 0 (tree_of a root)
            ≡ true = subst (λ (x : ℕ). is_live x (tree_of a root) ≡ true) top.parent_is part.live in
            let (zero_slot, zero_at) = slot_here 0 none_there in
            let z = located a root next page 0 zero_slot zero_at in
            let there = z.there in
            let least = page.valid.least 0 (omega arith) in omega arith)
        | inr under ↦ record {
          slot = slot;
          at = at;
          under = under;
          over_seat = seat a root next page under.over.serial under.over under.over_is;
          live = live;
          child = subst (λ (x : ℕ). child_of row_serial serial (children_at x (tree_of a root))
              ≡ Some (node_at serial (tree_of a root))) under.parent_is part.child;
        }
      ]

  pub detach_slot : (serial : ℕ) → CanApply p.next (Detach serial) p.tree → slot_of a serial ≡ None → ⊥
  detach_slot serial can e = let q = parting serial can in let clash : None ≡ Some q.slot = sym e ∙ q.at in absurd (cc)

  pub detach_parent : (serial : ℕ) (slot : Slot) → CanApply p.next (Detach serial) p.tree → slot_of a serial ≡ Some slot
      → slot.parent ≡ None → ⊥
  detach_parent serial slot can e up =
      let q = parting serial can in
      let same : slot ≡ q.slot = let both : Some slot ≡ Some q.slot = sym e ∙ q.at in cc in
      let clash : None ≡ Some q.under.key = sym up ∙ ap (λ (s : Slot). s.parent) same ∙ q.under.up in
      absurd (cc)

  -- the key of the parent's slot
  pub detach_key : (serial key : ℕ) (slot : Slot) → CanApply p.next (Detach serial) p.tree → slot_of a serial ≡ Some slot
      → slot.parent ≡ Some key → IsSome (slots_in a key)
  detach_key serial key slot can e up =
      let q = parting serial can in
      let same : slot ≡ q.slot = let both : Some slot ≡ Some q.slot = sym e ∙ q.at in cc in
      let same_key : key ≡ q.under.key = let both : Some key
      ≡ Some q.under.key = sym up ∙ ap (λ (s : Slot). s.parent) same ∙ q.under.up in cc in
      subst (λ (o : Option Slot). IsSome o) (sym (ap (λ (k : ℕ). slots_in a k) same_key ∙ q.under.over_at)) refl

  -- the tree that is copied out is the node's
  pub detach_tree : (serial : ℕ) (slot : Slot) (w : Branch PageRow) → slot_of a serial ≡ Some slot
      → w ≡ record { row = slot_row slot; children = stored_trees a most_levels slot.children } → w ≡ node_at serial (tree_of a root)
  detach_tree serial slot w e is =
      let s = seat a root next page serial slot e in
      let h = page.valid.nodes.levels in
      let r = height-map_rows row_label (tree_of a root).children in
      let d = height_above-at (at-old (changed serial (λ b. b) (tree_of a root) s.live).1) in
      is ∙ branch_same (slot_row slot) (node_at serial (tree_of a root)).row (stored_trees a most_levels slot.children)
      (node_at serial (tree_of a root)).children s.row_is
      (kept_trees-keeps page_slots (slots_in a) most_levels (node_at serial (tree_of a root)).children (Some s.key) slot.children s.below
      (omega arith))

  pub tree_detached : (serial key : ℕ) (slot : Slot) (w : Branch PageRow) → CanApply p.next (Detach serial) p.tree
      → slot_of a serial ≡ Some slot → slot.parent ≡ Some key → w ≡ node_at serial (tree_of a root)
      → Cut a b (graft_point key serial) w → Filed b
      → IsAfter b root next (Detach serial) p
  tree_detached serial key slot w can e up is cut files =
      let q = parting serial can in
      let same : slot ≡ q.slot = let both : Some slot ≡ Some q.slot = sym e ∙ q.at in cc in
      let same_key : key ≡ q.under.key = let both : Some key
      ≡ Some q.under.key = sym up ∙ ap (λ (s : Slot). s.parent) same ∙ q.under.up in cc in
      let seat_key : q.under.key ≡ q.over_seat.key = let both : Some q.under.key
      ≡ Some q.over_seat.key = sym (page.arena.files.filed q.under.key q.under.over q.under.over_at) ∙ q.over_seat.key_is in cc in
      let own = seat a root next page q.under.over.serial q.under.over q.under.over_is in
      let own_key : q.under.key ≡ own.key = let both : Some q.under.key
      ≡ Some own.key = sym (page.arena.files.filed q.under.key q.under.over q.under.over_at) ∙ own.key_is in cc in
      let cut = subst (λ (k : ℕ). Cut a b (graft_point k serial) w) (same_key ∙ own_key) cut in
      let cut = subst (λ (t : Branch PageRow). Cut a b (graft_point own.key serial) t) is cut in
      let inserted = inserted-taken serial (node_at serial (tree_of a root)) (children_at q.under.over.serial (tree_of a root))
      (serial-live serial (tree_of a root) q.live) q.child in
      let valid = subst (λ (x : ℕ). IsValid
      (record { tree = changed_at x (without_child serial) (tree_of a root); next = next })) q.under.parent_is
      (valid_here (Detach serial) can) in
      let done = page_cut a root next page q.under.over.serial q.under.over q.under.over_is b serial
      (node_at serial (tree_of a root)) files cut inserted valid in
      record {
        shown =
            ap (λ (t : Branch PageRow). record { tree = t; next = next }) done.0
            ∙ ap (λ (x : ℕ). record { tree = changed_at x (without_child serial) (tree_of a root); next = next }) (sym q.under.parent_is)
            ∙ ap (λ (r : PageValue). after (Detach serial) r) view;
        page = done.1;
      }

  -- the sibling right after a node
  pub sibling_is : (serial key : ℕ) (slot over : Slot) → CanApply p.next (Detach serial) p.tree → slot_of a serial ≡ Some slot
      → slot.parent ≡ Some key → slots_in a key ≡ Some over
      → next_in a serial over.children ≡ sibling_after serial (parent_at serial p.tree) p.tree
  sibling_is serial key slot over can e up over_at =
      let q = parting serial can in
      let same : slot ≡ q.slot = let both : Some slot ≡ Some q.slot = sym e ∙ q.at in cc in
      let same_key : key ≡ q.under.key = let both : Some key
      ≡ Some q.under.key = sym up ∙ ap (λ (s : Slot). s.parent) same ∙ q.under.up in cc in
      let same_over : over ≡ q.under.over = let both : Some over
      ≡ Some q.under.over = sym over_at ∙ ap (λ (k : ℕ). slots_in a k) same_key ∙ q.under.over_at in cc in
      ap (λ (s : Slot). next_in a serial s.children) same_over
      ∙ next_keeps a serial (Some q.over_seat.key)
      (node_at q.under.over.serial (tree_of a root)).children q.under.over.children q.over_seat.below
      ∙ ap (λ (x : ℕ). sibling_after serial x (tree_of a root)) (sym q.under.parent_is)
      ∙ ap (λ (r : PageValue). sibling_after serial (parent_at serial r.tree) r.tree) view

-- ---- results

pub on_ok : {A E : Type 0} (r : Result A E) (P Q : Type 0) → (P → Q) → OnOk r P → OnOk r Q
on_ok (Ok x) P Q f p = f p
on_ok (Err e) P Q f p = p

pub on_err : {A E : Type 0} (r : Result A E) (P Q : Type 0) → (P → Q) → OnErr r P → OnErr r Q
on_err (Ok x) P Q f p = p
on_err (Err e) P Q f p = f p

pub if_ok : {A E : Type 0} (r : Result A E) (P Q : A → Type 0) → ((x : A) → P x → Q x) → IfOk r P → IfOk r Q
if_ok (Ok x) P Q f p = f x p
if_ok (Err e) P Q f p = p

pub if_both : {A E : Type 0} (r : Result A E) (P Q : A → Type 0) (R : Type 0) → ((x : A) → P x → Q x → R) → IfOk r P → IfOk r Q → OnOk r R
if_both (Ok x) P Q R f p q = f x p q
if_both (Err e) P Q R f p q = tt

pub if_way : {A E : Type 0} (r : Result A E) (P Q : A → Type 0) (S R : Type 0) → ((x : A) → P x → Q x → R) → (S → R) → IfOk r P → IfOk r Q
    → OnErr r S → R
if_way (Ok x) P Q S R f g p q s = f x p q
if_way (Err e) P Q S R f g p q s = g s
