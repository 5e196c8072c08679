-- The slots of a page, and the zippers that they are seen as.
use Rattle.std.proofs.Common.{◌≡◌, ◌⊎◌, ℕ, zero, suc, ◌+◌, ◌-◌, ◌<◌, ◌≤◌, ◌==◌, Bool, cond, List, [], ◌∷◌, length, slice_get, Option, Some}
use Rattle.std.proofs.Common.{None, unwrap_or, IfSome, refl, sym, ap, subst, ◌∙◌, inl, inr, arith}
use Rattle.std.proofs.lemmas.Bool.{eq-eqb, ne_eqb}
use Rattle.std.specs.Option.{option_and_then, option_map, option_map_or}
use Rattle.std.proofs.lemmas.Option.{option_and_then_some}
use Rattle.node_tree.specs.Nodes.{Nodes, none, node, Branch, alone, tree_at, width}
use Rattle.node_tree.specs.Keys.{tally}
use Rattle.node_tree.specs.Arena.{Keeps}
use Rattle.node_tree.proofs.KeyLemmas.{tally_row, tally_below, tally_cases}
use Rattle.node_tree.proofs.ChangeLemmas.{tally_in-at}
use Rattle.node_tree.proofs.NodeLemmas.{node_count-map_rows}
use Rattle.node_tree.proofs.ArenaLemmas.{keeps-tree_at}
use Rattle.page_tree.specs.Forms.{max_nodes}
use Rattle.page_tree.specs.Pages.{PageRow, row_serial, row_label, node_at, parent_at}
use Rattle.page_tree.specs.Zippers.{Generation, Zipper, generation_of, serial_of, zipper_of, ancestors_in, in_row, find_zipper, zipper_at}
use Rattle.page_tree.specs.Zippers.{first_node, root_of, earlier, later, parent_of, previous_of, next_of, first_child_of}
use Rattle.page_tree.specs.Arenas.{page_slots, slot_row, slots_in, Stored, slot_of, is_numbered, place_in, branch_in, tree_of, IsPage}
use Rattle.page_tree.specs.Arenas.{IsSlotAt, sibling_keys, sibling_slot}
use Rattle.page_tree.specs.declared.slots.Slot.{Slot}
use Rattle.page_tree.specs.declared.arenas.Arena.{Arena}
use Rattle.page_tree.proofs.EditLemmas.{changed}
use Rattle.page_tree.proofs.PlaceLemmas.{once, located, node_at_is, placed_up}
use Rattle.page_tree.proofs.ArenaSteps.{place_step}
use Rattle.page_tree.proofs.TurnLemmas.{seat, numbered_is}
use Rattle.page_tree.proofs.HangLemmas.{hangs-slot}
use Rattle.page_tree.proofs.ZipperLemmas.{siblings_of, Fits, IsOf, find-of, of-find, of-previous, of-next, of-first_child, branch-found}
use Rattle.page_tree.proofs.ZipperLemmas.{some_times}
use Rattle.page_tree.proofs.SiblingLemmas.{few-siblings, length-earlier_in, live-of, ParentBy, at_top, under, parent_by, parent_at-of}

-- ---- nodes in a row

-- what stands at a place behind those before
at-place : (before : List (Branch PageRow)) (here : Nodes PageRow) (i : ℕ)
    → tree_at (length before + i) (siblings_of before here) ≡ tree_at i here
at-place [] here i = let e : 0 + i ≡ i = omega arith in ap (λ k. tree_at k here) e
at-place (b ∷ before) here i =
    let e : suc (length before) + i ≡ length before + suc i = omega arith in
    ap (λ k. tree_at k (siblings_of before (node b.row b.children here))) e ∙ at-place before (node b.row b.children here) (suc i)

width-siblings : (before : List (Branch PageRow)) (here : Nodes PageRow) → width (siblings_of before here) ≡ length before + width here
width-siblings [] here = omega arith
width-siblings (b ∷ before) here = let h = width-siblings before (node b.row b.children here) in omega arith

tally-siblings : (x : ℕ) (before : List (Branch PageRow)) (here : Nodes PageRow)
    → tally row_serial x here ≤ tally row_serial x (siblings_of before here)
tally-siblings x [] here = omega arith
tally-siblings x (b ∷ before) here =
    let h = tally-siblings x before (node b.row b.children here) in
    let w = tally_below row_serial x b.row b.children here in
    omega arith

-- the place of the first tree of that serial
abbrev place_among : ℕ → Nodes PageRow → ℕ
place_among x none = 0
place_among x (node r c t) = cond {A = ℕ} (r.serial == x) 0 (suc (place_among x t))

-- behind trees that have not the serial
place-siblings : (x : ℕ) (before : List (Branch PageRow)) (here : Nodes PageRow)
    → tally row_serial x (siblings_of before here) ≤ tally row_serial x here
    → place_among x (siblings_of before here) ≡ length before + place_among x here
place-siblings x [] here few = omega arith
place-siblings x (b ∷ before) here few =
    let more = tally-siblings x before (node b.row b.children here) in
    let h = place-siblings x before (node b.row b.children here) (let w = tally_below row_serial x b.row b.children here in omega arith) in
    elim (tally_cases row_serial x b.row b.children here) [
      | inl p ↦ absurd (let e = p.1 in omega arith)
      | inr p ↦ let e = ap (λ (v : Bool). cond {A = ℕ} v 0 (suc (place_among x here))) (ne_eqb b.row.serial x p.0) in omega arith
    ]

place_keeps : (a : Arena) (x : ℕ) (above : Option ℕ) (n : Nodes PageRow) (ks : List ℕ) → Keeps page_slots (slots_in a) n above ks
    → place_in a x ks ≡ place_among x n
place_keeps a x above none [] kept = refl
place_keeps a x above none (k ∷ ks) kept = absurd kept
place_keeps a x above (node r c t) [] kept = absurd kept
place_keeps a x above (node r c t) (k ∷ ks) (slot, at, up, is, below, after) =
    place_step (is_numbered a x k) (r.serial == x) (place_in a x ks) (place_among x t) (numbered_is a x k slot r at is)
    (place_keeps a x above t ks after)

-- the slot at a place, and the tree there
slot_none : (a : Arena) (above : Option ℕ) (n : Nodes PageRow) (ks : List ℕ) (i : ℕ) → Keeps page_slots (slots_in a) n above ks
    → option_and_then (slots_in a) (slice_get ks i) ≡ None → tree_at i n ≡ None
slot_none a above none ks i kept e = refl
slot_none a above (node r c t) [] i kept e = absurd kept
slot_none a above (node r c t) (k ∷ ks) zero (slot, at, up, is, below, after) e = absurd (let clash : None ≡ Some slot = sym e ∙ at in cc)
slot_none a above (node r c t) (k ∷ ks) (suc i) (slot, at, up, is, below, after) e = slot_none a above t ks i after e

pub record SlotAt (a : Arena) (n : Nodes PageRow) (i : ℕ) (slot : Slot) : Type 0 where
  pub key : ℕ
  pub at : slots_in a key ≡ Some slot
  pub branch : Branch PageRow
  pub there : tree_at i n ≡ Some branch
  pub row_is : slot_row slot ≡ branch.row

slot_some : (a : Arena) (above : Option ℕ) (n : Nodes PageRow) (ks : List ℕ) (i : ℕ) (slot : Slot)
    → Keeps page_slots (slots_in a) n above ks → option_and_then (slots_in a) (slice_get ks i) ≡ Some slot → SlotAt a n i slot
slot_some a above n ks i slot kept e =
    option_and_then_some (slots_in a) (slice_get ks i) slot e (λ k key_is at.
    let (b, place, (own, own_at, up, row_is, below, after)) = keeps-tree_at page_slots (slots_in a) n above ks i k kept key_is in
    let same : own ≡ slot = let both : Some own ≡ Some slot = sym own_at ∙ at in cc in
    record { key = k; at = at; branch = b; there = place; row_is = ap (λ (s : Slot). slot_row s) (sym same) ∙ row_is })

-- ---- a zipper by what is above it

-- the trees behind a node
first_none : (n : Nodes PageRow) → tree_at 0 n ≡ None → n ≡ none
first_none none e = refl
first_none (node r c t) e = absurd (cc)

no_width : (n : Nodes PageRow) → width n ≡ 0 → n ≡ none
no_width none e = refl
no_width (node r c t) e = absurd (omega arith)

no_length : (bs : List (Branch PageRow)) → length bs ≡ 0 → bs ≡ []
no_length [] e = refl
no_length (b ∷ bs) e = absurd (omega arith)

top_of : (tree : Branch PageRow) (above : List Generation) (before : List (Branch PageRow)) (b : Branch PageRow) (after : Nodes PageRow)
    → first_node (ancestors_in above) ≡ None → Fits tree above (siblings_of before (node b.row b.children after))
    → (before ≡ []) × (after ≡ none)
top_of tree [] before b after e fits =
    let w = width-siblings before (node b.row b.children after) in
    let one = ap (λ (n : Nodes PageRow). width n) fits in
    (no_length before (omega arith), no_width after (omega arith))
top_of tree (g ∷ above) before b after e fits = absurd (cc)

row_under : (tree : Branch PageRow) (above : List Generation) (row : Nodes PageRow) (p : Zipper) → first_node (ancestors_in above) ≡ Some p
    → Fits tree above row → row ≡ p.branch.children
row_under tree [] row p e fits = absurd (cc)
row_under tree (g ∷ above) row p e fits = let same : zipper_of g above ≡ p = cc in fits.0 ∙ ap (λ (z : Zipper). z.branch.children) same

found_at : (tree : Branch PageRow) (o : Option Zipper) (b : Branch PageRow) → option_map (λ (z : Zipper). z.branch) o ≡ Some b
    → o ≡ Some (unwrap_or o (root_of tree))
found_at tree (Some z) b e = refl
found_at tree None b e = absurd (cc)

-- ---- slots that are seen as zippers

module _ (a : Arena) (root next : ℕ) (page : IsPage a root next) where
  -- the slot is seen as that zipper of the page's tree
  pub record Sits (slot : Slot) (z : Zipper) : Type 0 where
    pub at : slot_of a slot.serial ≡ Some slot
    pub found : find_zipper slot.serial (tree_of a root) ≡ Some z
    pub branch_is : branch_in a slot ≡ z.branch

  pub sits-of : (slot : Slot) (z : Zipper) → Sits slot z → IsOf (tree_of a root) z
  sits-of slot z s = of-find (tree_of a root) slot.serial z s.found

  pub sits-seen : (slot : Slot) (z : Zipper) → Sits slot z → zipper_at slot.serial (tree_of a root) ≡ z
  sits-seen slot z s = ap (λ o. unwrap_or o (root_of (tree_of a root))) s.found

  branch_at : (slot : Slot) (z : Zipper) → slot_of a slot.serial ≡ Some slot → find_zipper slot.serial (tree_of a root) ≡ Some z
      → branch_in a slot ≡ z.branch
  branch_at slot z at found = (hangs-slot a root next page slot.serial slot at).0 ∙ node_at_is a root next page slot.serial z.branch
      (live-of (tree_of a root) slot.serial z found)

  -- each slot of the page is seen as the zipper of its serial
  pub sits : (slot : Slot) → slot_of a slot.serial ≡ Some slot → Sits slot (zipper_at slot.serial (tree_of a root))
  sits slot at =
      let l = located a root next page slot.serial slot at in
      let found = found_at (tree_of a root) (find_zipper slot.serial (tree_of a root)) l.branch
      (sym (branch-found slot.serial [] [] (alone (tree_of a root))) ∙ l.found) in
      record { at = at; found = found; branch_is = branch_at slot (zipper_at slot.serial (tree_of a root)) at found }

  -- and a zipper of the tree is what the slot of its row is seen as
  pub sits_as : (slot : Slot) (k : ℕ) (z : Zipper) → slots_in a k ≡ Some slot → IsOf (tree_of a root) z → slot_row slot ≡ z.branch.row
      → Sits slot z
  sits_as slot k z at of row_is =
      let own = ap (λ (o : Option ℕ). option_and_then (slots_in a) o) (page.arena.files.filed k slot at) ∙ at in
      let found = ap (λ (r : PageRow). find_zipper r.serial (tree_of a root)) row_is ∙ find-of (tree_of a root) page.valid.distinct z of in
      record { at = own; found = found; branch_is = branch_at slot z own found }

  -- the root's slot, which has no parent and no siblings
  pub record IsTop (slot : Slot) (z : Zipper) : Type 0 where
    pub up : slot.parent ≡ None
    pub leads : parent_of z ≡ None
    pub first : z.before ≡ []
    pub last : z.after ≡ none

  -- any other slot, with that of its parent
  pub record IsUnder (slot : Slot) (z : Zipper) : Type 0 where
    pub key : ℕ
    pub over : Slot
    pub up : slot.parent ≡ Some key
    pub over_at : slots_in a key ≡ Some over
    pub parent : Zipper
    pub leads : parent_of z ≡ Some parent
    pub sits_over : Sits over parent
    pub kept : Stored a (siblings_of z.before (node z.branch.row z.branch.children z.after)) (Some key) over.children
    pub once_there : (x : ℕ) → tally row_serial x (siblings_of z.before (node z.branch.row z.branch.children z.after)) ≤ 1

  module _ (slot : Slot) (z : Zipper) (s : Sits slot z) where
    not_zero : (p : Zipper) → find_zipper (serial_of p) (tree_of a root) ≡ Some p → 1 ≤ serial_of p
    not_zero p found = page.valid.least (serial_of p) (some_times (tree_of a root) p found)

    by : ParentBy (tree_of a root) z (parent_at slot.serial (tree_of a root))
    by = subst (ParentBy (tree_of a root) z) (sym (parent_at-of (tree_of a root) slot.serial z s.found))
        (parent_by (tree_of a root) page.valid.distinct z (sits-of slot z s))

    pub seated : IsTop slot z ⊎ IsUnder slot z
    seated = elim (placed_up a root next page slot.serial slot s.at) [
      | inl top ↦ elim by [
        | at_top is leads ↦
            let ends = top_of (tree_of a root) z.above z.before z.branch z.after leads (sits-of slot z s) in
            inl (record { up = top.up; leads = leads; first = ends.0; last = ends.1 })
        | under p leads same found ↦ absurd
            (let more = not_zero p (subst (λ (x : ℕ). find_zipper x (tree_of a root) ≡ Some p)
            (sym same) found) in let e = top.parent_is in omega arith)
      ]
      | inr low ↦ elim by [
        | at_top is leads ↦
            let l = located a root next page low.over.serial low.over low.over_is in
            absurd (let there = l.there in let e = low.parent_is in let more = page.valid.least low.over.serial
            (omega arith) in omega arith)
        | under p leads same found ↦
            let serial_is = low.parent_is in
            let over_found = subst (λ (x : ℕ). find_zipper x (tree_of a root) ≡ Some p) serial_is found in
            let q = seat a root next page low.over.serial low.over low.over_is in
            let same_key : q.key ≡ low.key = let both : Some q.key
            ≡ Some low.key = sym q.key_is ∙ page.arena.files.filed low.key low.over low.over_at in cc in
            let branch_is = node_at_is a root next page low.over.serial p.branch (live-of (tree_of a root) low.over.serial p over_found) in
            let row_is = row_under (tree_of a root) z.above _ p leads (sits-of slot z s) in
            let whole = ap (λ (b : Branch PageRow). b.children) branch_is ∙ sym row_is in
            inr (record {
              key = low.key;
              over = low.over;
              up = low.up;
              over_at = low.over_at;
              parent = p;
              leads = leads;
              sits_over = record { at = low.over_is; found = over_found; branch_is = branch_at low.over p low.over_is over_found };
              kept = subst (λ (n : Nodes PageRow). Stored a n (Some low.key) low.over.children) whole
                  (subst (λ (k : ℕ). Stored a (node_at low.over.serial (tree_of a root)).children
                  (Some k) low.over.children) same_key q.below);
              once_there = λ x. subst (λ (n : Nodes PageRow). tally row_serial x n ≤ 1) whole
                  (let within = tally_in-at row_serial x
                  (changed low.over.serial (λ b. b) (tree_of a root) q.live).1 in let o = once a root next page x in omega arith);
            })
      ]
    ]

    -- ---- up

    pub parent-none : slot.parent ≡ None → None ≡ parent_of z
    parent-none e = elim seated [
      | inl top ↦ sym top.leads
      | inr low ↦ absurd (let clash : None ≡ Some low.key = sym e ∙ low.up in cc)
    ]

    pub parent-there : (k : ℕ) → slot.parent ≡ Some k → slots_in a k ≡ None → ⊥
    parent-there k e gone = elim seated [
      | inl top ↦ (let clash : None ≡ Some k = sym top.up ∙ e in absurd (cc))
      | inr low ↦ (let same : Some low.key ≡ Some k = sym low.up ∙ e in let key_is : low.key ≡ k = cc in let clash : None
          ≡ Some low.over = sym gone ∙ ap (λ (j : ℕ). slots_in a j) (sym key_is) ∙ low.over_at in absurd (cc))
    ]

    -- where a step leads
    pub record Steps (to : Slot) (place : ℕ) (o : Option Zipper) : Type 0 where
      pub zipper : Zipper
      pub leads : o ≡ Some zipper
      pub sits_there : Sits to zipper
      pub place_is : place ≡ length zipper.before

    pub parent-some : (k : ℕ) (over : Slot) → slot.parent ≡ Some k → slots_in a k ≡ Some over
        → (p : Zipper) × (parent_of z ≡ Some p) × Sits over p
    parent-some k over e at = elim seated [
      | inl top ↦ (let clash : None ≡ Some k = sym top.up ∙ e in absurd (cc))
      | inr low ↦
          let both : Some low.key ≡ Some k = sym low.up ∙ e in
          let key_is : low.key ≡ k = cc in
          let both_over : Some low.over ≡ Some over = sym low.over_at ∙ ap (λ (j : ℕ). slots_in a j) key_is ∙ at in
          let same : low.over ≡ over = cc in
          (low.parent, low.leads, subst (λ (t : Slot). Sits t low.parent) same low.sits_over)
    ]

    -- ---- beside

    keys_under : (low : IsUnder slot z) → sibling_keys a slot ≡ low.over.children
    keys_under low = ap (λ (o : Option ℕ). option_map_or (λ (t : Slot). t.children) (option_and_then (slots_in a) o) []) low.up ∙ ap
        (λ (o : Option Slot). option_map_or (λ (t : Slot). t.children) o []) low.over_at

    keys_top : (top : IsTop slot z) → sibling_keys a slot ≡ []
    keys_top top = ap (λ (o : Option ℕ). option_map_or (λ (t : Slot). t.children) (option_and_then (slots_in a) o) []) top.up

    serial_is : slot.serial ≡ z.branch.row.serial
    serial_is = ap (λ (b : Branch PageRow). b.row.serial) s.branch_is

    pub place-of : place_in a slot.serial (sibling_keys a slot) ≡ length z.before
    place-of = elim seated [
      | inl top ↦ ap (λ (ks : List ℕ). place_in a slot.serial ks) (keys_top top) ∙ sym
          (ap (λ (l : List (Branch PageRow)). length l) top.first)
      | inr low ↦
          let here : Nodes PageRow = node z.branch.row z.branch.children z.after in
          let own = tally_row row_serial slot.serial z.branch.row z.branch.children z.after (sym serial_is) in
          let all = low.once_there slot.serial in
          let place = place-siblings slot.serial z.before here (omega arith) in
          let first = ap (λ (v : Bool). cond {A = ℕ} v 0 (suc (place_among slot.serial z.after)))
          (eq-eqb z.branch.row.serial slot.serial (sym serial_is)) in
          ap (λ (ks : List ℕ). place_in a slot.serial ks) (keys_under low) ∙ place_keeps a slot.serial
          (Some low.key) _ low.over.children low.kept ∙ omega arith
    ]

    at_none : (low : IsUnder slot z) (i : ℕ) → sibling_slot a slot i ≡ None
        → tree_at i (siblings_of z.before (node z.branch.row z.branch.children z.after)) ≡ None
    at_none low i e = slot_none a (Some low.key) _ low.over.children i low.kept
        (ap (λ (ks : List ℕ). option_and_then (slots_in a) (slice_get ks i)) (sym (keys_under low)) ∙ e)

    at_some : (low : IsUnder slot z) (i : ℕ) (t : Slot) → sibling_slot a slot i ≡ Some t
        → SlotAt a (siblings_of z.before (node z.branch.row z.branch.children z.after)) i t
    at_some low i t e = slot_some a (Some low.key) _ low.over.children i t low.kept
        (ap (λ (ks : List ℕ). option_and_then (slots_in a) (slice_get ks i)) (sym (keys_under low)) ∙ e)

    top_alone : (top : IsTop slot z) (i : ℕ) (t : Slot) → sibling_slot a slot i ≡ Some t → ⊥
    top_alone top i t e = let clash : None
        ≡ Some t = ap (λ (ks : List ℕ). option_and_then (slots_in a) (slice_get ks i)) (sym (keys_top top)) ∙ e in absurd (cc)

    pub next-none : (i : ℕ) → i ≡ length z.before + 1 → sibling_slot a slot i ≡ None → None ≡ next_of z
    next-none i is e = elim seated [
      | inl top ↦ sym (ap (λ (n : Nodes PageRow). next_of (record z { after = n })) top.last)
      | inr low ↦
          let gone = sym (at-place z.before (node z.branch.row z.branch.children z.after) 1) ∙ ap
          (λ k. tree_at k (siblings_of z.before (node z.branch.row z.branch.children z.after))) (sym is) ∙ at_none low i e in
          sym (ap (λ (n : Nodes PageRow). next_of (record z { after = n })) (first_none z.after gone))
    ]

    next_to : (n : Nodes PageRow) (b : Branch PageRow) → n ≡ z.after → tree_at 0 n ≡ Some b
        → (to : Zipper) × (next_of z ≡ Some to) × (to.branch ≡ b) × (to.before ≡ z.branch ∷ z.before)
    next_to none b is e = absurd (cc)
    next_to (node r c t) b is e =
        let same : ◌≡◌ {A = Branch PageRow} (record { row = r; children = c }) b = cc in (
          record { branch = record { row = r; children = c }; before = z.branch ∷ z.before; after = t; above = z.above },
          ap
              (λ (n : Nodes PageRow). next_of (record z { after = n })) (sym is),
          same,
          refl,
        )

    pub next-some : (i : ℕ) (t : Slot) → i ≡ length z.before + 1 → sibling_slot a slot i ≡ Some t → Steps t i (next_of z)
    next-some i t is e = elim seated [
      | inl top ↦ absurd (top_alone top i t e)
      | inr low ↦
          let q = at_some low i t e in
          let there = sym (at-place z.before (node z.branch.row z.branch.children z.after) 1) ∙ ap
          (λ k. tree_at k (siblings_of z.before (node z.branch.row z.branch.children z.after))) (sym is) ∙ q.there in
          let (to, leads, branch_is, before_is) = next_to z.after q.branch refl there in
          let long = ap (λ (l : List (Branch PageRow)). length l) before_is in
          record {
            zipper = to;
            leads = leads;
            sits_there = sits_as t q.key to q.at (of-next (tree_of a root) z to (sits-of slot z s) leads)
                (q.row_is ∙ ap (λ (b : Branch PageRow). b.row) (sym branch_is));
            place_is = omega arith;
          }
    ]

    pub previous-none : length z.before ≡ 0 → None ≡ previous_of z
    previous-none e = sym (ap (λ (l : List (Branch PageRow)). previous_of (record z { before = l })) (no_length z.before e))

    previous_to : (bs : List (Branch PageRow)) (b : Branch PageRow) (i : ℕ) → bs ≡ z.before → suc i ≡ length bs
        → tree_at i (siblings_of bs (node z.branch.row z.branch.children z.after)) ≡ Some b
        → (to : Zipper) × (previous_of z ≡ Some to) × (to.branch ≡ b) × (i ≡ length to.before)
    previous_to [] b i is long e = absurd (omega arith)
    previous_to (d ∷ bs) b i is long e =
        let there = sym (at-place bs (node d.row d.children (node z.branch.row z.branch.children z.after)) 0) ∙ ap
        (λ k. tree_at k (siblings_of bs (node d.row d.children (node z.branch.row z.branch.children z.after))))
        (let at : length bs + 0 ≡ i = omega arith in at) ∙ e in
        let same : d ≡ b = let both : Some d ≡ Some b = there in cc in (
          record { branch = d; before = bs; after = node z.branch.row z.branch.children z.after; above = z.above },
          ap (λ (l : List (Branch PageRow)). previous_of (record z { before = l })) (sym is),
          same,
          omega arith,
        )

    previous_back : (bs : List (Branch PageRow)) (i : ℕ) → suc i ≡ length bs
        → tree_at i (siblings_of bs (node z.branch.row z.branch.children z.after)) ≡ None → ⊥
    previous_back [] i long e = absurd (omega arith)
    previous_back (d ∷ bs) i long e =
        let there = sym (at-place bs (node d.row d.children (node z.branch.row z.branch.children z.after)) 0) ∙ ap
        (λ k. tree_at k (siblings_of bs (node d.row d.children (node z.branch.row z.branch.children z.after))))
        (let at : length bs + 0 ≡ i = omega arith in at) ∙ e in
        let clash : Some d ≡ None = there in absurd (cc)

    pub previous-there : (i : ℕ) → suc i ≡ length z.before → sibling_slot a slot i ≡ None → ⊥
    previous-there i long e = elim seated [
      | inl top ↦ absurd (let none_before = ap (λ (l : List (Branch PageRow)). length l) top.first in omega arith)
      | inr low ↦ previous_back z.before i long (at_none low i e)
    ]

    pub previous-some : (i : ℕ) (t : Slot) → suc i ≡ length z.before → sibling_slot a slot i ≡ Some t → Steps t i (previous_of z)
    previous-some i t long e = elim seated [
      | inl top ↦ absurd (top_alone top i t e)
      | inr low ↦
          let q = at_some low i t e in
          let (to, leads, branch_is, place_is) = previous_to z.before q.branch i refl long q.there in
          record {
            zipper = to;
            leads = leads;
            sits_there = sits_as t q.key to q.at (of-previous (tree_of a root) z to (sits-of slot z s) leads)
                (q.row_is ∙ ap (λ (b : Branch PageRow). b.row) (sym branch_is));
            place_is = place_is;
          }
    ]

    -- ---- below

    own_below : (k : ℕ) × Stored a z.branch.children (Some k) slot.children
    own_below =
        let q = seat a root next page slot.serial slot s.at in
        let branch_is = node_at_is a root next page slot.serial z.branch (live-of (tree_of a root) slot.serial z s.found) in
        (q.key, subst (λ (b : Branch PageRow). Stored a b.children (Some q.key) slot.children) branch_is q.below)

    child_to : (n : Nodes PageRow) (b : Branch PageRow) → n ≡ z.branch.children → tree_at 0 n ≡ Some b
        → (to : Zipper) × (first_child_of z ≡ Some to) × (to.branch ≡ b) × (to.before ≡ [])
    child_to none b is e = absurd (cc)
    child_to (node r c t) b is e =
        let same : ◌≡◌ {A = Branch PageRow} (record { row = r; children = c }) b = cc in (
          record { branch = record { row = r; children = c }; before = []; after = t; above = generation_of z ∷ z.above },
          ap
              (λ (n : Nodes PageRow). first_node (in_row (generation_of z ∷ z.above) [] n)) (sym is),
          same,
          refl,
        )

    pub child-none : option_and_then (slots_in a) (slice_get slot.children 0) ≡ None → None ≡ first_child_of z
    child-none e =
        let (k, kept) = own_below in
        sym (ap (λ (n : Nodes PageRow). first_node (in_row (generation_of z ∷ z.above) [] n))
        (first_none z.branch.children (slot_none a (Some k) z.branch.children slot.children 0 kept e)))

    pub child-some : (t : Slot) → option_and_then (slots_in a) (slice_get slot.children 0) ≡ Some t → Steps t 0 (first_child_of z)
    child-some t e =
        let (k, kept) = own_below in
        let q = slot_some a (Some k) z.branch.children slot.children 0 t kept e in
        let (to, leads, branch_is, before_is) = child_to z.branch.children q.branch refl q.there in
        record {
          zipper = to;
          leads = leads;
          sits_there = sits_as t q.key to q.at (of-first_child (tree_of a root) z to (sits-of slot z s) leads)
              (q.row_is ∙ ap (λ (b : Branch PageRow). b.row) (sym branch_is));
          place_is = sym (ap (λ (l : List (Branch PageRow)). length l) before_is);
        }

-- ---- cursors

-- a cursor at that slot, and what it is seen as
pub record Lands (a : Arena) (root : ℕ) (slot : Slot) (place : Option ℕ) (o : Option Zipper) : Type 0 where
  pub seated : IsSlotAt a root slot place
  pub seen : Some (zipper_at slot.serial (tree_of a root)) ≡ o

module _ (a : Arena) (root : ℕ) (slot : Slot) (place : Option ℕ) (s : IsSlotAt a root slot place) where
  abbrev seen_as : Zipper
  seen_as = zipper_at slot.serial (tree_of a root)

  own : Sits a root s.next s.page slot seen_as
  own = sits a root s.next s.page slot s.at

  pub seat-row : slot_row slot ≡ seen_as.branch.row
  seat-row = ap (λ (b : Branch PageRow). b.row) own.branch_is

  pub seat-few : (length (earlier seen_as) < max_nodes) × (length (later seen_as) < max_nodes) × (length seen_as.before < max_nodes)
  seat-few =
      let few = few-siblings (tree_of a root) seen_as (sits-of a root s.next s.page slot seen_as own) in
      let before = length-earlier_in seen_as.above seen_as.before (node seen_as.branch.row seen_as.branch.children seen_as.after) in
      let room = s.page.valid.nodes.room in
      let rows = node_count-map_rows row_label (tree_of a root).children in
      (omega arith, omega arith, omega arith)

  pub seat-place : place_in a slot.serial (sibling_keys a slot) ≡ length seen_as.before
  seat-place = place-of a root s.next s.page slot seen_as own

  pub seat-known : (i : ℕ) → place ≡ Some i → i ≡ length seen_as.before
  seat-known i e = subst (λ (o : Option ℕ). IfSome o (λ j. j ≡ length seen_as.before)) e s.place_is

  landed : (to : Slot) (o : Option Zipper) (z : Zipper) → o ≡ Some z → Sits a root s.next s.page to z → (p : Option ℕ)
      → IfSome p (λ i. i ≡ length z.before) → Lands a root to p o
  landed to o z leads there p known =
      let seen = sits-seen a root s.next s.page to z there in
      record {
        seated = record {
          next = s.next;
          page = s.page;
          at = there.at;
          place_is = subst (λ (w : Zipper). IfSome p (λ i. i ≡ length w.before)) (sym seen) known;
        };
        seen = ap (λ (w : Zipper). Some w) seen ∙ sym leads;
      }

  pub up-none : slot.parent ≡ None → None ≡ parent_of seen_as
  up-none e = parent-none a root s.next s.page slot seen_as own e

  pub up-there : (k : ℕ) → slot.parent ≡ Some k → slots_in a k ≡ None → ⊥
  up-there k e gone = parent-there a root s.next s.page slot seen_as own k e gone

  pub up-lands : (k : ℕ) (over : Slot) → slot.parent ≡ Some k → slots_in a k ≡ Some over → Lands a root over None (parent_of seen_as)
  up-lands k over e at = let (p, leads, there) = parent-some a root s.next s.page slot seen_as own k over e at in landed over
      (parent_of seen_as) p leads there None tt

  pub on-none : (i : ℕ) → i ≡ length seen_as.before → sibling_slot a slot (i + 1) ≡ None → None ≡ next_of seen_as
  on-none i is e = next-none a root s.next s.page slot seen_as own (i + 1) (ap (λ k. k + 1) is) e

  pub on-lands : (i : ℕ) (t : Slot) → i ≡ length seen_as.before → sibling_slot a slot (i + 1) ≡ Some t
      → Lands a root t (Some (i + 1)) (next_of seen_as)
  on-lands i t is e = let q = next-some a root s.next s.page slot seen_as own (i + 1) t (ap (λ k. k + 1) is) e in landed t
      (next_of seen_as) q.zipper q.leads q.sits_there (Some (i + 1)) q.place_is

  pub back-none : (i : ℕ) → i ≡ length seen_as.before → i ≡ 0 → None ≡ previous_of seen_as
  back-none i is none_before = previous-none a root s.next s.page slot seen_as own (sym is ∙ none_before)

  pub back-there : (i : ℕ) → i ≡ length seen_as.before → (i ≡ 0 → ⊥) → sibling_slot a slot (i - 1) ≡ None → ⊥
  back-there i is some e = previous-there a root s.next s.page slot seen_as own (i - 1) (omega arith) e

  pub back-lands : (i : ℕ) (t : Slot) → i ≡ length seen_as.before → (i ≡ 0 → ⊥) → sibling_slot a slot (i - 1) ≡ Some t
      → Lands a root t (Some (i - 1)) (previous_of seen_as)
  back-lands i t is some e = let q = previous-some a root s.next s.page slot seen_as own (i - 1) t (omega arith) e in landed t
      (previous_of seen_as) q.zipper q.leads q.sits_there (Some (i - 1)) q.place_is

  pub down-none : option_and_then (slots_in a) (slice_get slot.children 0) ≡ None → None ≡ first_child_of seen_as
  down-none e = child-none a root s.next s.page slot seen_as own e

  pub down-lands : (t : Slot) → option_and_then (slots_in a) (slice_get slot.children 0) ≡ Some t
      → Lands a root t (Some 0) (first_child_of seen_as)
  down-lands t e = let q = child-some a root s.next s.page slot seen_as own t e in landed t
      (first_child_of seen_as) q.zipper q.leads q.sits_there (Some 0) q.place_is
