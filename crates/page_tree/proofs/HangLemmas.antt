-- Trees that hang in slots, for cursors.
use Rattle.std.proofs.Common.{◌≡◌, ℕ, zero, suc, ◌≤◌, List, length, slice_get, Option, Some, None, sym, ap, subst, ◌∙◌, arith}
use Rattle.node_tree.specs.Nodes.{Nodes, none, node, Branch, tree_at, width, height}
use Rattle.node_tree.proofs.ArenaLemmas.{kept_trees-keeps, keeps-width, keeps-tree_at}
use Rattle.node_tree.proofs.KeyLemmas.{height_above-at}
use Rattle.node_tree.proofs.ChangeLemmas.{at-old}
use Rattle.node_tree.proofs.NodeLemmas.{height-map_rows}
use Rattle.node_tree.specs.Levels.{max_level}
use Rattle.page_tree.specs.Pages.{PageRow, row_label, node_at}
use Rattle.page_tree.specs.Arenas.{page_slots, slot_row, slots_in, Stored, slot_of, trees_in, branch_in, Hangs, tree_of, IsPage}
use Rattle.page_tree.specs.declared.slots.Slot.{Slot}
use Rattle.page_tree.specs.declared.arenas.Arena.{Arena}
use Rattle.page_tree.proofs.TurnLemmas.{seat}
use Rattle.page_tree.proofs.EditLemmas.{changed}

pub branch_same : (r s : PageRow) (c d : Nodes PageRow) → r ≡ s → c ≡ d
    → ◌≡◌ {A = Branch PageRow} (record { row = r; children = c }) (record { row = s; children = d })
branch_same r s c d p q = cc

-- a tree among others has fewer levels below it
height-tree_at : (n : Nodes PageRow) (i : ℕ) (b : Branch PageRow) → tree_at i n ≡ Some b → suc (height b.children) ≤ height n
height-tree_at none i b e = absurd (cc)
height-tree_at (node r c t) zero b e = let same : ◌≡◌ {A = Branch PageRow} (record { row = r; children = c }) b = cc in let h = ap
    (λ (y : Branch PageRow). height y.children) same in omega arith
height-tree_at (node r c t) (suc i) b e = let h = height-tree_at t i b e in omega arith

module _ (a : Arena) where
  pub trees_in-keeps : (n : Nodes PageRow) (above : Option ℕ) (ks : List ℕ) → Stored a n above ks → height n ≤ suc max_level
      → trees_in a ks ≡ n
  unfolding trees_in
  trees_in-keeps n above ks kept low = kept_trees-keeps page_slots (slots_in a) (suc max_level) n above ks kept low

  pub hangs : (n : Nodes PageRow) (above : Option ℕ) (ks : List ℕ) → Stored a n above ks → height n ≤ suc max_level → Hangs a ks
  hangs n above ks kept low =
      let same = sym (trees_in-keeps n above ks kept low) in
      record {
        above = above;
        stands = subst (λ (m : Nodes PageRow). Stored a m above ks) same kept;
        low = subst (λ (m : Nodes PageRow). height m ≤ suc max_level) same low;
      }

  pub hangs-width : (ks : List ℕ) → Hangs a ks → length ks ≡ width (trees_in a ks)
  hangs-width ks h = sym (keeps-width page_slots (slots_in a) (trees_in a ks) h.above ks h.stands)

  -- the slot of one of the keys
  pub record Hung (ks : List ℕ) (i k : ℕ) : Type 0 where
    pub slot : Slot
    pub at : slots_in a k ≡ Some slot
    pub is : tree_at i (trees_in a ks) ≡ Some (branch_in a slot)
    pub below : Hangs a slot.children

  pub hung : (ks : List ℕ) (i k : ℕ) → Hangs a ks → slice_get ks i ≡ Some k → Hung ks i k
  hung ks i k h e =
      let (b, place, (slot, at, up, row_is, below, after)) = keeps-tree_at page_slots (slots_in a)
      (trees_in a ks) h.above ks i k h.stands e in
      let low = h.low in
      let fewer = height-tree_at (trees_in a ks) i b place in
      let few : height b.children ≤ suc max_level = omega arith in
      record {
        slot = slot;
        at = at;
        is = place ∙ ap (λ (y : Branch PageRow). Some y)
            (branch_same b.row (slot_row slot) b.children (trees_in a slot.children) (sym row_is)
            (sym (trees_in-keeps b.children (Some k) slot.children below few)));
        below = hangs b.children (Some k) slot.children below few;
      }

  pub hung-there : (ks : List ℕ) (i k : ℕ) → Hangs a ks → slice_get ks i ≡ Some k → slots_in a k ≡ None → ⊥
  hung-there ks i k h e gone = let q = hung ks i k h e in let clash : None ≡ Some q.slot = sym gone ∙ q.at in absurd (cc)

  pub hung-is : (ks : List ℕ) (i k : ℕ) (slot : Slot) → Hangs a ks → slice_get ks i ≡ Some k → slots_in a k ≡ Some slot
      → (tree_at i (trees_in a ks) ≡ Some (branch_in a slot)) × Hangs a slot.children
  hung-is ks i k slot h e at =
      let q = hung ks i k h e in
      let same : q.slot ≡ slot = let both : Some q.slot ≡ Some slot = sym q.at ∙ at in cc in
      (q.is ∙ ap (λ (s : Slot). Some (branch_in a s)) same, subst (λ (s : Slot). Hangs a s.children) same q.below)

-- a slot of a page
module _ (a : Arena) (root next : ℕ) (page : IsPage a root next) where
  pub hangs-slot : (x : ℕ) (slot : Slot) → slot_of a x ≡ Some slot → (branch_in a slot ≡ node_at x (tree_of a root)) × Hangs a slot.children
  hangs-slot x slot e =
      let s = seat a root next page x slot e in
      let h = page.valid.nodes.levels in
      let r = height-map_rows row_label (tree_of a root).children in
      let d = height_above-at (at-old (changed x (λ b. b) (tree_of a root) s.live).1) in
      let few : height (node_at x (tree_of a root)).children ≤ suc max_level = omega arith in
      let below = (node_at x (tree_of a root)).children in (
        branch_same (slot_row slot) (node_at x (tree_of a root)).row (trees_in a slot.children) below s.row_is
            (trees_in-keeps a below (Some s.key) slot.children s.below few),
        hangs a below (Some s.key) slot.children s.below few,
      )

  pub hangs-root : (slot : Slot) → slots_in a root ≡ Some slot → (branch_in a slot ≡ tree_of a root) × Hangs a slot.children
  hangs-root slot e =
      let (s, at, up, row_is, below, after) = page.arena.stands in
      let same : s ≡ slot = let both : Some s ≡ Some slot = sym at ∙ e in cc in
      let h = page.valid.nodes.levels in
      let r = height-map_rows row_label (tree_of a root).children in
      let few : height (tree_of a root).children ≤ suc max_level = omega arith in
      let is : branch_in a s ≡ tree_of a root = branch_same (slot_row s) (tree_of a root).row (trees_in a s.children)
      (tree_of a root).children row_is (trees_in-keeps a (tree_of a root).children (Some root) s.children below few) in (
        subst (λ (z : Slot). branch_in a z ≡ tree_of a root) same is,
        subst (λ (z : Slot). Hangs a z.children) same
            (hangs a (tree_of a root).children (Some root) s.children below few),
      )
