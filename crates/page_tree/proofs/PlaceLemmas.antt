-- Nodes of a page by the slots that keep them.
use Rattle.std.proofs.Common.{◌≡◌, ◌⊎◌, ℕ, zero, suc, ◌+◌, ◌<◌, ◌≤◌, ◌==◌, Bool, true, false, cond, [], ◌∷◌, length, slice_get, Option}
use Rattle.std.proofs.Common.{Some, None, is_some, IsSome, option_map, refl, sym, ap, subst, ◌∙◌, inl, inr, arith}
use Rattle.std.specs.Option.{option_and_then, unwrap_or}
use Rattle.std.proofs.lemmas.Option.{option_and_then_some}
use Rattle.node_tree.specs.Nodes.{Nodes, none, node, Branch, alone, tree_at, width, height}
use Rattle.node_tree.specs.Keys.{first_of, level_of}
use Rattle.node_tree.specs.Arena.{times, Keeps, IsArena}
use Rattle.node_tree.proofs.NodeLemmas.{height-map_rows}
use Rattle.node_tree.proofs.ArenaLemmas.{kept_trees-keeps, keeps-width, keeps-tree_at, keeps-up, IsAtKey, key-find, find-key}
use Rattle.node_tree.specs.Levels.{max_level}
use Rattle.page_tree.specs.Pages.{PageRow, row_serial, row_label, IsValid, find_in, node_at, parent_at, level_at}
use Rattle.page_tree.specs.Arenas.{page_slots, slot_row, slots_in, keys_in, Filed, Stored, Fresh, Grown, slot_of, climbed, first_tree}
use Rattle.page_tree.specs.Arenas.{tree_of, IsPage, Looks}
use Rattle.page_tree.specs.declared.slots.Slot.{Slot}
use Rattle.page_tree.specs.declared.arenas.Arena.{Arena}

level_cases : (P : Type 0) (v : Bool) (h l : ℕ) (f g : Option ℕ) → cond v (Some h) (first_of f g) ≡ Some l → (h ≡ l → P) → (f ≡ Some l → P)
    → (g ≡ Some l → P) → P
level_cases P true h l f g e here below after = here (cc)
level_cases P false h l (Some y) g e here below after = below e
level_cases P false h l None g e here below after = after e

-- a level is below the height
level_of-low : (x level : ℕ) (n : Nodes PageRow) (l : ℕ) → level_of row_serial x level n ≡ Some l → l < level + height n
level_of-low x level none l e = absurd (cc)
level_of-low x level (node r c t) l e =
    level_cases (l < level + height (node r c t)) (r.serial == x) level l (level_of row_serial x (suc level) c)
    (level_of row_serial x level t) e
    (λ same. omega arith)
    (λ f. let h = level_of-low x (suc level) c l f in omega arith)
    (λ f. let h = level_of-low x level t l f in omega arith)

climbed_none : (a : Arena) (levels : ℕ) → climbed a levels None ≡ 0
climbed_none a zero = refl
climbed_none a (suc levels) = refl

pub climbed_lost : (a : Arena) (levels k : ℕ) → 0 < levels → slots_in a k ≡ None → 1 ≡ climbed a levels (Some k)
climbed_lost a zero k some e = absurd (omega arith)
climbed_lost a (suc levels) k some e = sym
    (ap (λ (o : Option Slot). suc (climbed a levels (option_and_then (λ (s : Slot). s.parent) o))) e ∙ ap suc (climbed_none a levels))

-- a tree that the slots keep is the page's
module _ (a : Arena) (root next : ℕ) (tree : Branch PageRow) (arena : IsArena page_slots (slots_in a) (keys_in a) root tree)
    (valid : IsValid (record { tree = tree; next = next })) where
  low : height (alone tree) ≤ suc max_level
  low = let h = valid.nodes.levels in let e = height-map_rows row_label tree.children in omega arith

  pub tree_is : tree_of a root ≡ tree
  unfolding tree_of
  tree_is = ap first_tree (kept_trees-keeps page_slots (slots_in a) (suc max_level) (alone tree) None (root ∷ []) arena.stands low)

  pub rebuilt : IsPage a root next
  rebuilt =
      record {
        arena = subst (λ (t : Branch PageRow). IsArena page_slots (slots_in a) (keys_in a) root t) (sym tree_is) arena;
        valid = subst (λ (t : Branch PageRow). IsValid (record { tree = t; next = next })) (sym tree_is) valid;
      }

-- ---- readers

module _ (a : Arena) (root next : ℕ) (page : IsPage a root next) where
  pub once : (x : ℕ) → times page_slots x (alone (tree_of a root)) ≤ 1
  once x = let d = page.valid.distinct x in omega arith

  at_slot : (x k : ℕ) (b : Branch PageRow) → IsAtKey page_slots (slots_in a) (keys_in a) k x b
      → (slot : Slot) × (slot_of a x ≡ Some slot) × (slot_row slot ≡ b.row) × (length slot.children ≡ width b.children)
  at_slot x k b is =
      let (slot, at, up, row_is, below, after) = is.stands in (
        slot,
        ap (λ (o : Option ℕ). option_and_then (slots_in a) o) is.key_is ∙ at,
        row_is,
        sym
            (keeps-width page_slots (slots_in a) b.children (Some k) slot.children below),
      )

  pub looks : (x : ℕ) → Looks (slot_of a x) (find_in x (tree_of a root))
  looks x =
      (elim (find_in x (tree_of a root)) as (λ f. find_in x (tree_of a root) ≡ f → Looks (slot_of a x) f) [
        | Some b ↦ λ e.
            let (k, is) = key-find page_slots (slots_in a) (keys_in a) root (tree_of a root) page.arena x b e in
            let (slot, at, row_is, length_is) = at_slot x k b is in
            subst (λ (o : Option Slot). Looks o (Some b)) (sym at) (b, refl, row_is, length_is)
        | None ↦ λ e.
            (elim (keys_in a x) as (λ o. keys_in a x ≡ o → Looks (option_and_then (slots_in a) o) None) [
              | None ↦ λ f. refl
              | Some k ↦ λ f.
                  let (b, found, is) = find-key page_slots (slots_in a) (keys_in a) root (tree_of a root) page.arena x k f in
                  absurd (let clash : None ≡ Some b = sym e ∙ found in cc)
            ]) refl
      ]) refl

  -- where a serial's slot is, and what it keeps
  pub record Located (x : ℕ) (slot : Slot) : Type 0 where
    pub key : ℕ
    pub key_is : keys_in a x ≡ Some key
    pub at : slots_in a key ≡ Some slot
    pub serial_is : slot.serial ≡ x
    pub branch : Branch PageRow
    pub found : find_in x (tree_of a root) ≡ Some branch
    pub row_is : slot_row slot ≡ branch.row
    pub below : Keeps page_slots (slots_in a) branch.children (Some key) slot.children
    pub there : 0 < times page_slots x (alone (tree_of a root))

  located_key : (x k : ℕ) (slot : Slot) → keys_in a x ≡ Some k → slots_in a k ≡ Some slot → Located x slot
  located_key x k slot key_is at =
      let (b, found, is) = find-key page_slots (slots_in a) (keys_in a) root (tree_of a root) page.arena x k key_is in
      let (slot2, at2, up, row_is, below, after) = is.stands in
      let same : slot2 ≡ slot = let both : Some slot2 ≡ Some slot = sym at2 ∙ at in cc in
      let (slot3, at3, serial_is) = page.arena.files.found x k key_is in
      let same3 : slot3 ≡ slot = let both : Some slot3 ≡ Some slot = sym at3 ∙ at in cc in
      let is_x : slot.serial ≡ x = sym (ap (λ (s : Slot). s.serial) same3) ∙ serial_is in
      record {
        key = k;
        key_is = key_is;
        at = at;
        serial_is = is_x;
        branch = b;
        found = found;
        row_is = subst (λ (s : Slot). slot_row s ≡ b.row) same row_is;
        below = subst (λ (s : Slot). Keeps page_slots (slots_in a) b.children (Some k) s.children) same below;
        there = subst (λ (y : ℕ). 0 < times page_slots y (alone (tree_of a root))) is_x (page.arena.reached k slot at);
      }

  pub located : (x : ℕ) (slot : Slot) → slot_of a x ≡ Some slot → Located x slot
  located x slot e = option_and_then_some (slots_in a) (keys_in a x) slot e (λ k key_is at. located_key x k slot key_is at)

  pub node_at_is : (x : ℕ) (b : Branch PageRow) → find_in x (tree_of a root) ≡ Some b → node_at x (tree_of a root) ≡ b
  node_at_is x b e = ap (λ (o : Option (Branch PageRow)). unwrap_or o (tree_of a root)) e

  -- a child at a place of the list
  pub child_is : (x : ℕ) (slot : Slot) (i k : ℕ) → slot_of a x ≡ Some slot → slice_get slot.children i ≡ Some k
      → (child : Slot) × (slots_in a k ≡ Some child)
      × (option_map (λ (b : Branch PageRow). b.row.serial) (tree_at i (node_at x (tree_of a root)).children) ≡ Some child.serial)
  child_is x slot i k e at =
      let l = located x slot e in
      let (b, place, (child, child_at, up, row_is, below, after)) = keeps-tree_at page_slots (slots_in a) l.branch.children
      (Some l.key) slot.children i k l.below at in (
        child,
        child_at,
        ap (λ (n : Branch PageRow). option_map (λ (b : Branch PageRow). b.row.serial) (tree_at i n.children))
            (node_at_is x l.branch l.found)
            ∙ ap (λ (o : Option (Branch PageRow)). option_map (λ (b : Branch PageRow). b.row.serial) o) place
            ∙ ap (λ (r : PageRow). Some r.serial) (sym row_is),
      )

  -- ---- upwards

  pub record TopMost (x : ℕ) (slot : Slot) : Type 0 where
    pub up : slot.parent ≡ None
    pub parent_is : parent_at x (tree_of a root) ≡ 0
    pub level_is : level_at x (tree_of a root) ≡ 0

  pub record Under (x : ℕ) (slot : Slot) : Type 0 where
    pub key : ℕ
    pub over : Slot
    pub up : slot.parent ≡ Some key
    pub over_at : slots_in a key ≡ Some over
    pub parent_is : parent_at x (tree_of a root) ≡ over.serial
    pub level_is : level_at x (tree_of a root) ≡ suc (level_at over.serial (tree_of a root))
    pub over_is : slot_of a over.serial ≡ Some over

  pub placed_up : (x : ℕ) (slot : Slot) → slot_of a x ≡ Some slot → TopMost x slot ⊎ Under x slot
  placed_up x slot e =
      let l = located x slot e in
      let u = keeps-up page_slots (slots_in a) 0 0 x (alone (tree_of a root)) None (root ∷ []) once l.there page.arena.stands in
      let u_key : keys_in a x ≡ Some u.key = ap (λ (y : ℕ). keys_in a y) (sym u.number_is) ∙ page.arena.files.filed u.key u.slot u.at in
      let same_key : u.key ≡ l.key = let both : Some u.key ≡ Some l.key = sym u_key ∙ l.key_is in cc in
      let same : u.slot ≡ slot = let both : Some u.slot ≡ Some slot = sym u.at ∙ ap (λ (y : ℕ). slots_in a y) same_key ∙ l.at in cc in
      let parent_same : slot.parent ≡ u.slot.parent = ap (λ (s : Slot). s.parent) (sym same) in
      elim u.place [
        | inl top ↦ inl (record {
          up = parent_same ∙ top.up;
          parent_is = ap (λ (o : Option ℕ). unwrap_or o 0) top.parent_is;
          level_is = ap (λ (o : Option ℕ). unwrap_or o 0) top.level_is;
        })
        | inr low ↦ inr (record {
          key = low.key;
          over = low.over;
          up = parent_same ∙ low.up;
          over_at = low.over_at;
          parent_is = ap (λ (o : Option ℕ). unwrap_or o 0) low.parent_is;
          level_is = ap (λ (o : Option ℕ). unwrap_or o 0) low.level_is ∙ ap (λ (o : Option ℕ). suc (unwrap_or o 0)) (sym low.over_is);
          over_is = ap (λ (o : Option ℕ). option_and_then (slots_in a) o)
              (page.arena.files.filed low.key low.over low.over_at) ∙ low.over_at;
        })
      ]

  pub climbs : (levels x : ℕ) (slot : Slot) → slot_of a x ≡ Some slot → level_at x (tree_of a root) ≤ levels
      → climbed a levels slot.parent ≡ level_at x (tree_of a root)
  climbs zero x slot e h = omega arith
  climbs (suc levels) x slot e h = elim (placed_up x slot e) [
    | inl top ↦ ap (λ (o : Option ℕ). climbed a (suc levels) o) top.up ∙ sym top.level_is
    | inr low ↦
        ap (λ (o : Option ℕ). climbed a (suc levels) o) low.up
        ∙ ap (λ (o : Option Slot). suc (climbed a levels (option_and_then (λ (s : Slot). s.parent) o))) low.over_at
        ∙ ap suc (climbs levels low.over.serial low.over low.over_is (let e2 = low.level_is in omega arith))
        ∙ sym low.level_is
  ]

  pub level_low : (x : ℕ) → level_at x (tree_of a root) ≤ max_level
  level_low x =
      let h = page.valid.nodes.levels in
      let e = height-map_rows row_label (tree_of a root).children in
      (elim (level_of row_serial x 0 (alone (tree_of a root))) as
      (λ o. level_of row_serial x 0 (alone (tree_of a root)) ≡ o → unwrap_or o 0 ≤ max_level) [
        | None ↦ λ f. omega arith
        | Some l ↦ λ f. let w = level_of-low x 0 (alone (tree_of a root)) l f in omega arith
      ]) refl

-- ---- the same, of the tree that a page is seen as

pub looks-live : (o : Option Slot) (f : Option (Branch PageRow)) → Looks o f → is_some o ≡ is_some f
looks-live None f e = sym (ap (λ (g : Option (Branch PageRow)). is_some g) e)
looks-live (Some slot) f (b, e, row_is, length_is) = sym (ap (λ (g : Option (Branch PageRow)). is_some g) e)

module _ (a : Arena) (root next : ℕ) (page : IsPage a root next) (t : Branch PageRow) (is : tree_of a root ≡ t) where
  pub reads-looks : (x : ℕ) → Looks (slot_of a x) (find_in x t)
  reads-looks x = subst (λ (b : Branch PageRow). Looks (slot_of a x) (find_in x b)) is (looks a root next page x)

  pub reads-there : (x : ℕ) → IsSome (find_in x t) → slot_of a x ≡ None → ⊥
  reads-there x some e =
      let f : find_in x t ≡ None = subst (λ (o : Option Slot). Looks o (find_in x t)) e (reads-looks x) in
      let clash : IsSome {T = Branch PageRow} None = subst (λ (o : Option (Branch PageRow)). IsSome o) f some in absurd (cc)

  pub reads-node : (x : ℕ) (slot : Slot) → slot_of a x ≡ Some slot
      → (slot_row slot ≡ (node_at x t).row) × (length slot.children ≡ width (node_at x t).children)
  reads-node x slot e =
      let (b, found, row_is, length_is) = subst (λ (o : Option Slot). Looks o (find_in x t)) e (reads-looks x) in
      let at : node_at x t ≡ b = ap (λ (o : Option (Branch PageRow)). unwrap_or o t) found in
      (row_is ∙ sym (ap (λ (n : Branch PageRow). n.row) at), length_is ∙ sym (ap (λ (n : Branch PageRow). width n.children) at))

  pub reads-child : (x : ℕ) (slot : Slot) (i k : ℕ) → slot_of a x ≡ Some slot → slice_get slot.children i ≡ Some k
      → (child : Slot) × (slots_in a k ≡ Some child)
      × (option_map (λ (b : Branch PageRow). b.row.serial) (tree_at i (node_at x t).children) ≡ Some child.serial)
  reads-child x slot i k e at =
      subst (λ (n : Branch PageRow). (child : Slot) × (slots_in a k ≡ Some child)
      × (option_map (λ (b : Branch PageRow). b.row.serial) (tree_at i (node_at x n).children) ≡ Some child.serial)) is
      (child_is a root next page x slot i k e at)

  pub reads-top : (x : ℕ) (slot : Slot) → slot_of a x ≡ Some slot → slot.parent ≡ None → 0 ≡ parent_at x t
  reads-top x slot e up = elim (placed_up a root next page x slot e) [
    | inl top ↦ sym (sym (ap (λ (n : Branch PageRow). parent_at x n) is) ∙ top.parent_is)
    | inr low ↦ absurd (let clash : None ≡ Some low.key = sym up ∙ low.up in cc)
  ]

  pub reads-over : (x : ℕ) (slot : Slot) (k : ℕ) → slot_of a x ≡ Some slot → slot.parent ≡ Some k
      → (over : Slot) × (slots_in a k ≡ Some over) × (over.serial ≡ parent_at x t)
  reads-over x slot k e up = elim (placed_up a root next page x slot e) [
    | inl top ↦ absurd (let clash : None ≡ Some k = sym top.up ∙ up in cc)
    | inr low ↦
        let same : low.key ≡ k = let both : Some low.key ≡ Some k = sym low.up ∙ up in cc in (
          low.over,
          sym (ap (λ (y : ℕ). slots_in a y) same) ∙ low.over_at,
          sym
              (sym (ap (λ (n : Branch PageRow). parent_at x n) is) ∙ low.parent_is),
        )
  ]

  pub reads-level : (x : ℕ) (slot : Slot) → slot_of a x ≡ Some slot → climbed a max_level slot.parent ≡ level_at x t
  reads-level x slot e = climbs a root next page max_level x slot e (level_low a root next page x) ∙ ap
      (λ (n : Branch PageRow). level_at x n) is

-- ---- a load

pub planted_page : (empty a : Arena) (root next : ℕ) (tree : Branch PageRow) → ((k : ℕ) → slots_in empty k ≡ None) → Filed a
    → Grown empty a (alone tree) → Stored a (alone tree) None (root ∷ []) → IsValid (record { tree = tree; next = next })
    → (tree_of a root ≡ tree) × IsPage a root next
planted_page empty a root next tree vacant files grown stored valid =
    let arena : IsArena page_slots (slots_in a) (keys_in a) root tree =
    record {
      stands = stored;
      files = files;
      reached = λ k slot e. elim (grown.only k slot e) [
        | inl old ↦ absurd
            (let clash : None ≡ Some slot = sym (vacant k) ∙ old in cc)
        | inr there ↦ there
      ];
    } in
    (tree_is a root next tree arena valid, rebuilt a root next tree arena valid)

pub fresh_in_empty : (empty : Arena) (tree : Branch PageRow) (next : ℕ) → ((k : ℕ) → slots_in empty k ≡ None)
    → IsValid (record { tree = tree; next = next }) → Fresh empty (alone tree)
fresh_in_empty empty tree next vacant valid =
    record {
      distinct = λ x. let d = valid.distinct x in omega arith;
      apart = λ k slot e. absurd (let clash : None ≡ Some slot = sym (vacant k) ∙ e in cc);
    }
