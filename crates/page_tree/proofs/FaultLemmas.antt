-- Tests of faults, as the slots answer them.
use Rattle.std.proofs.Common.{◌≡◌, ◌≢◌, ℕ, suc, ◌+◌, ◌-◌, ◌<◌, ◌≤◌, ◌==◌, ◌||◌, ◌&&◌, nat_lt, nat_le, Bool, true, false, cond, List, []}
use Rattle.std.proofs.Common.{◌∷◌, length, Option, Some, None, is_some, IsSome, refl, sym, ap, ◌∙◌, arith}
use Rattle.std.proofs.lemmas.Bool.Decides.{nat_tests}
use Rattle.std.proofs.lemmas.Bool.{eq-eqb, leb-true, not-false}
use Rattle.std.specs.List.{list_any}
use Rattle.node_tree.specs.Nodes.{Nodes, none, node, Branch, alone, branch_count}
use Rattle.node_tree.specs.Labels.{Label, is_document}
use Rattle.node_tree.specs.Arena.{Keeps}
use Rattle.node_tree.proofs.KeyLemmas.{has-find}
use Rattle.page_tree.specs.Forms.{max_nodes}
use Rattle.node_tree.specs.Levels.{max_level}
use Rattle.page_tree.specs.Pages.{PageRow, row_serial, PageValue, find_in, node_at, parent_at, IsValid}
use Rattle.page_tree.specs.NodesLeft.{nodes_left}
use Rattle.page_tree.specs.Edits.{children_at, is_among, sibling_after}
use Rattle.page_tree.specs.EditFaults.{is_live, is_live_or_0, is_inside, kind_at, attach_faults, copy_faults, move_faults, insert_fault}
use Rattle.page_tree.specs.EditFaults.{copy_fault, move_fault}
use Rattle.page_tree.specs.Ancestors.{ancestors_at}
use Rattle.page_tree.specs.Arenas.{page_slots, slots_in, slot_of, is_numbered, place_in, next_in, tree_of, IsPage}
use Rattle.page_tree.specs.declared.slots.Slot.{Slot}
use Rattle.page_tree.specs.declared.arenas.Arena.{Arena}
use Rattle.page_tree.proofs.TurnLemmas.{seat, next_keeps, numbered_is}
use Rattle.node_tree.proofs.PairLemmas.{left, right}
use Rattle.page_tree.proofs.EditLemmas.{clear}
use Rattle.page_tree.proofs.AncestorLemmas.{StepUp, within_line}

-- ---- numbers

-- so many levels are left, and so much room
pub low_is : (levels level h k : ℕ) → levels + level ≡ max_level → h ≡ k → nat_le h levels ≡ nat_le (level + k) max_level
low_is levels level h k left same = grind (arith, nat_tests, left, same)

pub low_below : (levels level h k : ℕ) → levels + level ≡ max_level → 0 < levels → h ≡ k
    → nat_le h (levels - 1) ≡ nat_le (level + suc k) max_level
low_below levels level h k left some same = grind (arith, nat_tests, left, same)

some_room : (count room : ℕ) → is_some (nodes_left count room) ≡ nat_le count room
some_room count room = grind (arith, nat_tests)

pub room_is : (room there count k : ℕ) → room + there ≡ max_nodes → count ≡ k
    → is_some (nodes_left count room) ≡ nat_le (there + k) max_nodes
room_is room there count k left same = some_room count room ∙ fits
  where
    fits : nat_le count room ≡ nat_le (there + k) max_nodes
    fits = grind (arith, nat_tests, left, same)

pub room_below : (room there count k : ℕ) → room + there ≡ max_nodes → 0 < room → count ≡ k
    → is_some (nodes_left count (room - 1)) ≡ nat_le (there + suc k) max_nodes
room_below room there count k left some same = some_room count (room - 1) ∙ fits
  where
    fits : nat_le count (room - 1) ≡ nat_le (there + suc k) max_nodes
    fits = grind (arith, nat_tests, left, same)

pub room_none : (room there k : ℕ) → room + there ≡ max_nodes → room ≡ 0 → false ≡ nat_le (there + suc k) max_nodes
room_none room there k left no_room = grind (arith, nat_tests, left)

-- ---- children by serial

among_step : (u v w : Bool) (p l : ℕ) → u ≡ v → w ≡ nat_lt p l → (v || w) ≡ nat_lt (cond {A = ℕ} u 0 (suc p)) (suc l)
among_step true true w p l e f = grind (arith, nat_tests)
among_step false false w p l e f = f ∙ shift
  where
    shift : nat_lt p l ≡ nat_lt (suc p) (suc l)
    shift = grind (arith, nat_tests)
among_step true false w p l e f = absurd (cc)
among_step false true w p l e f = absurd (cc)

among_keeps : (a : Arena) (serial : ℕ) (above : Option ℕ) (n : Nodes PageRow) (ks : List ℕ) → Keeps page_slots (slots_in a) n above ks
    → is_among serial n ≡ nat_lt (place_in a serial ks) (length ks)
among_keeps a serial above none [] kept = refl
among_keeps a serial above none (k ∷ ks) kept = absurd kept
among_keeps a serial above (node r c t) [] kept = absurd kept
among_keeps a serial above (node r c t) (k ∷ ks) (slot, at, up, is, below, after) =
    among_step (is_numbered a serial k) (r.serial == serial) (is_among serial t) (place_in a serial ks) (length ks)
    (numbered_is a serial k slot r at is) (among_keeps a serial above t ks after)

module _ (a : Arena) (root next : ℕ) (page : IsPage a root next) (t : Branch PageRow) (is : tree_of a root ≡ t) (parent : ℕ) (slot : Slot)
    (at : slot_of a parent ≡ Some slot) (serial : ℕ) where
  pub reads-among : nat_lt (place_in a serial slot.children) (length slot.children) ≡ is_among serial (children_at parent t)
  reads-among =
      let s = seat a root next page parent slot at in
      sym (among_keeps a serial (Some s.key) (children_at parent (tree_of a root)) slot.children s.below) ∙ ap
      (λ (b : Branch PageRow). is_among serial (children_at parent b)) is

  pub reads-next : next_in a serial slot.children ≡ sibling_after serial parent t
  reads-next =
      let s = seat a root next page parent slot at in
      next_keeps a serial (Some s.key) (children_at parent (tree_of a root)) slot.children s.below ∙ ap
      (λ (b : Branch PageRow). sibling_after serial parent b) is

-- ---- the way up

module _ (at parent : ℕ) (tree : Branch PageRow) (up : StepUp at tree) (is : parent ≡ parent_at at tree) where
  above_is : parent ≢ 0 → ancestors_at at tree ≡ parent ∷ ancestors_at parent tree
  above_is other = up.next (λ e. other (is ∙ e)) ∙ ap (λ k. k ∷ ancestors_at k tree) (sym is)

  pub live_above : parent ≢ 0 → IsSome (find_in parent tree)
  live_above other = ap (λ k. is_some (find_in k tree)) is ∙ up.live (λ e. other (is ∙ e))

  pub shorter_above : parent ≢ 0 → length (ancestors_at parent tree) < length (ancestors_at at tree)
  shorter_above other = let e = ap length (above_is other) in omega arith

  -- past a node that the test lets by, a search goes on from its parent, and ends at the document
  pub any_up : (p : ℕ → Bool) → p at ≡ false → parent ≢ 0
      → list_any p (at ∷ ancestors_at at tree) ≡ list_any p (parent ∷ ancestors_at parent tree)
  any_up p passed other = ap (λ b. b || list_any p (ancestors_at at tree)) passed ∙ ap (list_any p) (above_is other)

  pub any_top : (p : ℕ → Bool) → p at ≡ false → parent ≡ 0 → list_any p (at ∷ ancestors_at at tree) ≡ false
  any_top p passed e = ap (λ b. b || list_any p (ancestors_at at tree)) passed ∙ ap (list_any p) (up.top (sym is ∙ e))

pub any_here : (at : ℕ) (tree : Branch PageRow) (other : ℕ) → at ≡ other → true ≡ list_any (λ k. k == other) (at ∷ ancestors_at at tree)
any_here at tree other e = sym (ap (λ b. b || list_any (λ k. k == other) (ancestors_at at tree)) (eq-eqb at other e))

-- a node is inside another where that one is on its way up
pub inside_line : (page : PageValue) → IsValid page → (other : ℕ) → IsSome (find_in other page.tree) → (serial : ℕ)
    → IsSome (find_in serial page.tree)
    → list_any (λ k. k == other) (serial ∷ ancestors_at serial page.tree) ≡ is_inside serial other page.tree
inside_line page valid other other_live serial live =
    within_line page valid other other_live serial live ∙ has-find row_serial serial (alone (node_at other page.tree))

-- ---- what an act without a fault has

-- the nodes of an insert have room
pub insert_few : (parent before : ℕ) (form : Branch Label) (tree : Branch PageRow) → insert_fault parent before form tree ≡ None
    → branch_count form ≤ max_nodes
insert_few parent before form tree e =
    let tests = clear (attach_faults parent before form tree) e in
    let room = leb-true (branch_count tree + branch_count form) max_nodes (not-false _ tests.1.1.1.0) in
    omega arith

-- and so are what is moved, and the parent
pub move_live : (serial parent before : ℕ) (tree : Branch PageRow) → move_fault serial parent before tree ≡ None
    → (is_live serial tree ≡ true) × (is_live parent tree ≡ true)
move_live serial parent before tree e =
    let tests = clear (move_faults serial parent before tree) e in
    let both = left (is_live serial tree && is_live parent tree) (is_live_or_0 before tree) (not-false _ tests.0) in
    (left (is_live serial tree) (is_live parent tree) both, right (is_live serial tree) (is_live parent tree) both)
