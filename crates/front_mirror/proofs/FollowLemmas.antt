-- A change that an event tells, and the view that has it.
use Rattle.std.proofs.Common.{◌≡◌, ℕ, suc, ◌+◌, ◌-◌, ◌<◌, ◌≤◌, ◌==◌, nat_le, Bool, true, false, not, ◌&&◌, ◌||◌, cond}
use Rattle.std.proofs.Common.{[], ◌∷◌, Some, None, Result, Ok, refl}
use Rattle.std.proofs.Common.{ap, ◌∙◌, subst, arith}
use Rattle.std.proofs.lemmas.Bool.{eq-eqb}
use Rattle.node_tree.specs.Nodes.{Nodes, Branch, alone, height}
use Rattle.node_tree.specs.Keys.{tally, tally_in, spot, put, At, here, within, past, first_true}
use Rattle.node_tree.specs.Seen.{Seen, Hold, opened, is_opened, seen_id, seen_serial}
use Rattle.node_tree.proofs.KeyLemmas.{tally-at, height_above-at, spot-at, put-at, has-there}
use Rattle.dom_objects.specs.Told.{seen_nodes, seen_branch, told_nodes, told_branch, seen-told}
use Rattle.client_views.specs.Moves.{Change, shows, inserts, removes, counts, sets, drops, says, changed, suits_change, has_tree}
use Rattle.client_views.specs.Moves.{change_news, ChangesNode}
use Rattle.client_views.specs.Views.{IsView, is_bare}
use Rattle.node_tree.specs.Levels.{most_levels}
use Rattle.front_mirror.specs.declared.faults.FrontKind.{FrontKind}
use Rattle.front_mirror.specs.declared.faults.FrontKind.TheVariants.{UnknownNode, NotChild, IdTaken, TooDeep}
use Rattle.front_mirror.specs.Front.{FrontValue, ToldChange, told_change, is_kin, is_unique, is_fresh, takes_change, knows_named, is_shown}
use Rattle.front_mirror.specs.Front.{stands_low, change_fault, told, with_tree, at_spot, with_change, with_news}
use Rattle.client_views.proofs.ToldChanges.{height-told}
use Rattle.front_mirror.proofs.ViewLemmas.{is_kin-told}
use Rattle.front_mirror.proofs.ApartLemmas.{Once, new_once}
use Rattle.front_mirror.proofs.EditLemmas.{added, bare-at, counted_none, is_bare_node}
use Rattle.client_views.proofs.InsertedLemmas.{tally-inserted, height-inserted, inserted_after, taken_out}
use Rattle.client_views.proofs.BoolLemmas.{and_left, and_right, both}

-- ---- what the change asks of the tree

takes_suits : (c : Change) (b : Branch Seen) → suits_change c b ≡ true → takes_change c b.row ≡ true
takes_suits (shows kids) b s = s
takes_suits (inserts previous w) b s = and_left (is_opened b.row.hold) _ (and_left _ (not (is_opened w.row.hold)) s)
takes_suits (removes id) b s = and_left (is_opened b.row.hold) (has_tree id b.children) s
takes_suits (counts n) b s = s
takes_suits (sets name value) b s = s
takes_suits (drops name) b s = s
takes_suits (says value) b s = s

-- one of these trees has the id, so a node among them has it
tree_tally : (id : ℕ) (n : Nodes Seen) → has_tree id n ≡ true → 0 < tally seen_id id n
tree_tally id n e =
    let o = taken_out id n e in
    let h = tally-inserted seen_id id o.stood in
    let k : cond {A = ℕ} (o.tree.row.id == id) 1 0 ≡ 1 = rw (eq-eqb o.tree.row.id id o.named) refl in
    omega arith

at_tally : {old new : Branch Seen} (x : ℕ) {depth : ℕ} {n m : Nodes Seen} → At old new depth n m
    → tally_in seen_id x old ≤ tally seen_id x n
at_tally x (here t) = omega arith
at_tally x (within depth r c m t e) = let h = at_tally x e in omega arith
at_tally x (past depth r c t m e) = let h = at_tally x e in omega arith

child_shown : {old new : Branch Seen} (id : ℕ) {depth : ℕ} {n m : Nodes Seen} → At old new depth n m → has_tree id old.children ≡ true
    → is_shown n id ≡ true
child_shown {old = o} id {n = n} e h = has-there seen_id id n (let a = at_tally id e in let b = tree_tally id o.children h in omega arith)

known_or : (v h k : Bool) → (v || h) ≡ true → (h ≡ true → k ≡ true) → (v || k) ≡ true
known_or true h k e f = refl
known_or false h k e f = f e

knows_suits : (c : Change) (old : Branch Seen) {new : Branch Seen} {depth : ℕ} {n m : Nodes Seen} → At old new depth n m
    → suits_change c old ≡ true → knows_named n c ≡ true
knows_suits (shows kids) old e s = refl
knows_suits (inserts previous w) old {n = n} e s =
    known_or (previous == 0) (has_tree previous old.children) (is_shown n previous)
    (and_right (is_opened old.row.hold) _ (and_left _ (not (is_opened w.row.hold)) s)) (child_shown previous e)
knows_suits (removes id) old e s = child_shown id e (and_right (is_opened old.row.hold) (has_tree id old.children) s)
knows_suits (counts n) old e s = refl
knows_suits (sets name value) old e s = refl
knows_suits (drops name) old e s = refl
knows_suits (says value) old e s = refl

-- ---- the nodes that come stand once, and not too deep

module _ (key : Seen → ℕ) (same_key : (r : Seen) (h : Hold) → key (record r { hold = h }) ≡ key r) (x : ℕ) where
  once_key : (c : Change) (old : Branch Seen) {depth : ℕ} {u w : Nodes Seen} → At old (changed c old) depth u w → suits_change c old ≡ true
      → (is_bare_node old.row old.children && is_bare old.children) ≡ true → tally key x u ≤ 1 → tally key x w ≤ 1
      → tally key x u + tally key x (added c) ≤ 1
  once_key (shows kids) old e s bare h k =
      let a = tally-at key x e in
      let b : tally key x old.children ≡ 0 = ap (tally key x) (counted_none old s bare) in
      let d : cond {A = ℕ} (key (record old.row { hold = opened }) == x) 1 0
      ≡ cond {A = ℕ} (key old.row == x) 1 0 = ap (λ (i : ℕ). cond {A = ℕ} (i == x) 1 0) (same_key old.row opened) in
      omega arith
  once_key (inserts previous w) old e s bare h k =
      let a = tally-at key x e in
      let b = tally-inserted key x (inserted_after previous w old.children
      (and_right (is_opened old.row.hold) _ (and_left _ (not (is_opened w.row.hold)) s))) in
      omega arith
  once_key (removes id) old e s bare h k = omega arith
  once_key (counts n) old e s bare h k = omega arith
  once_key (sets name value) old e s bare h k = omega arith
  once_key (drops name) old e s bare h k = omega arith
  once_key (says value) old e s bare h k = omega arith

added_levels : (c : Change) (old : Branch Seen) → suits_change c old ≡ true → height (added c) ≤ height (changed c old).children
added_levels (shows kids) old s = omega arith
added_levels (inserts previous w) old s =
    let h = height-inserted (inserted_after previous w old.children
    (and_right (is_opened old.row.hold) _ (and_left _ (not (is_opened w.row.hold)) s))) in omega arith
added_levels (removes id) old s = omega arith
added_levels (counts n) old s = omega arith
added_levels (sets name value) old s = omega arith
added_levels (drops name) old s = omega arith
added_levels (says value) old s = omega arith

-- ---- the change is taken

clear_all : (a b c d : Bool) (x y z w : FrontKind) → a ≡ true → b ≡ true → c ≡ true → d ≡ true
    → first_true ((x, not a) ∷ (y, not b) ∷ (z, not c) ∷ (w, not d) ∷ []) ≡ None
clear_all a b c d x y z w p q r s = rw (p, q, r, s) refl

-- the change of the node of that id, as its event tells it
abbrev pub as_told : ℕ → Change → ToldChange
as_told id c = told_change id c (told_nodes id (added c))

module _ (u w : Nodes Seen) (id : ℕ) (c : Change) (before : IsView u) (after : IsView w) (move : ChangesNode id c u w) where
  once_told : Once u (told_nodes id (added c))
  once_told =
      let bare = bare-at move.at before.bare in
      record {
        ids = λ x.
            let h = once_key seen_id (λ r h. refl) x c move.old move.at move.suits bare (before.ids x) (after.ids x) in
            let k : tally seen_id x (seen_nodes (told_nodes id (added c)))
            ≡ tally seen_id x (added c) = ap (tally seen_id x) (seen-told id (added c)) in
            omega arith;
        serials = λ x.
            let h = once_key seen_serial (λ r h. refl) x c move.old move.at move.suits bare (before.serials x) (after.serials x) in
            let k : tally seen_serial x (seen_nodes (told_nodes id (added c)))
            ≡ tally seen_serial x (added c) = ap (tally seen_serial x) (seen-told id (added c)) in
            omega arith;
      }

  pub told_levels : move.depth + suc (height (told_nodes id (added c))) ≤ most_levels
  told_levels =
      let h = height_above-at move.at in
      let k = after.levels in
      let l = added_levels c move.old move.suits in
      let j = height-told id (added c) in
      omega arith

  low_nat : (h d : ℕ) → d + suc h ≤ most_levels → nat_le h (most_levels - 1 - (0 + d)) ≡ true
  low_nat h d e = grind arith

  no_fault : change_fault u (as_told id c) (record { branch = move.old; level = 0 + move.depth }) ≡ None
  no_fault =
      clear_all (takes_change c move.old.row && knows_named u c) (suits_change c move.old && is_kin id (told_nodes id (added c)))
      (is_unique (told_nodes id (added c)) && is_fresh u (told_nodes id (added c)))
      (stands_low (0 + move.depth) (told_nodes id (added c))) UnknownNode NotChild IdTaken TooDeep
      (both (takes_suits c move.old move.suits) (knows_suits c move.old move.at move.suits)) (both move.suits (is_kin-told id (added c)))
      (new_once u (told_nodes id (added c)) once_told) (low_nat (height (told_nodes id (added c))) move.depth told_levels)

  found_spot : spot seen_id id 0 u ≡ Some (record { branch = move.old; level = 0 + move.depth })
  found_spot =
      subst (λ (x : ℕ). spot seen_id x 0 u ≡ Some (record { branch = move.old; level = 0 + move.depth })) move.is
      (spot-at seen_id 0 move.at (before.ids move.old.row.id))

  leads : put seen_id id (changed c move.old) u ≡ w
  leads = subst (λ (x : ℕ). put seen_id x (changed c move.old) u ≡ w) move.is (put-at seen_id move.at (before.ids move.old.row.id))

abbrev taken_well : FrontValue → Result FrontValue FrontKind
taken_well v = Ok v

told_is : (id : ℕ) (w : Branch Seen) → seen_branch (told_branch id w) ≡ w
told_is id w = ap (λ (c : Nodes Seen). record { row = w.row; children = c }) (seen-told w.row.id w.children)

-- the event of a change is that change
news_change : (v : FrontValue) (id : ℕ) (c : Change) → with_news v (change_news id c) ≡ with_change v (as_told id c)
news_change v id (shows kids) = ap (λ (n : Nodes Seen). with_change v (told_change id (shows n) (told_nodes id kids))) (seen-told id kids)
news_change v id (inserts previous w) = ap
    (λ (b : Branch Seen). with_change v (told_change id (inserts previous b) (alone (told_branch id w)))) (told_is id w)
news_change v id (removes child) = refl
news_change v id (counts n) = refl
news_change v id (sets name value) = refl
news_change v id (drops name) = refl
news_change v id (says value) = refl

-- and leads to the view that has it
pub changed_news : (v : FrontValue) (w : Nodes Seen) (id : ℕ) (c : Change) → IsView v.tree → IsView w → ChangesNode id c v.tree w
    → with_news v (change_news id c) ≡ Ok (told v w)
changed_news v w id c before after move =
    news_change v id c
    ∙ ap (at_spot v (as_told id c)) (found_spot v.tree w id c before after move)
    ∙ ap (with_tree v (put seen_id id (changed c move.old) v.tree)) (no_fault v.tree w id c before after move)
    ∙ ap (λ (tree : Nodes Seen). taken_well (told v tree)) (leads v.tree w id c before after move)
