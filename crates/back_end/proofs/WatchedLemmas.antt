-- Watched nodes stay nodes that are shown: after an edit each watch that is left is of a node that is still shown.
use Rattle.std.proofs.Common.{◌≡◌, ℕ, zero, suc, ◌+◌, ◌≤◌, Bool, true, false, not, ◌&&◌, cond, List, Option, Some, None, IfSome}
use Rattle.std.proofs.Common.{refl, sym, ◌∙◌, ap, subst, arith}
use Rattle.std.specs.Prelude.{unwrap_or}
use Rattle.std.specs.FinSet as set
use Rattle.std.specs.Ordering.{nat_cmp}
use Rattle.std.proofs.lemmas.Bool.{and_parts, not-false}
use Rattle.node_tree.specs.Nodes.{Nodes, Branch, alone}
use Rattle.node_tree.specs.Keys.{has, tally, tally_in}
use Rattle.node_tree.specs.Labels.{Label}
use Rattle.node_tree.proofs.KeyLemmas.{tally-at, has-there}
use Rattle.page_tree.specs.Pages.{PageRow, PageValue, row_serial, IsValid, find_in, node_at, parent_at}
use Rattle.page_tree.specs.Edits.{after, relabelled, with_attribute, without_attribute, with_value, with_child, without_child, changed_at}
use Rattle.page_tree.specs.Edits.{children_at, label_at}
use Rattle.page_tree.specs.EditFaults.{is_live, CanApply, edit_faults}
use Rattle.page_tree.specs.declared.edits.TreeEdit.{TreeEdit}
use Rattle.page_tree.specs.declared.edits.TreeEdit.TheVariants.{SetAttr, DropAttr, SetText, Attach, Detach}
use Rattle.page_tree.proofs.ChildLemmas.{tally-inserted, inserted-before, inserted-taken}
use Rattle.page_tree.proofs.EditLemmas.{clear, changed, serial-live, Parted, parted}
use Rattle.node_tree.proofs.PairLemmas.{left}
use Rattle.page_tree.proofs.WholeLemmas.{whole-valid}
use Rattle.dom_agent.proofs.SetLemmas.{there_once}
use Rattle.node_tree.specs.declared.watches.WatchKind.{WatchKind}
use Rattle.node_tree.specs.declared.watches.WatchKind.TheVariants as watch
use Rattle.dom_breakpoints.specs.Watched.{Watched, Serials, unwatched, is_watched, is_within, outside, without_subtree}
use Rattle.shown_pages.specs.declared.modes.Mode.{Mode}
use Rattle.shown_pages.specs.declared.sights.TextSight.{TextSight}
use Rattle.shown_pages.specs.declared.sights.TextSight.TheVariants.{Unseen, Comes, Goes, Stays}
use Rattle.shown_pages.specs.Modes.{hidden_in}
use Rattle.shown_pages.specs.ShownPages.{shown_branch, shown_page}
use Rattle.shown_pages.specs.ShownEdits.{shown_text_edit, sight_at, shown_edit, after_some}
use Rattle.shown_pages.proofs.HiddenLemmas.{tally-shown}
use Rattle.shown_pages.proofs.ShownTrees.{shown-valid}
use Rattle.shown_pages.proofs.ShownSteps.{shown-steps}
use Rattle.shown_pages.proofs.FoundLemmas.{found-both}
use Rattle.back_end.specs.States.{State, nodes_shown, AreAmong}
use Rattle.back_end.specs.Steps.{watches_of_text, watches_left, watched_after}

-- ---- how many nodes have a serial after an edit

-- another label changes none
relabelled-tally : (serial : ℕ) (f : Label → Label) (tree : Branch PageRow) → is_live serial tree ≡ true → (s : ℕ)
    → tally row_serial s (alone (changed_at serial (relabelled f) tree)) ≡ tally row_serial s (alone tree)
relabelled-tally serial f tree live s =
    let e = changed serial (relabelled f) tree live in
    omega (arith, tally-at row_serial s e.1)

attached-tally : (parent before : ℕ) (x tree : Branch PageRow) → is_live parent tree ≡ true → (s : ℕ)
    → tally row_serial s (alone (changed_at parent (with_child before x) tree)) ≡ tally row_serial s (alone tree) + tally_in row_serial s x
attached-tally parent before x tree live s =
    let e = changed parent (with_child before x) tree live in
    omega (arith, tally-at row_serial s e.1, tally-inserted s (inserted-before before x (children_at parent tree)))

detached-tally : (serial : ℕ) (tree : Branch PageRow) → is_live serial tree ≡ true → Parted serial tree → (s : ℕ)
    → tally row_serial s (alone (changed_at (parent_at serial tree) (without_child serial) tree))
    + tally_in row_serial s (node_at serial tree) ≡ tally row_serial s (alone tree)
detached-tally serial tree live part s =
    let e = changed (parent_at serial tree) (without_child serial) tree part.live in
    omega (
      arith,
      tally-at row_serial s e.1,
      tally-inserted s
          (inserted-taken serial (node_at serial tree) (children_at (parent_at serial tree) tree)
          (serial-live serial tree live) part.child),
    )

-- ---- watches that are left

-- no watch is set where there is none
pub none-set : {A : Type 0} (kind : WatchKind) (serial : ℕ) → is_watched kind unwatched serial ≡ true → A
none-set watch.Subtree serial h = let no : false ≡ true = sym (set.contains-empty nat_cmp serial) ∙ h in absurd cc
none-set watch.Attribute serial h = let no : false ≡ true = sym (set.contains-empty nat_cmp serial) ∙ h in absurd cc
none-set watch.Removed serial h = let no : false ≡ true = sym (set.contains-empty nat_cmp serial) ∙ h in absurd cc

-- a node that no fewer nodes have the serial of is still there
still : (s : ℕ) (n m : Nodes PageRow) → tally row_serial s n ≤ tally row_serial s m → has row_serial s n ≡ true → has row_serial s m ≡ true
still s n m grows there = has-there row_serial s m (omega (arith, grows, there_once s n there))

outside-set : (root : ℕ) (tree : Branch PageRow) (serials : Serials) (s : ℕ)
    → set.contains (outside root tree serials) s ≡ (set.contains serials s && not (is_within s root tree))
outside-set root tree serials s =
    set.contains-retain serials (λ serial. not (is_within serial root tree)) s
    (λ x e. ap (λ k. not (is_within k root tree)) (sym (set.nat_cmp-IsAntisymmetric s x e)))

module _ (tree : Branch PageRow) (w : Watched) where
  -- a watch that is left when a tree goes was set, and is of a node outside the tree
  pub left-watch : (kind : WatchKind) (root s : ℕ) → is_watched kind (without_subtree root tree w) s ≡ true
      → (is_watched kind w s && not (is_within s root tree)) ≡ true
  left-watch watch.Subtree root s h = sym (outside-set root tree w.subtree s) ∙ h
  left-watch watch.Attribute root s h = sym (outside-set root tree w.attribute s) ∙ h
  left-watch watch.Removed root s h = sym (outside-set root tree w.removed s) ∙ h

  -- and such a watch is left
  stays-watched : (kind : WatchKind) (root s : ℕ) → (is_watched kind w s && not (is_within s root tree)) ≡ true
      → is_watched kind (without_subtree root tree w) s ≡ true
  stays-watched watch.Subtree root s h = outside-set root tree w.subtree s ∙ h
  stays-watched watch.Attribute root s h = outside-set root tree w.attribute s ∙ h
  stays-watched watch.Removed root s h = outside-set root tree w.removed s ∙ h

-- a node that is not among these
absent : (s : ℕ) (n : Nodes PageRow) → has row_serial s n ≡ false → tally row_serial s n ≡ 0
absent s n h = elim (tally row_serial s n) as (λ m. tally row_serial s n ≡ m → tally row_serial s n ≡ 0) [
  | zero ↦ λ e. e
  | suc m ↦ λ e. absurd (let no : false ≡ true = sym h ∙ has-there row_serial s n (omega (arith, e)) in cc)
] refl

negated : (b : Bool) → not b ≡ true → b ≡ false
negated false e = refl
negated true e = absurd cc

-- the watches that are left after an edit of the shown tree: those of a tree that goes are dropped
abbrev left_by : TreeEdit → Branch PageRow → Watched → Watched
left_by (SetAttr serial name value) tree w = w
left_by (DropAttr serial name) tree w = w
left_by (SetText serial value) tree w = w
left_by (Attach parent before x) tree w = w
left_by (Detach serial) tree w = without_subtree serial tree w

-- those that are left after one, if there is one
abbrev left_if : Option TreeEdit → Branch PageRow → Watched → Watched
left_if None tree w = w
left_if (Some e) tree w = left_by e tree w

among-after : (e : TreeEdit) (page : PageValue) (w : Watched) → IsValid page → CanApply page.next e page.tree
    → AreAmong w (alone page.tree) → AreAmong (left_by e page.tree w) (alone (after e page).tree)
among-after (SetAttr serial name value) page w valid can is kind s h =
    let tree = page.tree in
    let e = relabelled-tally serial (with_attribute name value) tree
    (not-false _ (clear (edit_faults (SetAttr serial name value) tree) can.fits).0) s in
    still s (alone tree) (alone (after (SetAttr serial name value) page).tree) (omega (arith, e)) (is kind s h)
among-after (DropAttr serial name) page w valid can is kind s h =
    let tree = page.tree in
    let e = relabelled-tally serial (without_attribute name) tree
    (not-false _ (clear (edit_faults (DropAttr serial name) tree) can.fits).0) s in
    still s (alone tree) (alone (after (DropAttr serial name) page).tree) (omega (arith, e)) (is kind s h)
among-after (SetText serial value) page w valid can is kind s h =
    let tree = page.tree in
    let e = relabelled-tally serial (with_value value) tree (not-false _ (clear (edit_faults (SetText serial value) tree) can.fits).0) s in
    still s (alone tree) (alone (after (SetText serial value) page).tree) (omega (arith, e)) (is kind s h)
among-after (Attach parent before x) page w valid can is kind s h =
    let tree = page.tree in
    let live = left (is_live parent tree) _ (not-false _ (clear (edit_faults (Attach parent before x) tree) can.fits).0) in
    let e = attached-tally parent before x tree live s in
    still s (alone tree) (alone (after (Attach parent before x) page).tree) (omega (arith, e)) (is kind s h)
among-after (Detach serial) page w valid can is kind s h =
    let tree = page.tree in
    let tests = clear (edit_faults (Detach serial) tree) can.fits in
    let live = not-false _ tests.0 in
    let kept = and_parts (is_watched kind w s) (not (is_within s serial tree)) (left-watch tree w kind serial s h) in
    let e = detached-tally serial tree live (parted serial tree (whole-valid page valid) live tests.1.0) s in
    let apart : tally row_serial s (alone (node_at serial tree))
    ≡ 0 = absent s (alone (node_at serial tree)) (negated (is_within s serial tree) kept.1) in
    still s (alone tree) (alone (after (Detach serial) page).tree) (omega (arith, e, apart)) (is kind s kept.0)

among-if : (o : Option TreeEdit) (page : PageValue) (w : Watched) → IsValid page → IfSome o (λ e. CanApply page.next e page.tree)
    → AreAmong w (alone page.tree) → AreAmong (left_if o page.tree w) (alone (after_some o page).tree)
among-if None page w valid can is = is
among-if (Some e) page w valid can is = among-after e page w valid can is

-- ---- where the page is shown in a mode

-- a node of that serial in a tree, by what is found
at-found : (o : Option (Branch PageRow)) (tree b : Branch PageRow) → o ≡ Some b → unwrap_or o tree ≡ b
at-found o tree b e = ap (λ x. unwrap_or x tree) e

module _ (mode : Mode) (page : PageValue) (valid : IsValid page) (w : Watched) where
  -- what stands in a tree as it is shown, stands in the tree
  within-shown : (serial s : ℕ) → is_live serial (shown_page mode page).tree ≡ true → is_within s serial (shown_page mode page).tree ≡ true
      → is_within s serial page.tree ≡ true
  within-shown serial s live h =
      let f = found-both mode page serial valid live in
      let seen : node_at serial (shown_page mode page).tree ≡ shown_branch mode f.branch =
      at-found (find_in serial (shown_page mode page).tree) (shown_page mode page).tree (shown_branch mode f.branch) f.in_shown in
      let here : node_at serial page.tree ≡ f.branch = at-found (find_in serial page.tree) page.tree f.branch f.in_page in
      let there : has row_serial s (alone (shown_branch mode f.branch)) ≡ true = subst
      (λ (b : Branch PageRow). has row_serial s (alone b) ≡ true) seen h in
      subst (λ (b : Branch PageRow). has row_serial s (alone b) ≡ true) (sym here)
      (still s (alone (shown_branch mode f.branch)) (alone f.branch) (omega (arith, tally-shown mode s f.branch.children)) there)

  -- what is not below a node is not below it as it is shown
  outside-shown : (serial s : ℕ) (a b : Bool) → (a ≡ true → b ≡ true) → not b ≡ true → not a ≡ true
  outside-shown serial s false b up e = refl
  outside-shown serial s true b up e = absurd (let no : not true ≡ true = ap not (sym (up refl)) ∙ e in cc)

  narrower : (kind : WatchKind) (serial s : ℕ) → is_live serial (shown_page mode page).tree ≡ true
      → is_watched kind (without_subtree serial page.tree w) s ≡ true
      → is_watched kind (without_subtree serial (shown_page mode page).tree w) s ≡ true
  narrower kind serial s live h =
      let kept = and_parts (is_watched kind w s) (not (is_within s serial page.tree)) (left-watch page.tree w kind serial s h) in
      stays-watched (shown_page mode page).tree w kind serial s
      (both (is_watched kind w s) (not (is_within s serial (shown_page mode page).tree)) kept.0
      (outside-shown serial s (is_within s serial (shown_page mode page).tree) (is_within s serial page.tree) (within-shown serial s live)
      kept.1))
    where
      both : (a b : Bool) → a ≡ true → b ≡ true → (a && b) ≡ true
      both a b e f = rw (e, f)

  -- a detach in the shown page is of a node that stands there
  gone-live : (serial : ℕ) → CanApply (shown_page mode page).next (Detach serial) (shown_page mode page).tree
      → is_live serial (shown_page mode page).tree ≡ true
  gone-live serial can = not-false _ (clear (edit_faults (Detach serial) (shown_page mode page).tree) can.fits).0

  left-text : (t : TextSight) (serial : ℕ) (value : List ℕ)
      → IfSome (shown_text_edit mode t serial value page.tree) (λ f. CanApply (shown_page mode page).next f (shown_page mode page).tree)
      → (kind : WatchKind) (s : ℕ) → is_watched kind (watches_of_text t serial page.tree w) s ≡ true
      → is_watched kind (left_if (shown_text_edit mode t serial value page.tree) (shown_page mode page).tree w) s ≡ true
  left-text Unseen serial value can kind s h = h
  left-text Comes serial value can kind s h = h
  left-text Goes serial value can kind s h = narrower kind serial s (gone-live serial can) h
  left-text Stays serial value can kind s h = h

  left-detach : (b : Bool) (serial : ℕ)
      → IfSome (cond b None (Some (Detach serial))) (λ f. CanApply (shown_page mode page).next f (shown_page mode page).tree)
      → (kind : WatchKind) (s : ℕ) → is_watched kind (without_subtree serial page.tree w) s ≡ true
      → is_watched kind (left_if (cond b None (Some (Detach serial))) (shown_page mode page).tree w) s ≡ true
  left-detach true serial can kind s h =
      (and_parts (is_watched kind w s) (not (is_within s serial page.tree)) (left-watch page.tree w kind serial s h)).0
  left-detach false serial can kind s h = narrower kind serial s (gone-live serial can) h

  left-attach : (b : Bool) (e : TreeEdit) (kind : WatchKind) (s : ℕ) → left_by e (shown_page mode page).tree w ≡ w
      → is_watched kind w s ≡ true → is_watched kind (left_if (cond b None (Some e)) (shown_page mode page).tree w) s ≡ true
  left-attach true e kind s same h = h
  left-attach false e kind s same h = ap (λ v. is_watched kind v s) same ∙ h

  -- each watch that is left is left after what the edit is in the shown page
  left-shown : (e : TreeEdit)
      → IfSome (shown_edit mode e page.tree) (λ f. CanApply (shown_page mode page).next f (shown_page mode page).tree)
      → (kind : WatchKind) (s : ℕ) → is_watched kind (watches_left mode e page.tree w) s ≡ true
      → is_watched kind (left_if (shown_edit mode e page.tree) (shown_page mode page).tree w) s ≡ true
  left-shown (SetAttr serial name value) can kind s h = h
  left-shown (DropAttr serial name) can kind s h = h
  left-shown (SetText serial value) can kind s h = left-text (sight_at mode serial value page.tree) serial value can kind s h
  left-shown (Attach parent before x) can kind s h = left-attach (hidden_in mode x.row.label) _ kind s refl h
  left-shown (Detach serial) can kind s h = left-detach (hidden_in mode (label_at serial page.tree)) serial can kind s h

-- after an edit the watched nodes are among those that are shown
pub among-shown : (e : TreeEdit) (state : State) → IsValid state.side.page → CanApply state.side.page.next e state.side.page.tree
    → AreAmong state.client.watched (nodes_shown state)
    → AreAmong (watched_after e state) (alone (shown_page state.client.mode (after e state.side.page)).tree)
among-shown e state valid can is =
    let mode = state.client.mode in
    let page = state.side.page in
    let w = state.client.watched in
    let step = shown-steps mode page e valid can in
    let among : AreAmong (left_if (shown_edit mode e page.tree) (shown_page mode page).tree w)
    (alone (after_some (shown_edit mode e page.tree) (shown_page mode page)).tree) =
    among-if (shown_edit mode e page.tree) (shown_page mode page) w (shown-valid mode page valid) step.taken is in
    subst (λ (p : PageValue). AreAmong (watched_after e state) (alone p.tree)) (sym step.leads)
    (λ kind s h. among kind s (left-shown mode page valid w e step.taken kind s h))
