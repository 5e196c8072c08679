-- An edit of a page is, in the shown page, an edit that it takes, or none.
use Rattle.std.proofs.Common.{◌≡◌, ℕ, suc, ◌+◌, ◌≤◌, ◌==◌, ◌||◌, not, Bool, true, false, cond, List}
use Rattle.std.proofs.Common.{Option, Some, None, unwrap_or, is_some, IfSome, inl, inr, subst, refl, sym, ap, ◌∙◌, arith}
use Rattle.std.proofs.lemmas.Bool.{not-false, eq-eqb}
use Rattle.std.proofs.lemmas.Bool.Decides.{nat_tests}
use Rattle.std.specs.Prelude.{nat_le}
use Rattle.node_tree.specs.Nodes.{Nodes, node, Branch, alone, branch_count, height, map_branch}
use Rattle.node_tree.specs.Labels.{Label, holds, has_value, is_document, is_element, value_of}
use Rattle.node_tree.specs.LabelChanges.{with_attribute, without_attribute, with_value}
use Rattle.node_tree.specs.Keys.{tally, tally_in, At, here, within, past}
use Rattle.node_tree.specs.declared.Kind.{Kind}
use Rattle.node_tree.specs.declared.Kind.TheVariants.{Document, Element, Text, Comment, Doctype}
use Rattle.node_tree.specs.Levels.{max_level}
use Rattle.node_tree.proofs.NodeLemmas.{node_count-map_rows, height-map_rows}
use Rattle.node_tree.proofs.KeyLemmas.{height_above-at, tally-at, stands-find}
use Rattle.node_tree.proofs.ChangeLemmas.{at-new, count-at, tally_in-at, child_of, parent-at}
use Rattle.node_tree.proofs.PairLemmas.{left, right, both}
use Rattle.page_tree.specs.Forms.{max_nodes}
use Rattle.page_tree.specs.Pages.{PageRow, row_serial, row_label, PageValue, find_in, node_at, parent_at, level_at}
use Rattle.page_tree.specs.Edits.{relabelled, with_child, without_child, changed_at, after_tree, after, next_after, label_at, children_at}
use Rattle.page_tree.specs.Edits.{is_among}
use Rattle.page_tree.specs.EditFaults.{CanApply, edit_faults, is_live, is_live_or_0, is_place, kind_at, may_hold}
use Rattle.page_tree.specs.declared.edits.TreeEdit.{TreeEdit}
use Rattle.page_tree.specs.declared.edits.TreeEdit.TheVariants.{SetAttr, DropAttr, SetText, Attach, Detach}
use Rattle.page_tree.proofs.EditLemmas.{clear, unfaulted, changed, serial-live, live-tally, level-changed, parted, whole-after}
use Rattle.page_tree.proofs.ChildLemmas.{inserted-before, tally-inserted, count-inserted, height-inserted, among-tally}
use Rattle.page_tree.proofs.WholeLemmas.{Fits, Whole, whole-valid, sound-there, inserted-sound, formed-sound}
use Rattle.page_tree.proofs.InsertLemmas.{next-stays}
use Rattle.shown_pages.specs.declared.modes.Mode.{Mode}
use Rattle.shown_pages.specs.Modes.{hidden_in}
use Rattle.shown_pages.specs.ShownPages.{shown_nodes, shown_branch, shown_page}
use Rattle.shown_pages.specs.ShownEdits.{shown_from, shown_after, sight_of, shown_text_edit, shown_edit, after_some}
use Rattle.shown_pages.specs.ShownLaws.{ShownSteps}
use Rattle.shown_pages.proofs.HiddenLemmas.{holder-shown}
use Rattle.shown_pages.proofs.PlaceLemmas.{AreKeys, IsPlace, from-place, after-place}
use Rattle.shown_pages.proofs.ShownChildren.{taken-shown, taken-hidden, child-shown, put-hidden, put-shown}
use Rattle.shown_pages.proofs.ShownChildren.{child_put, child-gone, child-hidden, child-came, child-at}
use Rattle.shown_pages.proofs.ShownTrees.{alone-shown, whole-shown, holder-at, at-shown, top, IsChange, change-at}

-- ---- small steps

negated : {b : Bool} → b ≡ true → not b ≡ false
negated {b = true} e = refl
negated {b = false} e = absurd (cc)

or_first : (a b : Bool) → a ≡ true → (a || b) ≡ true
or_first true b e = refl
or_first false b e = absurd (cc)

or_second : (a b : Bool) → b ≡ true → (a || b) ≡ true
or_second true b e = refl
or_second false b e = e

valued_kind : (k : Kind) → has_value k ≡ true → is_document k ≡ false
valued_kind Document e = absurd (cc)
valued_kind Element e = refl
valued_kind Text e = refl
valued_kind Comment e = refl
valued_kind Doctype e = refl

element_holds : (k : Kind) → is_element k ≡ true → holds k ≡ true
element_holds Document e = absurd (cc)
element_holds Element e = refl
element_holds Text e = absurd (cc)
element_holds Comment e = absurd (cc)
element_holds Doctype e = absurd (cc)

fits_in : (a b : ℕ) → a ≤ b → nat_le a b ≡ true
fits_in a b h = grind (arith, nat_tests, h)

-- a change to itself changes nothing
pub at-same : {b : Branch PageRow} {depth : ℕ} {n m : Nodes PageRow} → At b b depth n m → n ≡ m
at-same (here t) = refl
at-same (within depth r c m t e) = ap (λ (u : Nodes PageRow). node r u t) (at-same e)
at-same (past depth r c t m e) = ap (node r c) (at-same e)

-- a change of a child of a changed node
module _ (old new p : Branch PageRow) (u : Nodes PageRow) where
  compose-at : {depth : ℕ} {n m : Nodes PageRow} → At p (record { row = p.row; children = u }) depth n m → At old new 0 p.children u
      → At old new (suc depth) n m
  compose-at (here t) e = within 0 p.row p.children u t e
  compose-at (within depth r c m t i) e = within (suc depth) r c m t (compose-at i e)
  compose-at (past depth r c t m i) e = past (suc depth) r c t m (compose-at i e)

-- ---- an attach that leads to a whole tree is taken

under_document : (above : Kind) (l : Label) → Fits (Some above) l → Fits (Some Document) l
under_document above l fits = record {
  formed = fits.formed;
  named = fits.named;
  stands = both (not (is_document l.kind)) true (left (not (is_document l.kind)) (may_hold above l.kind) fits.stands) refl;
}

can-attach : {next : ℕ} (tree : Branch PageRow) (parent before : ℕ) (w : Branch PageRow) → Whole next (alone tree)
    → is_live parent tree ≡ true → IsPlace before (children_at parent tree)
    → Whole next (alone (after_tree (Attach parent before w) tree)) → CanApply next (Attach parent before w) tree
can-attach {next} tree parent before w whole live place later =
    let e = changed parent (with_child before w) tree live in
    let i = inserted-before before w (children_at parent tree) in
    let level = level-changed parent tree e.1 (serial-live parent tree live) whole.distinct in
    let above = height_above-at e.1 in
    let low = later.low in
    let few = later.few in
    let high = height-inserted i in
    let more = count-inserted i in
    let count = count-at e.1 in
    let h = height-map_rows row_label w.children in
    let k = node_count-map_rows row_label w.children in
    let sound = inserted-sound i (sound-there None (at-new e.1) later.sound).2 in
    let fits = sound.1.0 in
    let formed = formed-sound Document (alone w) (under_document (kind_at parent tree) w.row.label fits, sound.1.1, tt) in
    let tallies : (x : ℕ) → tally row_serial x (alone (after_tree (Attach parent before w) tree))
    ≡ tally row_serial x (alone tree) + tally_in row_serial x w =
    λ x. let t = tally-at row_serial x e.1 in let u = tally-inserted x i in omega arith in
    let zero_or_live : is_live_or_0 before tree ≡ true = elim place [
      | inl z ↦ or_first (before == 0) (is_live before tree) (eq-eqb before 0 z)
      | inr p ↦ or_second (before == 0) (is_live before tree)
          (let a = among-tally before (children_at parent tree) p in
          let b = tally_in-at row_serial before e.1 in live-tally before tree (omega arith))
    ] in
    let placed : is_place parent before tree ≡ true = elim place [
      | inl z ↦ or_first (before == 0) (is_among before (children_at parent tree)) (eq-eqb before 0 z)
      | inr p ↦ or_second (before == 0) (is_among before (children_at parent tree)) p
    ] in
    record {
      fits = unfaulted (edit_faults (Attach parent before w) tree) (
        negated (both (is_live parent tree) (is_live_or_0 before tree) live zero_or_live),
        (
          negated placed,
          (
            negated (fits_in (level_at parent tree + height (alone (map_branch row_label w))) max_level (omega arith)),
            (
              negated (fits_in (branch_count tree + branch_count (map_branch row_label w)) max_nodes (omega arith)),
              (
                negated formed.named,
                (
                  negated (right (not (is_document w.row.label.kind)) (may_hold (kind_at parent tree) w.row.label.kind) fits.stands),
                  tt,
                ),
              ),
            ),
          ),
        ),
      );
      ready = record {
        formed = formed.formed;
        distinct = λ x. let t = tallies x in let d = later.distinct x in omega arith;
        least = λ x p. let t = tallies x in later.least x (omega arith);
        below_next = λ x p. let t = tallies x in later.below x (omega arith);
        apart = λ x p. let t = tallies x in let d = later.distinct x in omega arith;
      };
    }

-- ---- one edit of a tree

abbrev tree_after : Option TreeEdit → Branch PageRow → Branch PageRow
tree_after None tree = tree
tree_after (Some e) tree = after_tree e tree

-- this edit, if there is one, is taken by the tree, and leads to the other one
record IsStep (next : ℕ) (e : Option TreeEdit) (t1 t2 : Branch PageRow) : Type 0 where
  taken : IfSome e (λ f. CanApply next f t1)
  leads : tree_after e t1 ≡ t2

module _ (mode : Mode) (next : ℕ) (tree : Branch PageRow) (whole : Whole next (alone tree)) where
  abbrev shown : Branch PageRow → Branch PageRow
  shown b = shown_branch mode b

  below_whole : Whole next (alone (shown_branch mode tree))
  below_whole = whole-shown mode tree whole

  -- the change of a shown node
  seen_change : (serial : ℕ) (change : Branch PageRow → Branch PageRow) → is_live serial tree ≡ true
      → Whole next (alone (changed_at serial change tree)) → hidden_in mode (node_at serial tree).row.label ≡ false
      → hidden_in mode (change (node_at serial tree)).row.label ≡ false
      → (depth : ℕ) × At (shown_branch mode (node_at serial tree)) (shown_branch mode (change (node_at serial tree))) depth
      (alone (shown_branch mode tree)) (alone (shown_branch mode (changed_at serial change tree)))
  seen_change serial change live later e f =
      let c = changed serial change tree live in
      let a = at-shown mode None c.1 whole.sound e f in
      let first = subst (λ (m : Nodes PageRow). At (shown_branch mode (node_at serial tree))
      (shown_branch mode (change (node_at serial tree))) c.0 m (shown_nodes mode (alone (changed_at serial change tree))))
      (alone-shown mode tree whole) a in (
        c.0,
        subst (λ (m : Nodes PageRow). At (shown_branch mode (node_at serial tree))
            (shown_branch mode (change (node_at serial tree))) c.0 (alone (shown_branch mode tree)) m)
            (alone-shown mode (changed_at serial change tree) later) first,
      )

  -- is this one of what is shown
  pub seen_step : (serial : ℕ) (change f : Branch PageRow → Branch PageRow) → is_live serial tree ≡ true
      → Whole next (alone (changed_at serial change tree)) → hidden_in mode (node_at serial tree).row.label ≡ false
      → hidden_in mode (change (node_at serial tree)).row.label ≡ false
      → f (shown_branch mode (node_at serial tree)) ≡ shown_branch mode (change (node_at serial tree))
      → IsChange serial f (shown_branch mode (node_at serial tree)) (shown_branch mode tree)
      (shown_branch mode (changed_at serial change tree))
  seen_step serial change f live later e g is =
      let a = seen_change serial change live later e g in
      subst (λ (s : ℕ). IsChange s f (shown_branch mode (node_at serial tree)) (shown_branch mode tree)
      (shown_branch mode (changed_at serial change tree))) (serial-live serial tree live)
      (change-at (shown_branch mode (node_at serial tree)) (shown_branch mode (change (node_at serial tree))) (shown_branch mode tree)
      (shown_branch mode (changed_at serial change tree)) f a.1 below_whole.distinct is)

  -- or changes nothing
  seen_still : (serial : ℕ) (change : Branch PageRow → Branch PageRow) → is_live serial tree ≡ true
      → Whole next (alone (changed_at serial change tree)) → hidden_in mode (node_at serial tree).row.label ≡ false
      → hidden_in mode (change (node_at serial tree)).row.label ≡ false
      → shown_branch mode (change (node_at serial tree)) ≡ shown_branch mode (node_at serial tree)
      → shown_branch mode tree ≡ shown_branch mode (changed_at serial change tree)
  seen_still serial change live later e g is =
      let a = seen_change serial change live later e g in
      ap (top tree) (at-same (subst (λ (b : Branch PageRow). At (shown_branch mode (node_at serial tree)) b a.0
      (alone (shown_branch mode tree)) (alone (shown_branch mode (changed_at serial change tree)))) is a.1))

  live_seen : {serial : ℕ} {f : Branch PageRow → Branch PageRow} {b t2 : Branch PageRow} → IsChange serial f b (shown_branch mode tree) t2
      → is_live serial (shown_branch mode tree) ≡ true
  live_seen c = ap (λ (o : Option (Branch PageRow)). is_some o) c.found

  -- ---- another label

  label_step : (serial : ℕ) (f : Label → Label) → is_live serial tree ≡ true
      → Whole next (alone (changed_at serial (relabelled f) tree)) → hidden_in mode (label_at serial tree) ≡ false
      → hidden_in mode (f (label_at serial tree)) ≡ false
      → IsChange serial (relabelled f) (shown_branch mode (node_at serial tree)) (shown_branch mode tree)
      (shown_branch mode (changed_at serial (relabelled f) tree))
  label_step serial f live later e g = seen_step serial (relabelled f) (relabelled f) live later e g refl

  set_step : (serial : ℕ) (name value : List ℕ) → CanApply next (SetAttr serial name value) tree
      → IsStep next (Some (SetAttr serial name value)) (shown_branch mode tree)
      (shown_branch mode (after_tree (SetAttr serial name value) tree))
  set_step serial name value can =
      let tests = clear (edit_faults (SetAttr serial name value) tree) can.fits in
      let live = not-false _ tests.0 in
      let element = not-false _ tests.1.0 in
      let e = holder-shown mode (label_at serial tree) (element_holds (kind_at serial tree) element) in
      let f = holder-shown mode (with_attribute name value (label_at serial tree)) (element_holds (kind_at serial tree) element) in
      let c = label_step serial (with_attribute name value) live (whole-after next tree whole (SetAttr serial name value) can) e f in
      record {
        taken = record {
          fits = unfaulted (edit_faults (SetAttr serial name value) (shown_branch mode tree)) (
            negated (live_seen c),
            (negated (ap (λ (b : Branch PageRow). is_element b.row.label.kind) c.node ∙ element), (tests.1.1.0, tt)),
          );
          ready = tt;
        };
        leads = c.leads;
      }

  drop_step : (serial : ℕ) (name : List ℕ) → CanApply next (DropAttr serial name) tree
      → IsStep next (Some (DropAttr serial name)) (shown_branch mode tree) (shown_branch mode (after_tree (DropAttr serial name) tree))
  drop_step serial name can =
      let tests = clear (edit_faults (DropAttr serial name) tree) can.fits in
      let live = not-false _ tests.0 in
      let element = not-false _ tests.1.0 in
      let there = not-false _ tests.1.1.1.0 in
      let e = holder-shown mode (label_at serial tree) (element_holds (kind_at serial tree) element) in
      let f = holder-shown mode (without_attribute name (label_at serial tree)) (element_holds (kind_at serial tree) element) in
      let c = label_step serial (without_attribute name) live (whole-after next tree whole (DropAttr serial name) can) e f in
      record {
        taken = record {
          fits = unfaulted (edit_faults (DropAttr serial name) (shown_branch mode tree)) (
            negated (live_seen c),
            (
              negated (ap (λ (b : Branch PageRow). is_element b.row.label.kind) c.node ∙ element),
              (
                tests.1.1.0,
                (negated (ap (λ (b : Branch PageRow). is_some (value_of name b.row.label.attributes)) c.node ∙ there), tt),
              ),
            ),
          );
          ready = tt;
        };
        leads = c.leads;
      }

  -- ---- a child of a node

  -- what holds another node is shown
  parent_shown : (serial : ℕ) (w : Branch PageRow) (parent : ℕ) → is_live parent tree ≡ true
      → child_of row_serial serial (children_at parent tree) ≡ Some w → hidden_in mode (label_at parent tree) ≡ false
  parent_shown serial w parent live child =
      let e = changed parent (λ b. b) tree live in
      let s = (sound-there None e.1 whole.sound).2 in
      holder-shown mode (label_at parent tree)
      (holder-at (kind_at parent tree) (child-at serial w w (children_at parent tree) child) s)

  keys_at : (parent : ℕ) → is_live parent tree ≡ true → AreKeys (children_at parent tree)
  keys_at parent live =
      let e = changed parent (λ b. b) tree live in
      record {
        once = λ x. let h = whole.distinct x in let t = tally_in-at row_serial x e.1 in omega arith;
        least = λ x p. let t = tally_in-at row_serial x e.1 in whole.least x (omega arith);
      }

  parent_seen : (serial parent : ℕ) (w : Branch PageRow) → is_live parent tree ≡ true
      → find_in parent (shown_branch mode tree) ≡ Some (shown_branch mode (node_at parent tree))
      → child_of row_serial serial (shown_nodes mode (children_at parent tree)) ≡ Some w
      → parent_at serial (shown_branch mode tree) ≡ parent
  parent_seen serial parent w live found child =
      let s = stands-find row_serial parent (alone (shown_branch mode tree)) (shown_branch mode (node_at parent tree)) found in
      let p = parent-at row_serial serial 0 w s.2 child (below_whole.distinct serial) in
      ap (λ (o : Option ℕ). unwrap_or o 0) p.0 ∙ serial-live parent tree live

  -- ---- an attach

  attach_shown : (parent before : ℕ) (w : Branch PageRow) → CanApply next (Attach parent before w) tree → hidden_in mode w.row.label ≡ false
      → IsStep next (Some (Attach parent (shown_from mode before (children_at parent tree)) (shown_branch mode w)))
      (shown_branch mode tree) (shown_branch mode (after_tree (Attach parent before w) tree))
  attach_shown parent before w can e =
      let place : ℕ = shown_from mode before (children_at parent tree) in
      let tests = clear (edit_faults (Attach parent before w) tree) can.fits in
      let live = left (is_live parent tree) _ (not-false _ tests.0) in
      let held = not-false _ tests.1.1.1.1.1.0 in
      let later = whole-after next tree whole (Attach parent before w) can in
      let holder = holder-shown mode (label_at parent tree) (left (holds (kind_at parent tree)) _ held) in
      let c = seen_step parent (with_child before w) (with_child (shown_from mode before (children_at parent tree)) (shown_branch mode w))
      live later holder holder
      (ap (λ (m : Nodes PageRow). record { row = (node_at parent tree).row; children = m })
      (sym (put-shown mode before w (children_at parent tree) e (keys_at parent live)))) in
      let kids : children_at parent (shown_branch mode tree)
      ≡ shown_nodes mode (children_at parent tree) = ap (λ (b : Branch PageRow). b.children) c.node in
      record {
        taken = can-attach (shown_branch mode tree) parent (shown_from mode before (children_at parent tree)) (shown_branch mode w)
            below_whole (live_seen c)
            (subst (λ (m : Nodes PageRow). IsPlace (shown_from mode before (children_at parent tree)) m) (sym kids)
            (from-place mode before (children_at parent tree)))
            (subst (λ (t : Branch PageRow). Whole next (alone t)) (sym c.leads)
            (whole-shown mode (after_tree (Attach parent before w) tree) later));
        leads = c.leads;
      }

  attach_hidden : (parent before : ℕ) (w : Branch PageRow) → CanApply next (Attach parent before w) tree → hidden_in mode w.row.label ≡ true
      → IsStep next None (shown_branch mode tree) (shown_branch mode (after_tree (Attach parent before w) tree))
  attach_hidden parent before w can e =
      let tests = clear (edit_faults (Attach parent before w) tree) can.fits in
      let live = left (is_live parent tree) _ (not-false _ tests.0) in
      let held = not-false _ tests.1.1.1.1.1.0 in
      let later = whole-after next tree whole (Attach parent before w) can in
      let holder = holder-shown mode (label_at parent tree) (left (holds (kind_at parent tree)) _ held) in
      record {
        taken = tt;
        leads = seen_still parent (with_child before w) live later holder holder
            (ap (λ (m : Nodes PageRow). record { row = (node_at parent tree).row; children = m })
            (put-hidden mode before w (children_at parent tree) e));
      }

  attach_step : (b : Bool) (parent before : ℕ) (w : Branch PageRow) → hidden_in mode w.row.label ≡ b
      → CanApply next (Attach parent before w) tree
      → IsStep next (cond b None (Some (Attach parent (shown_from mode before (children_at parent tree)) (shown_branch mode w))))
      (shown_branch mode tree) (shown_branch mode (after_tree (Attach parent before w) tree))
  attach_step true parent before w e can = attach_hidden parent before w can e
  attach_step false parent before w e can = attach_shown parent before w can e

  -- ---- a detach

  detach_step : (b : Bool) (serial : ℕ) → hidden_in mode (label_at serial tree) ≡ b → CanApply next (Detach serial) tree
      → IsStep next (cond b None (Some (Detach serial))) (shown_branch mode tree) (shown_branch mode (after_tree (Detach serial) tree))
  detach_step true serial e can =
      let tests = clear (edit_faults (Detach serial) tree) can.fits in
      let live = not-false _ tests.0 in
      let part = parted serial tree whole live tests.1.0 in
      let later = whole-after next tree whole (Detach serial) can in
      let holder = parent_shown serial (node_at serial tree) (parent_at serial tree) part.live part.child in
      record {
        taken = tt;
        leads = seen_still (parent_at serial tree) (without_child serial) part.live later holder holder
            (ap (λ (m : Nodes PageRow). record { row = (node_at (parent_at serial tree) tree).row; children = m })
            (taken-hidden mode serial (node_at serial tree) (children_at (parent_at serial tree) tree) part.child e));
      }
  detach_step false serial e can =
      let tests = clear (edit_faults (Detach serial) tree) can.fits in
      let live = not-false _ tests.0 in
      let part = parted serial tree whole live tests.1.0 in
      let later = whole-after next tree whole (Detach serial) can in
      let holder = parent_shown serial (node_at serial tree) (parent_at serial tree) part.live part.child in
      let c = seen_step (parent_at serial tree) (without_child serial) (without_child serial) part.live later holder holder
      (ap (λ (m : Nodes PageRow). record { row = (node_at (parent_at serial tree) tree).row; children = m })
      (sym (taken-shown mode serial (node_at serial tree) (children_at (parent_at serial tree) tree) part.child e))) in
      let own = seen_step serial (λ b. b) (λ b. b) live (same_tree serial live) e e refl in
      record {
        taken = record {
          fits = unfaulted (edit_faults (Detach serial) (shown_branch mode tree))
              (negated (live_seen own), (ap (λ (b : Branch PageRow). is_document b.row.label.kind) own.node ∙ tests.1.0, tt));
          ready = tt;
        };
        leads =
            ap (λ (p : ℕ). changed_at p (without_child serial) (shown_branch mode tree))
            (parent_seen serial (parent_at serial tree) (shown_branch mode (node_at serial tree)) part.live c.found
            (child-shown mode serial (node_at serial tree) (children_at (parent_at serial tree) tree) part.child e))
            ∙ c.leads;
      }
    where
      same_tree : (serial : ℕ) → is_live serial tree ≡ true → Whole next (alone (changed_at serial (λ b. b) tree))
      same_tree serial live =
          let e = changed serial (λ b. b) tree live in
          subst (λ (m : Nodes PageRow). Whole next m) (at-same e.1) whole

  -- ---- a text

  -- a change of a node is a change of its parent's children
  abbrev turned : ℕ → Branch PageRow → Branch PageRow → Branch PageRow
  turned serial new b = record { row = b.row; children = child_put serial new b.children }

  by_parent : (serial : ℕ) (change : Branch PageRow → Branch PageRow) → is_live serial tree ≡ true
      → is_document (kind_at serial tree) ≡ false
      → changed_at serial change tree ≡ changed_at (parent_at serial tree) (turned serial (change (node_at serial tree))) tree
  by_parent serial change live apart =
      let part = parted serial tree whole live apart in
      let e = changed (parent_at serial tree) (turned serial (change (node_at serial tree))) tree part.live in
      let a = compose-at (node_at serial tree) (change (node_at serial tree)) (node_at (parent_at serial tree) tree)
      (child_put serial (change (node_at serial tree)) (children_at (parent_at serial tree) tree)) e.1
      (child-at serial (node_at serial tree) (change (node_at serial tree)) (children_at (parent_at serial tree) tree) part.child) in
      let c = change-at (node_at serial tree) (change (node_at serial tree)) tree
      (changed_at (parent_at serial tree) (turned serial (change (node_at serial tree))) tree) change a whole.distinct refl in
      subst (λ (s : ℕ). changed_at s change tree
      ≡ changed_at (parent_at serial tree) (turned serial (change (node_at serial tree))) tree) (serial-live serial tree live) c.leads

  text_step : (was will : Bool) (serial : ℕ) (value : List ℕ) → hidden_in mode (label_at serial tree) ≡ was
      → hidden_in mode (with_value value (label_at serial tree)) ≡ will → CanApply next (SetText serial value) tree
      → IsStep next (shown_text_edit mode (sight_of was will) serial value tree) (shown_branch mode tree)
      (shown_branch mode (after_tree (SetText serial value) tree))
  text_step false false serial value e f can =
      let tests = clear (edit_faults (SetText serial value) tree) can.fits in
      let live = not-false _ tests.0 in
      let c = label_step serial (with_value value) live (whole-after next tree whole (SetText serial value) can) e f in
      record {
        taken = record {
          fits = unfaulted (edit_faults (SetText serial value) (shown_branch mode tree)) (
            negated (live_seen c),
            (negated (ap (λ (b : Branch PageRow). has_value b.row.label.kind) c.node ∙ not-false _ tests.1.0), tt),
          );
          ready = tt;
        };
        leads = c.leads;
      }
  text_step true true serial value e f can =
      let tests = clear (edit_faults (SetText serial value) tree) can.fits in
      let live = not-false _ tests.0 in
      let apart = valued_kind (kind_at serial tree) (not-false _ tests.1.0) in
      let part = parted serial tree whole live apart in
      let new : Branch PageRow = relabelled (with_value value) (node_at serial tree) in
      let same = by_parent serial (relabelled (with_value value)) live apart in
      let later = subst (λ (t : Branch PageRow). Whole next (alone t)) same (whole-after next tree whole (SetText serial value) can) in
      let holder = parent_shown serial (node_at serial tree) (parent_at serial tree) part.live part.child in
      record {
        taken = tt;
        leads =
            seen_still (parent_at serial tree) (turned serial (relabelled (with_value value) (node_at serial tree))) part.live later
            holder holder
            (ap (λ (m : Nodes PageRow). record { row = (node_at (parent_at serial tree) tree).row; children = m })
            (child-hidden mode serial (node_at serial tree) (relabelled (with_value value) (node_at serial tree))
            (children_at (parent_at serial tree) tree) part.child e f))
            ∙ ap (λ (t : Branch PageRow). shown_branch mode t) (sym same);
      }
  text_step false true serial value e f can =
      let tests = clear (edit_faults (SetText serial value) tree) can.fits in
      let live = not-false _ tests.0 in
      let apart = valued_kind (kind_at serial tree) (not-false _ tests.1.0) in
      let part = parted serial tree whole live apart in
      let same = by_parent serial (relabelled (with_value value)) live apart in
      let later = subst (λ (t : Branch PageRow). Whole next (alone t)) same (whole-after next tree whole (SetText serial value) can) in
      let holder = parent_shown serial (node_at serial tree) (parent_at serial tree) part.live part.child in
      let c = seen_step (parent_at serial tree) (turned serial (relabelled (with_value value) (node_at serial tree))) (without_child serial)
      part.live later holder holder
      (ap (λ (m : Nodes PageRow). record { row = (node_at (parent_at serial tree) tree).row; children = m })
      (sym (child-gone mode serial (node_at serial tree) (relabelled (with_value value) (node_at serial tree))
      (children_at (parent_at serial tree) tree) part.child e f))) in
      let own = seen_step serial (λ b. b) (λ b. b) live (same_tree serial live) e e refl in
      record {
        taken = record {
          fits = unfaulted (edit_faults (Detach serial) (shown_branch mode tree))
              (negated (live_seen own), (ap (λ (b : Branch PageRow). is_document b.row.label.kind) own.node ∙ apart, tt));
          ready = tt;
        };
        leads =
            ap (λ (p : ℕ). changed_at p (without_child serial) (shown_branch mode tree))
            (parent_seen serial (parent_at serial tree) (shown_branch mode (node_at serial tree)) part.live c.found
            (child-shown mode serial (node_at serial tree) (children_at (parent_at serial tree) tree) part.child e))
            ∙ c.leads
            ∙ ap (λ (t : Branch PageRow). shown_branch mode t) (sym same);
      }
    where
      same_tree : (serial : ℕ) → is_live serial tree ≡ true → Whole next (alone (changed_at serial (λ b. b) tree))
      same_tree serial live =
          let e = changed serial (λ b. b) tree live in
          subst (λ (m : Nodes PageRow). Whole next m) (at-same e.1) whole
  text_step true false serial value e f can =
      let tests = clear (edit_faults (SetText serial value) tree) can.fits in
      let live = not-false _ tests.0 in
      let apart = valued_kind (kind_at serial tree) (not-false _ tests.1.0) in
      let part = parted serial tree whole live apart in
      let same = by_parent serial (relabelled (with_value value)) live apart in
      let later = subst (λ (t : Branch PageRow). Whole next (alone t)) same (whole-after next tree whole (SetText serial value) can) in
      let holder = parent_shown serial (node_at serial tree) (parent_at serial tree) part.live part.child in
      let c = seen_step (parent_at serial tree) (turned serial (relabelled (with_value value) (node_at serial tree)))
      (with_child (shown_after mode serial (children_at (parent_at serial tree) tree))
      (shown_branch mode (relabelled (with_value value) (node_at serial tree)))) part.live later holder holder
      (ap (λ (m : Nodes PageRow). record { row = (node_at (parent_at serial tree) tree).row; children = m })
      (sym (child-came mode serial (node_at serial tree) (relabelled (with_value value) (node_at serial tree))
      (children_at (parent_at serial tree) tree) part.child e f (keys_at (parent_at serial tree) part.live)))) in
      let kids : children_at (parent_at serial tree) (shown_branch mode tree)
      ≡ shown_nodes mode (children_at (parent_at serial tree) tree) = ap (λ (b : Branch PageRow). b.children) c.node in
      record {
        taken = can-attach (shown_branch mode tree) (parent_at serial tree)
            (shown_after mode serial (children_at (parent_at serial tree) tree))
            (shown_branch mode (relabelled (with_value value) (node_at serial tree))) below_whole (live_seen c)
            (subst (λ (m : Nodes PageRow). IsPlace (shown_after mode serial (children_at (parent_at serial tree) tree)) m) (sym kids)
            (after-place mode serial (children_at (parent_at serial tree) tree)))
            (subst (λ (t : Branch PageRow). Whole next (alone t)) (sym c.leads)
            (whole-shown mode
            (changed_at (parent_at serial tree) (turned serial (relabelled (with_value value) (node_at serial tree))) tree) later));
        leads = c.leads ∙ ap (λ (t : Branch PageRow). shown_branch mode t) (sym same);
      }

  -- ---- each edit

  any_step : (e : TreeEdit) → CanApply next e tree
      → IsStep next (shown_edit mode e tree) (shown_branch mode tree) (shown_branch mode (after_tree e tree))
  any_step (SetAttr serial name value) can = set_step serial name value can
  any_step (DropAttr serial name) can = drop_step serial name can
  any_step (SetText serial value) can =
      text_step (hidden_in mode (label_at serial tree)) (hidden_in mode (with_value value (label_at serial tree))) serial value
      refl refl can
  any_step (Attach parent before w) can = attach_step (hidden_in mode w.row.label) parent before w refl can
  any_step (Detach serial) can = detach_step (hidden_in mode (label_at serial tree)) serial refl can

page_step : (mode : Mode) (page : PageValue) (e : TreeEdit) (o : Option TreeEdit) → next_after e page.next ≡ page.next
    → IsStep page.next o (shown_branch mode page.tree) (shown_branch mode (after_tree e page.tree))
    → shown_page mode (after e page) ≡ after_some o (shown_page mode page)
page_step mode page e None stays s = λ i. record { tree = (sym s.leads) i; next = stays i }
page_step mode page e (Some f) stays s =
    let kept : next_after f page.next ≡ page.next = next-stays (shown_page mode page) f s.taken in
    let nexts : next_after e page.next ≡ next_after f page.next = stays ∙ sym kept in
    λ i. record { tree = (sym s.leads) i; next = nexts i }

pub shown-steps : ShownSteps
shown-steps mode page e valid can =
    let s = any_step mode page.next page.tree (whole-valid page valid) e can in
    record { taken = s.taken; leads = page_step mode page e (shown_edit mode e page.tree) (next-stays page e can) s }
