-- A page after an edit is valid.
use Rattle.std.proofs.Common.{◌≡◌, ◌⊎◌, ℕ, zero, suc, ◌+◌, ◌<◌, ◌≤◌, ◌==◌, List, [], ◌∷◌, Bool, true, false, not, ◌&&◌, ◌||◌, cond, Option}
use Rattle.std.proofs.Common.{Some, None, is_some, unwrap_or, inl, inr, subst, refl, sym, ap, ◌∙◌, arith}
use Rattle.std.specs.List.{list_all}
use Rattle.std.proofs.lemmas.Bool.{not-false, leb-true}
use Rattle.node_tree.specs.Nodes.{Nodes, Branch, alone, node_count, branch_count, height, map_branch}
use Rattle.node_tree.specs.Names.{is_attribute_name}
use Rattle.node_tree.specs.Labels.{Pair, Label, is_document, is_doctype, is_element, has_value, is_ascending, is_formed_label}
use Rattle.node_tree.specs.Labels.{is_named_label}
use Rattle.node_tree.specs.Keys.{tally, tally_in, find, At, first_true}
use Rattle.node_tree.proofs.NodeLemmas.{node_count-map_rows, height-map_rows}
use Rattle.node_tree.proofs.KeyLemmas.{height_above-at, found_key, find-stands, has-find, has-there}
use Rattle.node_tree.proofs.ChangeLemmas.{at-old, at-put_root, level-at, child_of, held}
use Rattle.node_tree.specs.declared.Kind.{Kind}
use Rattle.node_tree.specs.declared.Kind.TheVariants.{Document}
use Rattle.page_tree.specs.Forms.{max_nodes, are_formed, are_named}
use Rattle.node_tree.specs.Levels.{max_level}
use Rattle.page_tree.specs.Pages.{PageRow, row_serial, row_label, find_in, node_at, parent_at, level_at}
use Rattle.page_tree.specs.Loads.{placed}
use Rattle.page_tree.specs.Edits.{pairs_without, with_attribute, without_attribute, with_value, relabelled, with_child, without_child}
use Rattle.page_tree.specs.Edits.{taken_out, changed_at, after_tree, after, next_after, label_at, children_at}
use Rattle.page_tree.specs.EditFaults.{is_live, kind_at, may_hold, CanAttach, CanApply, edit_faults}
use Rattle.page_tree.specs.EditLaws.{AfterLaw}
use Rattle.page_tree.specs.declared.edits.TreeEdit.{TreeEdit}
use Rattle.page_tree.specs.declared.edits.TreeEdit.TheVariants.{SetAttr, DropAttr, SetText, Attach, Detach}
use Rattle.node_tree.proofs.PairLemmas.{both, left, right, is_ascending-placed, names-placed, names-without, ascending-without}
use Rattle.page_tree.proofs.ChildLemmas.{Inserted, tally-inserted, count-inserted, height-inserted, inserted-before, inserted-taken}
use Rattle.page_tree.proofs.WholeLemmas.{Fits, Sound, Whole, Owes, AreNew, whole-at, whole-later, whole-valid, valid-whole, sound-there}
use Rattle.page_tree.proofs.WholeLemmas.{sound-formed, sound-inserted, inserted-sound}

-- ---- no fault: no test holds

abbrev pub AllClear : {F : Type 0} → List (F × Bool) → Type 0
AllClear [] = Unit {0}
AllClear (x ∷ xs) = (x.1 ≡ false) × AllClear xs

clear_step : {F : Type 0} (f : F) (b : Bool) (xs : List (F × Bool)) → cond b (Some f) (first_true xs) ≡ None
    → (first_true xs ≡ None → AllClear xs) → (b ≡ false) × AllClear xs
clear_step f true xs e k = absurd (cc)
clear_step f false xs e k = (refl, k e)

pub clear : {F : Type 0} (xs : List (F × Bool)) → first_true xs ≡ None → AllClear xs
clear [] e = tt
clear (x ∷ xs) e = clear_step x.0 x.1 xs e (clear xs)

pub unfaulted : {F : Type 0} (xs : List (F × Bool)) → AllClear xs → first_true xs ≡ None
unfaulted [] c = refl
unfaulted (x ∷ xs) (e, c) = rw e (unfaulted xs c)

-- ---- a live node, and a tree with one node changed

some_is : (o : Option (Branch PageRow)) (d : Branch PageRow) → is_some o ≡ true → o ≡ Some (unwrap_or o d)
some_is None d e = absurd (cc)
some_is (Some x) d e = refl

pub found-live : (serial : ℕ) (tree : Branch PageRow) → is_live serial tree ≡ true
    → find row_serial serial (alone tree) ≡ Some (node_at serial tree)
found-live serial tree live = some_is (find_in serial tree) tree live

pub serial-live : (serial : ℕ) (tree : Branch PageRow) → is_live serial tree ≡ true → (node_at serial tree).row.serial ≡ serial
serial-live serial tree live = found_key row_serial serial (alone tree) (node_at serial tree) (found-live serial tree live)

-- what is among the nodes of a tree is live
pub live-tally : (serial : ℕ) (tree : Branch PageRow) → 0 < tally row_serial serial (alone tree) → is_live serial tree ≡ true
live-tally serial tree h = sym (has-find row_serial serial (alone tree)) ∙ has-there row_serial serial (alone tree) h

pub changed : (serial : ℕ) (change : Branch PageRow → Branch PageRow) (tree : Branch PageRow) → is_live serial tree ≡ true
    → (depth : ℕ) × At (node_at serial tree) (change (node_at serial tree)) depth (alone tree) (alone (changed_at serial change tree))
changed serial change tree live = at-put_root row_serial serial (change (node_at serial tree)) tree (node_at serial tree)
    (found-live serial tree live)

-- the level of the changed node is its depth
pub level-changed : {old new : Branch PageRow} {depth : ℕ} {m : Nodes PageRow} (serial : ℕ) (tree : Branch PageRow)
    → At old new depth (alone tree) m → old.row.serial ≡ serial → ((x : ℕ) → tally row_serial x (alone tree) ≤ 1)
    → level_at serial tree ≡ depth
level-changed {old} {depth = d} serial tree e is once =
    let z : 0 + d ≡ d = omega arith in
    subst (λ (s : ℕ). level_at s tree ≡ d) is (ap (λ o. unwrap_or o 0) (level-at row_serial 0 e (once old.row.serial)) ∙ z)

-- ---- another label

module _ {next depth : ℕ} {old : Branch PageRow} {n m : Nodes PageRow} where
  depth-old : Whole next n → {new : Branch PageRow} → At old new depth n m → depth + suc (height old.children) ≤ suc max_level
  depth-old whole e = let h = height_above-at (at-old e) in let low = whole.low in omega arith

  relabel_owes : (f : Label → Label) → Whole next n → At old (relabelled f old) depth n m → old.row.label.kind ≡ (f old.row.label).kind
      → is_formed_label (f old.row.label) ≡ true → is_named_label (f old.row.label) ≡ true
      → Owes next depth old (relabelled f old) n
  relabel_owes f whole e kind formed named =
      let s = sound-there None e whole.sound in
      let few = whole.few in
      record {
        kind = kind;
        formed = formed;
        named = named;
        sound = subst (λ k. Sound (Some k) old.children) kind s.2;
        low = depth-old whole e;
        few = omega arith;
        more = λ x. 0;
        serials = λ x. omega arith;
        are_new = record {
          once = λ x. let d = whole.distinct x in omega arith;
          least = λ x p. absurd (omega arith);
          below = λ x p. absurd (omega arith);
        };
      }

attributes_formed : (element ascending ascending2 empty empty2 u v : Bool) → element ≡ true
    → ((cond element ascending empty && u) && v) ≡ true → ascending2 ≡ true → ((cond element ascending2 empty2 && u) && v) ≡ true
attributes_formed true ascending ascending2 empty empty2 u v is e h = both _ _ (both _ _ h (right ascending u (left (ascending && u) v e)))
    (right (ascending && u) v e)
attributes_formed false ascending ascending2 empty empty2 u v is e h = absurd (cc)

attributes_ascend : (element ascending empty u v : Bool) → element ≡ true → ((cond element ascending empty && u) && v) ≡ true
    → ascending ≡ true
attributes_ascend true ascending empty u v is e = left ascending u (left (ascending && u) v e)
attributes_ascend false ascending empty u v is e = absurd (cc)

value_formed : (valued empty empty2 u : Bool) → valued ≡ true → (u && cond valued true empty) ≡ true → (u && cond valued true empty2) ≡ true
value_formed true empty empty2 u is e = e
value_formed false empty empty2 u is e = absurd (cc)

-- the attributes of an element ascend
pub ascending-element : (l : Label) → is_element l.kind ≡ true → is_formed_label l ≡ true → is_ascending l.attributes ≡ true
ascending-element l is formed = attributes_ascend (is_element l.kind) _ _ _ _ is formed

with_pairs : (l : Label) (pairs : List Pair) → is_element l.kind ≡ true → is_formed_label l ≡ true → is_ascending pairs ≡ true
    → is_formed_label (record l { attributes = pairs }) ≡ true
with_pairs l pairs is formed ascends = attributes_formed (is_element l.kind) (is_ascending l.attributes)
    (is_ascending pairs) _ _ _ _ is formed ascends

-- ---- a child put in or taken out

zero_or_more : (k : ℕ) → (k ≡ 0) ⊎ (0 < k)
zero_or_more zero = inl refl
zero_or_more (suc k) = inr (omega arith)

module _ {next depth : ℕ} {old : Branch PageRow} {n m : Nodes PageRow} (w : Branch PageRow) where
  attach_owes : (before : ℕ) → Whole next n → At old (with_child before w old) depth n m → Sound (Some old.row.label.kind) (alone w)
      → depth + height (alone w) ≤ max_level → node_count n + branch_count w ≤ max_nodes
      → AreNew next n (λ x. tally_in row_serial x w) → Owes next depth old (with_child before w old) n
  attach_owes before whole e fits low room are_new =
      let s = sound-there None e whole.sound in
      let i = inserted-before before w old.children in
      let h = height-inserted i in
      let k = count-inserted i in
      let d = depth-old whole e in
      record {
        kind = refl;
        formed = s.1.formed;
        named = s.1.named;
        sound = sound-inserted i s.2 fits;
        low = omega arith;
        few = omega arith;
        more = λ x. tally_in row_serial x w;
        serials = λ x. let t = tally-inserted x i in omega arith;
        are_new = are_new;
      }

  detach_owes : (serial : ℕ) → Whole next n → At old (without_child serial old) depth n m
      → Inserted w (taken_out serial old.children) old.children → Owes next depth old (without_child serial old) n
  detach_owes serial whole e i =
      let s = sound-there None e whole.sound in
      let h = height-inserted i in
      let k = count-inserted i in
      let d = depth-old whole e in
      let few = whole.few in
      record {
        kind = refl;
        formed = s.1.formed;
        named = s.1.named;
        sound = (inserted-sound i s.2).0;
        low = omega arith;
        few = omega arith;
        more = λ x. 0;
        serials = λ x. let t = tally-inserted x i in omega arith;
        are_new = record {
          once = λ x. let d = whole.distinct x in omega arith;
          least = λ x p. absurd (omega arith);
          below = λ x p. absurd (omega arith);
        };
      }

-- ---- what an attach and a detach find

may_hold_parts : (d top h p : Bool) → (h && (top || not p)) ≡ true → not d ≡ true → (not d && (h && (top || not p))) ≡ true
may_hold_parts true top h p e f = absurd (cc)
may_hold_parts false top h p e f = e

-- a form that may be inserted, and whose names have their forms, is sound below what may hold it
pub sound-form : (above : Branch PageRow) (w : Branch PageRow) → are_formed true (alone (map_branch row_label w)) ≡ true
    → are_named (alone (map_branch row_label w)) ≡ true → may_hold above.row.label.kind w.row.label.kind ≡ true
    → Sound (Some above.row.label.kind) (alone w)
sound-form above w formed named held =
    let whole = sound-formed_document w formed named in (
      record {
        formed = whole.0.formed;
        named = whole.0.named;
        stands = may_hold_parts (is_document w.row.label.kind) (is_document above.row.label.kind) _ (is_doctype w.row.label.kind) held
            (left (not (is_document w.row.label.kind)) _ whole.0.stands);
      },
      whole.1,
      tt,
    )
  where
    sound-formed_document : (w : Branch PageRow) → are_formed true (alone (map_branch row_label w)) ≡ true
        → are_named (alone (map_branch row_label w)) ≡ true → Sound (Some Document) (alone w)
    sound-formed_document w formed named = sound-formed Document (alone w) formed named refl

pub are_new-attach : (next : ℕ) (w tree : Branch PageRow) → CanAttach next w tree → ((x : ℕ) → tally row_serial x (alone tree) ≤ 1)
    → AreNew next (alone tree) (λ x. tally_in row_serial x w)
are_new-attach next w tree can once = record {
  once = λ x. elim (zero_or_more
      (tally_in row_serial x w)) [
        | inl z ↦ let o = once x in omega arith
        | inr p ↦ let a = can.apart x p in let d = can.distinct x in omega
            arith
      ];
  least = can.least;
  below = can.below_next;
}

-- a node that is not the document is a child of its parent
pub record Parted (serial : ℕ) (tree : Branch PageRow) : Type 0 where
  pub live : is_live (parent_at serial tree) tree ≡ true
  pub child : child_of row_serial serial (children_at (parent_at serial tree) tree) ≡ Some (node_at serial tree)

top_step : (b : Bool) (tree w : Branch PageRow) → cond b (Some tree) None ≡ Some w → tree ≡ w
top_step true tree w e = cc
top_step false tree w e = absurd (cc)

pub parted : {next : ℕ} (serial : ℕ) (tree : Branch PageRow) → Whole next (alone tree) → is_live serial tree ≡ true
    → is_document (kind_at serial tree) ≡ false → Parted serial tree
parted serial tree whole live apart =
    elim (held row_serial serial 0 (alone tree) (node_at serial tree) (found-live serial tree live)) [
      | inl top ↦ absurd (let same = top_step (tree.row.serial == serial) tree
          (node_at serial tree) top.0 in let e : is_document tree.row.label.kind
          ≡ false = ap (λ (b : Branch PageRow). is_document b.row.label.kind) same ∙ apart in let f : is_document tree.row.label.kind
          ≡ true = whole.sound.0.stands in cc)
      | inr h ↦
          let is : parent_at serial tree ≡ h.holder.row.serial = ap (λ o. unwrap_or o 0) h.parent in
          let found : find_in h.holder.row.serial tree
          ≡ Some h.holder = find-stands row_serial h.holder (alone tree) h.stands (whole.distinct h.holder.row.serial) in
          let there : is_live h.holder.row.serial tree ≡ true = ap (λ (o : Option (Branch PageRow)). is_some o) found in
          let child : child_of row_serial serial (children_at h.holder.row.serial tree)
          ≡ Some (node_at serial tree) = ap
          (λ (o : Option (Branch PageRow)). child_of row_serial serial (unwrap_or o tree).children) found ∙ h.child in
          record {
            live = subst (λ (p : ℕ). is_live p tree ≡ true) (sym is) there;
            child = subst (λ (p : ℕ). child_of row_serial serial (children_at p tree) ≡ Some (node_at serial tree)) (sym is) child;
          }
    ]

-- ---- after an edit

module _ (next : ℕ) (tree : Branch PageRow) (whole : Whole next (alone tree)) where
  relabelled_whole : (serial : ℕ) (f : Label → Label) → is_live serial tree ≡ true
      → (label_at serial tree).kind ≡ (f (label_at serial tree)).kind → is_formed_label (f (label_at serial tree)) ≡ true
      → is_named_label (f (label_at serial tree)) ≡ true → Whole next (alone (changed_at serial (relabelled f) tree))
  relabelled_whole serial f live kind formed named =
      let e = changed serial (relabelled f) tree live in
      whole-at (omega arith) whole e.1 (relabel_owes f whole e.1 kind formed named)

  -- the label of a live node is in its form
  pub fits-live : (serial : ℕ) → is_live serial tree ≡ true
      → (above : Option Kind) × Fits above (label_at serial tree) × Sound (Some (kind_at serial tree)) (children_at serial tree)
  fits-live serial live = let e = changed serial (λ b. b) tree live in sound-there None e.1 whole.sound

  pub whole-after : (e : TreeEdit) → CanApply next e tree → Whole next (alone (after_tree e tree))
  whole-after (SetAttr serial name value) can =
      let tests = clear (edit_faults (SetAttr serial name value) tree) can.fits in
      let live = not-false _ tests.0 in
      let element = not-false _ tests.1.0 in
      let named = not-false _ tests.1.1.0 in
      let fits = (fits-live serial live).1 in
      let l = label_at serial tree in
      relabelled_whole serial (with_attribute name value) live refl
      (with_pairs l (placed (name, value) l.attributes) element fits.formed
      (is_ascending-placed (name, value) l.attributes (ascending-element l element fits.formed)))
      (both _ _ (left _ _ fits.named)
      (names-placed name value is_attribute_name l.attributes named
      (right _ (list_all (λ p. is_attribute_name p.0) l.attributes) fits.named)))
  whole-after (DropAttr serial name) can =
      let tests = clear (edit_faults (DropAttr serial name) tree) can.fits in
      let live = not-false _ tests.0 in
      let element = not-false _ tests.1.0 in
      let fits = (fits-live serial live).1 in
      let l = label_at serial tree in
      relabelled_whole serial (without_attribute name) live refl
      (with_pairs l (pairs_without name l.attributes) element fits.formed
      (ascending-without name l.attributes (ascending-element l element fits.formed)))
      (both _ _ (left _ _ fits.named)
      (names-without name is_attribute_name l.attributes (right _ (list_all (λ p. is_attribute_name p.0) l.attributes) fits.named)))
  whole-after (SetText serial value) can =
      let tests = clear (edit_faults (SetText serial value) tree) can.fits in
      let live = not-false _ tests.0 in
      let valued = not-false _ tests.1.0 in
      let fits = (fits-live serial live).1 in
      let l = label_at serial tree in
      relabelled_whole serial (with_value value) live refl (value_formed (has_value l.kind) _ _ _ valued fits.formed) fits.named
  whole-after (Attach parent before w) can =
      let tests = clear (edit_faults (Attach parent before w) tree) can.fits in
      let live = left (is_live parent tree) _ (not-false _ tests.0) in
      let low = leb-true _ _ (not-false _ tests.1.1.0) in
      let room = leb-true _ _ (not-false _ tests.1.1.1.0) in
      let named = not-false _ tests.1.1.1.1.0 in
      let held = not-false _ tests.1.1.1.1.1.0 in
      let e = changed parent (with_child before w) tree live in
      let level = level-changed parent tree e.1 (serial-live parent tree live) whole.distinct in
      let h = height-map_rows row_label (alone w) in
      let k = node_count-map_rows row_label w.children in
      whole-at (omega arith) whole e.1
      (attach_owes w before whole e.1 (sound-form (node_at parent tree) w can.ready.formed named held) (omega arith) (omega arith)
      (are_new-attach next w tree can.ready whole.distinct))
  whole-after (Detach serial) can =
      let tests = clear (edit_faults (Detach serial) tree) can.fits in
      let live = not-false _ tests.0 in
      let part = parted serial tree whole live tests.1.0 in
      let e = changed (parent_at serial tree) (without_child serial) tree part.live in
      whole-at (omega arith) whole e.1
      (detach_owes (node_at serial tree) serial whole e.1
      (inserted-taken serial (node_at serial tree) (children_at (parent_at serial tree) tree)
      (serial-live serial tree live) part.child))

pub next_after-grows : (e : TreeEdit) (next : ℕ) → next ≤ next_after e next
next_after-grows (SetAttr serial name value) next = omega arith
next_after-grows (DropAttr serial name) next = omega arith
next_after-grows (SetText serial value) next = omega arith
next_after-grows (Attach parent before w) next = omega arith
next_after-grows (Detach serial) next = omega arith

-- the page after an edit that it takes is valid
pub valid-after : AfterLaw
valid-after page e valid can = valid-whole (after e page)
    (whole-later (next_after-grows e page.next) (whole-after page.next page.tree (whole-valid page valid) e can))
