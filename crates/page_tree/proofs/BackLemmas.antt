-- The edit that leads back leads back.
use Rattle.std.proofs.Common.{◌≡◌, ◌⊎◌, ℕ, zero, suc, ◌+◌, ◌<◌, ◌≤◌, ◌==◌, List, Bool, true, false, not, ◌&&◌, ◌||◌, Option, Some, None}
use Rattle.std.proofs.Common.{is_some, unwrap_or, inl, inr, subst, refl, sym, ap, ◌∙◌, arith}
use Rattle.std.proofs.lemmas.Bool.{not-false, not_from_true, le-leb, eq-eqb, eqb-true}
use Rattle.node_tree.specs.Nodes.{Nodes, none, node, Branch, alone, map_branch}
use Rattle.node_tree.specs.Labels.{Pair, Label, is_document, is_doctype, is_element, has_value, value_of, is_formed_label}
use Rattle.node_tree.specs.Keys.{tally, tally_in, find, put, At}
use Rattle.node_tree.specs.declared.Kind.TheVariants.{Document}
use Rattle.node_tree.proofs.NodeLemmas.{node_count-map_rows, height-map_rows}
use Rattle.node_tree.proofs.KeyLemmas.{tally-at, tally_row, find-stands, put-at, Stands, stands-below, height_above-at}
use Rattle.node_tree.proofs.ChangeLemmas.{at-old, at-new, at-back, count-at, tally_in-at, alone-put, parent-at, child-stands, child_of}
use Rattle.page_tree.specs.Forms.{are_formed, are_named}
use Rattle.page_tree.specs.Pages.{PageRow, row_serial, row_label, node_at, parent_at, level_at}
use Rattle.page_tree.specs.Edits.{with_attribute, without_attribute, with_value, relabelled, with_child, without_child, put_before}
use Rattle.page_tree.specs.Edits.{taken_out, put_in, changed_at, after_tree, back_tree, restored, label_at, children_at, next_sibling}
use Rattle.page_tree.specs.Edits.{sibling_after, is_among}
use Rattle.page_tree.specs.EditFaults.{is_live, kind_at, may_hold, CanAttach, CanApply, first_fault, edit_faults}
use Rattle.page_tree.specs.EditLaws.{LeadsBack, BackLaw}
use Rattle.page_tree.specs.declared.edits.TreeEdit.{TreeEdit}
use Rattle.page_tree.specs.declared.edits.TreeEdit.TheVariants.{SetAttr, DropAttr, SetText, Attach, Detach}
use Rattle.node_tree.proofs.PairLemmas.{both, left}
use Rattle.node_tree.proofs.PairLemmas.{value-placed, value-without, set_set, set_drop, drop_set}
use Rattle.page_tree.proofs.ChildLemmas.{Inserted, tally-inserted, count-inserted, height-inserted, inserted-taken, child-put, take-put}
use Rattle.page_tree.proofs.ChildLemmas.{put-take, next-put_among, next-put_last, next-among, among-tally}
use Rattle.page_tree.proofs.WholeLemmas.{Sound, Whole, whole-later, whole-valid, formed-sound, inserted-sound}
use Rattle.page_tree.proofs.EditLemmas.{clear, unfaulted, changed, serial-live, live-tally, level-changed, ascending-element, parted}
use Rattle.page_tree.proofs.EditLemmas.{fits-live, whole-after}

-- ---- a change taken back

abbrev first_branch : Branch PageRow → Nodes PageRow → Branch PageRow
first_branch d none = d
first_branch d (node r c t) = record { row = r; children = c }

module _ {next : ℕ} (serial : ℕ) (change : Branch PageRow → Branch PageRow) (tree : Branch PageRow) (live : is_live serial tree ≡ true)
    (whole : Whole next (alone (changed_at serial change tree)))
    (same : (change (node_at serial tree)).row.serial ≡ (node_at serial tree).row.serial) where
  pub turned-stands : Stands (change (node_at serial tree)) (alone (changed_at serial change tree))
  turned-stands = let e = changed serial change tree live in (e.0, alone (changed_at serial change tree), at-new e.1)

  turned-found : find row_serial serial (alone (changed_at serial change tree)) ≡ Some (change (node_at serial tree))
  turned-found =
      subst (λ (s : ℕ). find row_serial s (alone (changed_at serial change tree)) ≡ Some (change (node_at serial tree)))
      (same ∙ serial-live serial tree live)
      (find-stands row_serial (change (node_at serial tree)) (alone (changed_at serial change tree)) turned-stands
      (whole.distinct (change (node_at serial tree)).row.serial))

  -- the changed node is live, and as it was made
  pub turned-live : is_live serial (changed_at serial change tree) ≡ true
  turned-live = ap (λ (o : Option (Branch PageRow)). is_some o) turned-found

  pub turned-node : node_at serial (changed_at serial change tree) ≡ change (node_at serial tree)
  turned-node = ap (λ (o : Option (Branch PageRow)). unwrap_or o (changed_at serial change tree)) turned-found

  put_back : put_in serial (node_at serial tree) (changed_at serial change tree) ≡ tree
  put_back =
      let e = changed serial change tree live in
      let back : put row_serial (change (node_at serial tree)).row.serial (node_at serial tree) (alone (changed_at serial change tree))
      ≡ alone tree = put-at row_serial (at-back e.1) (whole.distinct (change (node_at serial tree)).row.serial) in
      let there : put row_serial serial (node_at serial tree) (alone (changed_at serial change tree))
      ≡ alone tree = subst (λ (s : ℕ). put row_serial s (node_at serial tree) (alone (changed_at serial change tree)) ≡ alone tree)
      (same ∙ serial-live serial tree live) back in
      let trees : alone (put_in serial (node_at serial tree) (changed_at serial change tree))
      ≡ alone tree = sym (alone-put row_serial serial (node_at serial tree) (changed_at serial change tree)) ∙ there in
      ap (first_branch tree) trees

  -- and what makes the node as it was makes the tree as it was
  pub turned-back : (undo : Branch PageRow → Branch PageRow) → undo (change (node_at serial tree)) ≡ node_at serial tree
      → changed_at serial undo (changed_at serial change tree) ≡ tree
  turned-back undo is =
      let there : changed_at serial undo (changed_at serial change tree)
      ≡ put_in serial (undo (change (node_at serial tree))) (changed_at serial change tree) = ap
      (λ (b : Branch PageRow). put_in serial (undo b) (changed_at serial change tree)) turned-node in
      let back : put_in serial (undo (change (node_at serial tree))) (changed_at serial change tree)
      ≡ put_in serial (node_at serial tree) (changed_at serial change tree) = ap
      (λ (b : Branch PageRow). put_in serial b (changed_at serial change tree)) is in
      there ∙ (back ∙ put_back)

-- ---- labels

module _ {next : ℕ} (serial : ℕ) (f : Label → Label) (tree : Branch PageRow) (live : is_live serial tree ≡ true)
    (whole : Whole next (alone (changed_at serial (relabelled f) tree))) where
  label-turned : label_at serial (changed_at serial (relabelled f) tree) ≡ f (label_at serial tree)
  label-turned = ap (λ (b : Branch PageRow). b.row.label) (turned-node serial (relabelled f) tree live whole refl)

  live-turned : is_live serial (changed_at serial (relabelled f) tree) ≡ true
  live-turned = turned-live serial (relabelled f) tree live whole refl

  label-back : (g : Label → Label) → g (f (label_at serial tree)) ≡ label_at serial tree
      → changed_at serial (relabelled g) (changed_at serial (relabelled f) tree) ≡ tree
  label-back g is =
      turned-back serial (relabelled f) tree live whole refl (relabelled g)
      (ap (λ (l : Label). record {
        row = record { serial = (node_at serial tree).row.serial; label = l };
        children = (node_at serial tree).children;
      }) is)

module _ {next : ℕ} (tree : Branch PageRow) (whole : Whole next (alone tree)) where
  set_leads : (serial : ℕ) (name value : List ℕ) (was : Option (List ℕ)) → CanApply next (SetAttr serial name value) tree
      → value_of name (label_at serial tree).attributes ≡ was → LeadsBack (restored serial name was) (SetAttr serial name value) tree next
  set_leads serial name value None can is =
      let tests = clear (edit_faults (SetAttr serial name value) tree) can.fits in
      let live = not-false _ tests.0 in
      let later = whole-after next tree whole (SetAttr serial name value) can in
      let l = label_at serial tree in
      let label = label-turned serial (with_attribute name value) tree live later in
      let there = value-placed name value l.attributes in
      record {
        taken = record {
          fits = unfaulted (edit_faults (DropAttr serial name) (after_tree (SetAttr serial name value) tree)) (
            not_from_true _ (live-turned serial (with_attribute name value) tree live later),
            (
              not_from_true _ (ap (λ (l : Label). is_element l.kind) label ∙ not-false _ tests.1.0),
              (
                tests.1.1.0,
                (
                  not_from_true _
                      (ap (λ (l : Label). is_some (value_of name l.attributes)) label ∙ ap (λ (o : Option (List ℕ)). is_some o) there),
                  tt,
                ),
              ),
            ),
          );
          ready = tt;
        };
        tree_back = label-back serial (with_attribute name value) tree live later (without_attribute name)
            (ap (λ (a : List Pair). record l { attributes = a }) (set_drop name value l.attributes is));
        edit_back = ap (λ (l : Label). restored serial name (value_of name l.attributes)) label ∙ ap (restored serial name) there;
      }
  set_leads serial name value (Some old) can is =
      let tests = clear (edit_faults (SetAttr serial name value) tree) can.fits in
      let live = not-false _ tests.0 in
      let element = not-false _ tests.1.0 in
      let later = whole-after next tree whole (SetAttr serial name value) can in
      let l = label_at serial tree in
      let fits = (fits-live next tree whole serial live).1 in
      let label = label-turned serial (with_attribute name value) tree live later in
      record {
        taken = record {
          fits = unfaulted (edit_faults (SetAttr serial name old) (after_tree (SetAttr serial name value) tree)) (
            not_from_true _ (live-turned serial (with_attribute name value) tree live later),
            (not_from_true _ (ap (λ (l : Label). is_element l.kind) label ∙ element), (tests.1.1.0, tt)),
          );
          ready = tt;
        };
        tree_back = label-back serial (with_attribute name value) tree live later (with_attribute name old)
            (ap (λ (a : List Pair). record l { attributes = a })
            (set_set name value old l.attributes is (ascending-element l element fits.formed)));
        edit_back = ap (λ (l : Label). restored serial name (value_of name l.attributes)) label ∙ ap (restored serial name)
            (value-placed name value l.attributes);
      }

  drop_leads : (serial : ℕ) (name : List ℕ) (was : Option (List ℕ)) → CanApply next (DropAttr serial name) tree
      → value_of name (label_at serial tree).attributes ≡ was → LeadsBack (restored serial name was) (DropAttr serial name) tree next
  drop_leads serial name None can is =
      let tests = clear (edit_faults (DropAttr serial name) tree) can.fits in
      let there = not-false _ tests.1.1.1.0 in
      let absent = ap (λ (o : Option (List ℕ)). is_some o) is in
      absurd (cc)
  drop_leads serial name (Some old) can is =
      let tests = clear (edit_faults (DropAttr serial name) tree) can.fits in
      let live = not-false _ tests.0 in
      let element = not-false _ tests.1.0 in
      let later = whole-after next tree whole (DropAttr serial name) can in
      let l = label_at serial tree in
      let fits = (fits-live next tree whole serial live).1 in
      let ascending = ascending-element l element fits.formed in
      let label = label-turned serial (without_attribute name) tree live later in
      record {
        taken = record {
          fits = unfaulted (edit_faults (SetAttr serial name old) (after_tree (DropAttr serial name) tree)) (
            not_from_true _ (live-turned serial (without_attribute name) tree live later),
            (not_from_true _ (ap (λ (l : Label). is_element l.kind) label ∙ element), (tests.1.1.0, tt)),
          );
          ready = tt;
        };
        tree_back = label-back serial (without_attribute name) tree live later (with_attribute name old)
            (ap (λ (a : List Pair). record l { attributes = a }) (drop_set name old l.attributes is ascending));
        edit_back = ap (λ (l : Label). restored serial name (value_of name l.attributes)) label ∙ ap (restored serial name)
            (value-without name l.attributes ascending);
      }

  text_leads : (serial : ℕ) (value : List ℕ) → CanApply next (SetText serial value) tree
      → LeadsBack (SetText serial (label_at serial tree).value) (SetText serial value) tree next
  text_leads serial value can =
      let tests = clear (edit_faults (SetText serial value) tree) can.fits in
      let live = not-false _ tests.0 in
      let later = whole-after next tree whole (SetText serial value) can in
      let label = label-turned serial (with_value value) tree live later in
      record {
        taken = record {
          fits = unfaulted (edit_faults (SetText serial (label_at serial tree).value) (after_tree (SetText serial value) tree)) (
            not_from_true _ (live-turned serial (with_value value) tree live later),
            (not_from_true _ (ap (λ (l : Label). has_value l.kind) label ∙ not-false _ tests.1.0), tt),
          );
          ready = tt;
        };
        tree_back = label-back serial (with_value value) tree live later (with_value (label_at serial tree).value) refl;
        edit_back = ap (λ (l : Label). SetText serial l.value) label;
      }

-- ---- an attach taken back

zero_at : (x k : ℕ) → (0 < k → 1 ≤ x) → x ≡ 0 → k ≡ 0
zero_at x zero h e = refl
zero_at x (suc k) h e = absurd (let l = h (omega arith) in omega arith)

or_cases : (a b : Bool) → (a || b) ≡ true → (a ≡ true) ⊎ (b ≡ true)
or_cases true b e = inl refl
or_cases false b e = inr e

module _ {next : ℕ} (tree : Branch PageRow) (whole : Whole next (alone tree)) (parent before : ℕ) (w : Branch PageRow)
    (can : CanApply next (Attach parent before w) tree) where
  abbrev tree_after : Branch PageRow
  tree_after = changed_at parent (with_child before w) tree

  attach_live : is_live parent tree ≡ true
  attach_live = let tests = clear (edit_faults (Attach parent before w) tree) can.fits in left (is_live parent tree) _ (not-false _ tests.0)

  attach_later : Whole next (alone tree_after)
  attach_later = whole-after next tree whole (Attach parent before w) can

  attach_absent : tally row_serial w.row.serial (children_at parent tree) ≡ 0
  attach_absent =
      let here = tally_row row_serial w.row.serial w.row w.children none refl in
      let apart = can.ready.apart w.row.serial (omega arith) in
      let e = changed parent (with_child before w) tree attach_live in
      let among = tally_in-at row_serial w.row.serial e.1 in
      omega arith

  attach_child : child_of row_serial w.row.serial (put_before before w (children_at parent tree)) ≡ Some w
  attach_child = child-put w before (children_at parent tree) attach_absent

  attach_found : find row_serial w.row.serial (alone tree_after) ≡ Some w
  attach_found =
      let stands = turned-stands parent (with_child before w) tree attach_live attach_later refl in
      find-stands row_serial w (alone tree_after)
      (stands-below (with_child before w (node_at parent tree)) w (alone tree_after) stands
      (child-stands row_serial w.row.serial (put_before before w (children_at parent tree)) w attach_child))
      (attach_later.distinct w.row.serial)

  attach_parent : parent_at w.row.serial tree_after ≡ parent
  attach_parent =
      let e = changed parent (with_child before w) tree attach_live in
      let p = parent-at row_serial w.row.serial 0 w (at-new e.1) attach_child (attach_later.distinct w.row.serial) in
      ap (λ (o : Option ℕ). unwrap_or o 0) p.0 ∙ serial-live parent tree attach_live

  attach_next : next_sibling w.row.serial (put_before before w (children_at parent tree)) ≡ before
  attach_next =
      let tests = clear (edit_faults (Attach parent before w) tree) can.fits in
      let e = changed parent (with_child before w) tree attach_live in
      elim (or_cases (before == 0) (is_among before (children_at parent tree)) (not-false _ tests.1.0)) [
        | inl z ↦
            let none_there = zero_at before (tally row_serial before (alone tree)) (whole.least before) (eqb-true before 0 z) in
            let among = tally_in-at row_serial before e.1 in
            next-put_last w before (children_at parent tree) attach_absent (omega arith) (eqb-true before 0 z)
        | inr there ↦ next-put_among w before (children_at parent tree) attach_absent there
      ]

  attach_leads : LeadsBack (Detach w.row.serial) (Attach parent before w) tree next
  attach_leads =
      let live = ap (λ (o : Option (Branch PageRow)). is_some o) attach_found in
      let is : node_at w.row.serial tree_after ≡ w = ap (λ (o : Option (Branch PageRow)). unwrap_or o tree_after) attach_found in
      let not_document : is_document w.row.label.kind ≡ false = document_apart w can.ready.formed in
      let children : children_at parent tree_after
      ≡ put_before before w (children_at parent tree) = ap (λ (b : Branch PageRow). b.children)
      (turned-node parent (with_child before w) tree attach_live attach_later refl) in
      let sibling : sibling_after w.row.serial parent tree_after ≡ before = ap (next_sibling w.row.serial) children ∙ attach_next in
      record {
        taken = record {
          fits = unfaulted (edit_faults (Detach w.row.serial) tree_after)
              (not_from_true _ live, (ap (λ (b : Branch PageRow). is_document b.row.label.kind) is ∙ not_document, tt));
          ready = tt;
        };
        tree_back =
            ap (λ (p : ℕ). changed_at p (without_child w.row.serial) tree_after) attach_parent
            ∙ turned-back parent (with_child before w) tree attach_live attach_later refl (without_child w.row.serial)
            (ap (λ (c : Nodes PageRow). record { row = (node_at parent tree).row; children = c })
            (take-put w before (children_at parent tree) attach_absent));
        edit_back = ap (λ (p : ℕ). Attach p (sibling_after w.row.serial p tree_after) (node_at w.row.serial tree_after)) attach_parent ∙
            (λ i. Attach parent (sibling i) (is i));
      }
    where
      document_apart : (b : Branch PageRow) → are_formed true (alone (map_branch row_label b)) ≡ true → is_document b.row.label.kind ≡ false
      document_apart b formed = apart_at (is_formed_label b.row.label) (is_document b.row.label.kind) _ _ _ _ formed
        where
          apart_at : (a d e f g h : Bool) → ((((a && (not d && e)) && f) && g) && h) ≡ true → d ≡ false
          apart_at true false e f g h x = refl
          apart_at true true e f g h x = absurd (cc)
          apart_at false d e f g h x = absurd (cc)

-- ---- a detach taken back

module _ {next : ℕ} (tree : Branch PageRow) (whole : Whole next (alone tree)) (serial : ℕ) (can : CanApply next (Detach serial) tree) where
  abbrev parent : ℕ
  parent = parent_at serial tree

  abbrev left_tree : Branch PageRow
  left_tree = changed_at (parent_at serial tree) (without_child serial) tree

  abbrev taken : Branch PageRow
  taken = node_at serial tree

  abbrev sibling : ℕ
  sibling = sibling_after serial (parent_at serial tree) tree

  detach_live : is_live serial tree ≡ true
  detach_live = not-false _ (clear (edit_faults (Detach serial) tree) can.fits).0

  detach_parent : is_live (parent_at serial tree) tree ≡ true
  detach_parent = (parted serial tree whole detach_live (clear (edit_faults (Detach serial) tree) can.fits).1.0).live

  detach_child : child_of row_serial serial (children_at (parent_at serial tree) tree) ≡ Some (node_at serial tree)
  detach_child = (parted serial tree whole detach_live (clear (edit_faults (Detach serial) tree) can.fits).1.0).child

  pub detach-later : Whole next (alone left_tree)
  detach-later = whole-after next tree whole (Detach serial) can

  pub detach-inserted : Inserted taken (taken_out serial (children_at parent tree)) (children_at parent tree)
  detach-inserted = inserted-taken serial taken (children_at parent tree) (serial-live serial tree detach_live) detach_child

  detach_node : node_at parent left_tree ≡ without_child serial (node_at parent tree)
  detach_node = turned-node parent (without_child serial) tree detach_parent detach-later refl

  pub detach-at : (depth : ℕ) × At (node_at parent tree) (without_child serial (node_at parent tree)) depth (alone tree) (alone left_tree)
  detach-at = changed parent (without_child serial) tree detach_parent

  -- what stands at and below the node is no more there, and all else is
  pub detach-tally : (x : ℕ) → tally row_serial x (alone left_tree) + tally_in row_serial x taken ≡ tally row_serial x (alone tree)
  detach-tally x = let t = tally-at row_serial x detach-at.1 in let i = tally-inserted x detach-inserted in omega arith

  taken_tally : (x : ℕ) → tally_in row_serial x taken ≤ tally row_serial x (alone tree)
  taken_tally x = omega (arith, detach-tally x)

  pub taken-sound : Sound (Some (kind_at parent tree)) (alone taken)
  taken-sound = (inserted-sound detach-inserted (fits-live next tree whole parent detach_parent).2).1

  pub form-sound : are_formed true (alone (map_branch row_label taken)) ≡ true
  form-sound = (formed-sound Document (alone taken) (document_holds taken taken-sound)).formed
    where
      document_stands : (d p : Bool) (h top : Bool) → (not d && (h && (top || not p))) ≡ true → (not d && (true && (true || not p))) ≡ true
      document_stands true p h top e = absurd (cc)
      document_stands false p h top e = refl

      document_holds : (b : Branch PageRow) → Sound (Some (kind_at parent tree)) (alone b) → Sound (Some Document) (alone b)
      document_holds b s = (
        record {
          formed = s.0.formed;
          named = s.0.named;
          stands = document_stands (is_document b.row.label.kind) (is_doctype b.row.label.kind) _ _ s.0.stands;
        },
        s.1,
        tt,
      )

  pub form-named : are_named (alone (map_branch row_label taken)) ≡ true
  form-named = (formed-sound (kind_at parent tree) (alone taken) taken-sound).named

  pub detach-ready : CanAttach next taken left_tree
  detach-ready = record {
    formed = form-sound;
    distinct = λ x. let t = taken_tally x in let d = whole.distinct x in omega arith;
    least = λ x p. whole.least x (let t = taken_tally x in omega arith);
    below_next = λ x p. whole.below x (let t = taken_tally x in omega arith);
    apart = λ x p. let t = detach-tally x in let d = whole.distinct x in omega arith;
  }

  sibling_place : (sibling ≡ 0) ⊎ (is_among sibling (children_at parent left_tree) ≡ true)
  sibling_place =
      elim (next-among serial (children_at parent tree)) [
        | inl z ↦ inl z
        | inr e ↦ inr (ap (λ (b : Branch PageRow). is_among sibling b.children) detach_node ∙ e)
      ]

  place_or : (P : ℕ → Bool) → ((sibling ≡ 0) ⊎ (P sibling ≡ true)) → (sibling == 0 || P sibling) ≡ true
  place_or P (inl z) = rw (eq-eqb sibling 0 z) refl
  place_or P (inr e) = either (sibling == 0) (P sibling) e
    where
      either : (a b : Bool) → b ≡ true → (a || b) ≡ true
      either true b e = refl
      either false b e = e

  sibling_live : (sibling ≡ 0) ⊎ (is_live sibling left_tree ≡ true)
  sibling_live =
      elim sibling_place [
        | inl z ↦ inl z
        | inr e ↦
            let there = among-tally sibling (children_at parent left_tree) e in
            let turned = turned-stands parent (without_child serial) tree detach_parent detach-later refl in
            let among = tally_in-at row_serial sibling turned.2 in
            let is : tally row_serial sibling (children_at parent left_tree)
            ≡ tally row_serial sibling (taken_out serial (children_at parent tree)) = ap
            (λ (b : Branch PageRow). tally row_serial sibling b.children) detach_node in
            inr (live-tally sibling left_tree (omega arith))
      ]

  held_part : (d h : Bool) → (not d && h) ≡ true → h ≡ true
  held_part true h e = absurd (cc)
  held_part false h e = e

  detach_fits : first_fault (Attach parent sibling taken) left_tree ≡ None
  detach_fits =
      let h = height-map_rows row_label (alone taken) in
      let k = node_count-map_rows row_label taken.children in
      let e = detach-at in
      let level : level_at parent left_tree
      ≡ e.0 = level-changed parent left_tree (at-new e.1) (serial-live parent tree detach_parent) detach-later.distinct in
      let above = height_above-at (at-old e.1) in
      let tall = height-inserted detach-inserted in
      let count = count-at e.1 in
      let counted = count-inserted detach-inserted in
      let low = whole.low in
      let few = whole.few in
      unfaulted (edit_faults (Attach parent sibling taken) left_tree) (
        not_from_true _ (both _ _ (turned-live parent (without_child serial) tree detach_parent detach-later refl)
            (place_or (λ x. is_live x left_tree) sibling_live)),
        (
          not_from_true _ (place_or (λ x. is_among x (children_at parent left_tree)) sibling_place),
          (
            not_from_true _ (le-leb _ _ (omega arith)),
            (
              not_from_true _ (le-leb _ _ (omega arith)),
              (
                not_from_true _ form-named,
                (
                  not_from_true _ (ap (λ (b : Branch PageRow). may_hold b.row.label.kind taken.row.label.kind) detach_node ∙ held_part
                      (is_document taken.row.label.kind) _ taken-sound.0.stands),
                  tt,
                ),
              ),
            ),
          ),
        ),
      )

  detach_leads : LeadsBack (Attach parent sibling taken) (Detach serial) tree next
  detach_leads = record {
    taken = record { fits = detach_fits; ready = detach-ready };
    tree_back = turned-back parent (without_child serial) tree detach_parent detach-later refl (with_child sibling taken)
        (ap (λ (c : Nodes PageRow). record { row = (node_at parent tree).row; children = c })
        (put-take serial taken (children_at parent tree) detach_child once zeros));
    edit_back = ap Detach (serial-live serial tree detach_live);
  }
    where
      once : (x : ℕ) → tally row_serial x (children_at parent tree) ≤ 1
      once x = let among = tally_in-at row_serial x detach-at.1 in let d = whole.distinct x in omega arith

      zeros : tally row_serial 0 (children_at parent tree) ≡ 0
      zeros = let among = tally_in-at row_serial 0 detach-at.1 in let z = zero_at 0 (tally row_serial 0 (alone tree))
          (whole.least 0) refl in omega arith

-- ---- each edit

pub can-later : (next then : ℕ) (e : TreeEdit) (tree : Branch PageRow) → next ≤ then → CanApply next e tree → CanApply then e tree
can-later next then (SetAttr serial name value) tree h can = record { fits = can.fits; ready = tt }
can-later next then (DropAttr serial name) tree h can = record { fits = can.fits; ready = tt }
can-later next then (SetText serial value) tree h can = record { fits = can.fits; ready = tt }
can-later next then (Attach parent before w) tree h can = record {
  fits = can.fits;
  ready = record {
    formed = can.ready.formed;
    distinct = can.ready.distinct;
    least = can.ready.least;
    below_next = λ x p. let b = can.ready.below_next x p in omega arith;
    apart = can.ready.apart;
  };
}
can-later next then (Detach serial) tree h can = record { fits = can.fits; ready = tt }

leads : {next : ℕ} (e : TreeEdit) (tree : Branch PageRow) → Whole next (alone tree) → CanApply next e tree
    → LeadsBack (back_tree e tree) e tree next
leads (SetAttr serial name value) tree whole can = set_leads tree whole serial name value
    (value_of name (label_at serial tree).attributes) can refl
leads (DropAttr serial name) tree whole can = drop_leads tree whole serial name (value_of name (label_at serial tree).attributes) can refl
leads (SetText serial value) tree whole can = text_leads tree whole serial value can
leads (Attach parent before w) tree whole can = attach_leads tree whole parent before w can
leads (Detach serial) tree whole can = detach_leads tree whole serial can

-- the edit that leads back leads back
pub leads-back : BackLaw
leads-back page e next valid can h = leads e page.tree (whole-later h (whole-valid page valid)) (can-later page.next next e page.tree h can)
