-- The edits that a move means are taken: what the attach asks of other nodes stands after the detach as it stood before.
use Rattle.std.proofs.Common.{◌≡◌, ◌⊎◌, ℕ, zero, suc, ◌+◌, ◌<◌, ◌≤◌, ◌==◌, Bool, true, false, not, ◌&&◌, ◌||◌, nat_le, cond, Option, Some}
use Rattle.std.proofs.Common.{None, is_some, unwrap_or, inl, inr, subst, refl, sym, ap, ◌∙◌, arith}
use Rattle.std.proofs.lemmas.Bool.{true≢false, not-false, not_from_true, le-leb, eq-eqb, ne_eqb}
use Rattle.node_tree.specs.Nodes.{Nodes, none, node, Branch, alone, height}
use Rattle.node_tree.specs.Labels.{Label}
use Rattle.node_tree.specs.Keys.{first_of, tally, tally_in, find, level_of, At, here, within, past}
use Rattle.node_tree.proofs.NodeLemmas.{node_count-map_rows}
use Rattle.node_tree.proofs.KeyLemmas.{tally_cases, tally_row, find-absent}
use Rattle.node_tree.proofs.ChangeLemmas.{count-at, tally_in-at, child_of, child-key}
use Rattle.node_tree.specs.Levels.{max_level}
use Rattle.page_tree.specs.Pages.{PageRow, row_serial, row_label, PageValue, node_at, parent_at, level_at, IsValid}
use Rattle.page_tree.specs.Edits.{without_child, taken_out, changed_at, label_at, children_at, next_sibling, is_among, form_at}
use Rattle.page_tree.specs.Edits.{moved_before}
use Rattle.page_tree.specs.EditFaults.{is_live, is_live_or_0, is_place, kind_at, may_hold, CanApply, edit_faults, move_faults, move_fault}
use Rattle.page_tree.specs.EditLaws.{MoveLaw}
use Rattle.page_tree.specs.declared.edits.TreeEdit.TheVariants.{Attach, Detach}
use Rattle.node_tree.proofs.PairLemmas.{both, right}
use Rattle.page_tree.proofs.ChildLemmas.{Inserted, front, behind, tally-inserted, count-inserted, inserted-taken, next-among, among-tally}
use Rattle.page_tree.proofs.WholeLemmas.{Whole, whole-valid}
use Rattle.page_tree.proofs.EditLemmas.{clear, unfaulted, changed, found-live, serial-live, live-tally}
use Rattle.page_tree.proofs.BackLemmas.{detach-inserted, detach-at, detach-tally, detach-ready, form-named}
use Rattle.page_tree.proofs.InsertLemmas.{all_three}

-- ---- what an attach asks of a parent

-- its label, its level, and whether one of its children has a serial
record Face : Type 0 where
  label : Label
  level : ℕ
  among : Bool

module _ (x b : ℕ) where
  abbrev face_of : ℕ → Nodes PageRow → Option Face
  face_of level none = None
  face_of level (node r c t) = cond (r.serial == x) (Some (record { label = r.label; level = level; among = is_among b c }))
      (first_of (face_of (suc level) c) (face_of level t))

  face-absent : (level : ℕ) (n : Nodes PageRow) → tally row_serial x n ≡ 0 → face_of level n ≡ None
  face-absent level none h = refl
  face-absent level (node r c t) h =
      elim (tally_cases row_serial x r c t) [
        | inl p ↦ absurd (omega arith)
        | inr p ↦ rw (ne_eqb r.serial x p.0, face-absent (suc level) c (omega arith), face-absent level t (omega arith)) refl
      ]

  -- it is as the node that is found
  abbrev faced : Option (Branch PageRow) → Option ℕ → Option Face
  faced None level = None
  faced (Some y) None = None
  faced (Some y) (Some level) = Some (record { label = y.row.label; level = level; among = is_among b y.children })

  found_both : (d : Bool) (top : Branch PageRow) (level : ℕ) (f g : Option (Branch PageRow)) (k l : Option ℕ) → is_some f ≡ is_some k
      → is_some g ≡ is_some l → is_some (cond d (Some top) (first_of f g)) ≡ is_some (cond d (Some level) (first_of k l))
  found_both true top level f g k l e h = refl
  found_both false top level None g None l e h = h
  found_both false top level None g (Some y) l e h = absurd (cc)
  found_both false top level (Some z) g None l e h = absurd (cc)
  found_both false top level (Some z) g (Some y) l e h = refl

  level-found : (level : ℕ) (n : Nodes PageRow) → is_some (find row_serial x n) ≡ is_some (level_of row_serial x level n)
  level-found level none = refl
  level-found level (node r c t) =
      found_both (r.serial == x) (record { row = r; children = c }) level (find row_serial x c) (find row_serial x t)
      (level_of row_serial x (suc level) c) (level_of row_serial x level t) (level-found (suc level) c) (level-found level t)

  face_step : (d : Bool) (r : PageRow) (c : Nodes PageRow) (level : ℕ) (f g : Option (Branch PageRow)) (k l : Option ℕ) (u v : Option Face)
      → is_some f ≡ is_some k → u ≡ faced f k → v ≡ faced g l
      → cond d (Some (record { label = r.label; level = level; among = is_among b c })) (first_of u v)
      ≡ faced (cond d (Some (record { row = r; children = c })) (first_of f g)) (cond d (Some level) (first_of k l))
  face_step true r c level f g k l u v e is_u is_v = refl
  face_step false r c level None g None l u v e is_u is_v = rw is_u is_v
  face_step false r c level None g (Some y) l u v e is_u is_v = absurd (cc)
  face_step false r c level (Some z) g None l u v e is_u is_v = absurd (cc)
  face_step false r c level (Some z) g (Some y) l u v e is_u is_v = rw is_u refl

  face-found : (level : ℕ) (n : Nodes PageRow) → face_of level n ≡ faced (find row_serial x n) (level_of row_serial x level n)
  face-found level none = refl
  face-found level (node r c t) =
      face_step (r.serial == x) r c level (find row_serial x c) (find row_serial x t) (level_of row_serial x (suc level) c)
      (level_of row_serial x level t) (face_of (suc level) c) (face_of level t) (level-found (suc level) c)
      (face-found (suc level) c) (face-found level t)

  -- ---- a node taken out elsewhere

  among-at : {old new : Branch PageRow} {depth : ℕ} {n m : Nodes PageRow} → old.row.serial ≡ new.row.serial → At old new depth n m
      → is_among b m ≡ is_among b n
  among-at same (here t) = ap (λ (s : ℕ). s == b || is_among b t) (sym same)
  among-at same (within depth r c m t e) = refl
  among-at same (past depth r c t m e) = ap (λ (v : Bool). r.serial == b || v) (among-at same e)

  among-inserted : {w : Branch PageRow} {n m : Nodes PageRow} → (w.row.serial ≡ b → ⊥) → Inserted w n m → is_among b n ≡ is_among b m
  among-inserted {w} other (front t) = rw (ne_eqb w.row.serial b other) refl
  among-inserted other (behind r c t u i) = ap (λ (v : Bool). r.serial == b || v) (among-inserted other i)

  face-inserted : {w : Branch PageRow} {n m : Nodes PageRow} (level : ℕ) → tally_in row_serial x w ≡ 0 → Inserted w n m
      → face_of level n ≡ face_of level m
  face-inserted {w} level apart (front t) =
      elim (tally_cases row_serial x w.row w.children none) [
        | inl p ↦ absurd (omega arith)
        | inr p ↦ rw (ne_eqb w.row.serial x p.0, face-absent (suc level) w.children (omega arith)) refl
      ]
  face-inserted level apart (behind r c t u i) =
      let h = face-inserted level apart i in
      ap (λ (v : Option Face). cond (r.serial == x) (Some (record { label = r.label; level = level; among = is_among b c }))
      (first_of (face_of (suc level) c) v)) h

  cond_face : (d : Bool) (l : Label) (level : ℕ) (y z : Bool) (u v g h : Option Face) → y ≡ z → u ≡ v → g ≡ h
      → cond d (Some (record { label = l; level = level; among = y })) (first_of u g)
      ≡ cond d (Some (record { label = l; level = level; among = z })) (first_of v h)
  cond_face d l level y z u v g h e f k = λ i. cond d (Some (record { label = l; level = level; among = e i })) (first_of (f i) (k i))

  face-at : (serial : ℕ) {old w : Branch PageRow} {depth : ℕ} {n m : Nodes PageRow} (level : ℕ)
      → At old (without_child serial old) depth n m → Inserted w (taken_out serial old.children) old.children → tally_in row_serial x w ≡ 0
      → (w.row.serial ≡ b → ⊥)
      → face_of level m ≡ face_of level n
  face-at serial {old} level (here t) i apart other =
      cond_face (old.row.serial == x) old.row.label level (is_among b (taken_out serial old.children)) (is_among b old.children)
      (face_of (suc level) (taken_out serial old.children)) (face_of (suc level) old.children) (face_of level t) (face_of level t)
      (among-inserted other i) (face-inserted (suc level) apart i) refl
  face-at serial level (within depth r c m t e) i apart other =
      cond_face (r.serial == x) r.label level (is_among b m) (is_among b c) (face_of (suc level) m) (face_of (suc level) c)
      (face_of level t) (face_of level t) (among-at refl e) (face-at serial (suc level) e i apart other) refl
  face-at serial level (past depth r c t m e) i apart other =
      cond_face (r.serial == x) r.label level (is_among b c) (is_among b c) (face_of (suc level) c) (face_of (suc level) c)
      (face_of level m) (face_of level t) refl refl (face-at serial level e i apart other)

  -- the face of a live node
  abbrev face_at : Branch PageRow → Face
  face_at tree = record { label = label_at x tree; level = level_at x tree; among = is_among b (children_at x tree) }

  some_level : (o : Option ℕ) → is_some o ≡ true → o ≡ Some (unwrap_or o 0)
  some_level None e = absurd (cc)
  some_level (Some l) e = refl

  face-live : (tree : Branch PageRow) → is_live x tree ≡ true → face_of 0 (alone tree) ≡ Some (face_at tree)
  face-live tree live =
      let found = found-live x tree live in
      let level : level_of row_serial x 0 (alone tree)
      ≡ Some (level_at x tree) = some_level (level_of row_serial x 0 (alone tree)) (sym (level-found 0 (alone tree)) ∙ live) in
      face-found 0 (alone tree) ∙ (λ i. faced (found i) (level i))

-- ---- before which child

zero_or_more : (k : ℕ) → (k ≡ 0) ⊎ (0 < k)
zero_or_more zero = inl refl
zero_or_more (suc k) = inr (omega arith)

child_here : (d e : Bool) (r : PageRow) (c : Nodes PageRow) (later : Option (Branch PageRow)) → (d || e) ≡ true
    → (e ≡ true → (w : Branch PageRow) × (later ≡ Some w))
    → (w : Branch PageRow) × (cond d (Some (record { row = r; children = c })) later ≡ Some w)
child_here true e r c later f k = (record { row = r; children = c }, refl)
child_here false e r c later f k = k f

among-child : (serial : ℕ) (n : Nodes PageRow) → is_among serial n ≡ true → (w : Branch PageRow) × (child_of row_serial serial n ≡ Some w)
among-child serial none e = absurd (cc)
among-child serial (node r c t) e = child_here (r.serial == serial) (is_among serial t) r c (child_of row_serial serial t) e
    (among-child serial t)

-- a next sibling is another node
other_sibling : (serial : ℕ) (n : Nodes PageRow) → 1 ≤ serial → tally row_serial serial n ≤ 1 → is_among serial n ≡ true
    → next_sibling serial n ≡ serial → ⊥
other_sibling serial n some once there same =
    elim (next-among serial n) [
      | inl z ↦ omega arith
      | inr e ↦
          let child = among-child serial n there in
          let key = child_key child.0 child.1 in
          let i = inserted-taken serial child.0 n key child.1 in
          let t = tally-inserted serial i in
          let g = among-tally serial (taken_out serial n) (subst (λ (s : ℕ). is_among s (taken_out serial n) ≡ true) same e) in
          let own = tally_row row_serial serial child.0.row child.0.children none key in
          omega arith
    ]
  where
    child_key : (w : Branch PageRow) → child_of row_serial serial n ≡ Some w → w.row.serial ≡ serial
    child_key w e = child-key row_serial serial n w e

or_right : (a b : Bool) → (a || b) ≡ true → a ≡ false → b ≡ true
or_right true b e f = absurd (cc)
or_right false b e f = e

before_other : (P : ℕ → Bool) (serial before sibling : ℕ) → 1 ≤ serial → (P serial ≡ true → sibling ≡ serial → ⊥) → (c : Bool)
    → (before == serial && P serial) ≡ c → (cond c sibling before == 0 || P (cond c sibling before)) ≡ true
    → cond c sibling before ≡ serial → ⊥
before_other P serial before sibling some apart true is fits e = apart (right (before == serial) (P serial) is) e
before_other P serial before sibling some apart false is fits e =
    let there : P serial ≡ true = or_right (serial == 0) (P serial) (subst (λ (s : ℕ). (s == 0 || P s) ≡ true) e fits)
    (ne_eqb serial 0 (λ h. omega arith)) in
    true≢false (sym (both (before == serial) (P serial) (eq-eqb before serial e) there) ∙ is)

-- ---- a move

module _ (page : PageValue) (serial parent before : ℕ) (valid : IsValid page)
    (clear_of : move_fault serial parent before page.tree ≡ None) where
  move_whole : Whole page.next (alone page.tree)
  move_whole = whole-valid page valid

  move_lives : (is_live serial page.tree ≡ true) × (is_live parent page.tree ≡ true) × (is_live_or_0 before page.tree ≡ true)
  move_lives = all_three _ _ _ (not-false (is_live serial page.tree && is_live parent page.tree && is_live_or_0 before page.tree)
      (clear (move_faults serial parent before page.tree) clear_of).0)

  pub move-detach : CanApply page.next (Detach serial) page.tree
  move-detach = record {
    fits = unfaulted (edit_faults (Detach serial) page.tree)
        (not_from_true _ move_lives.0, ((clear (move_faults serial parent before page.tree) clear_of).1.0, tt));
    ready = tt;
  }

  abbrev place : ℕ
  place = moved_before serial parent before page.tree

  abbrev rest : Branch PageRow
  rest = changed_at (parent_at serial page.tree) (without_child serial) page.tree

  move_place : is_place parent place page.tree ≡ true
  move_place = not-false _ (clear (move_faults serial parent before page.tree) clear_of).1.1.0

  -- the parent stands outside of what is moved
  parent_apart : tally_in row_serial parent (node_at serial page.tree) ≡ 0
  parent_apart =
      elim (zero_or_more (tally row_serial parent (alone (node_at serial page.tree)))) [
        | inl z ↦ omega arith
        | inr p ↦ absurd (true≢false (sym (live-tally parent (node_at serial page.tree) p) ∙
            (clear (move_faults serial parent before page.tree) clear_of).1.1.1.0))
      ]

  parent_live : is_live parent rest ≡ true
  parent_live =
      let t = detach-tally page.tree move_whole serial move-detach parent in
      let there = find_tally parent page.tree (found-live parent page.tree move_lives.1) in
      live-tally parent rest (let z = parent_apart in omega arith)
    where
      find_tally : (x : ℕ) (tree : Branch PageRow) → find row_serial x (alone tree) ≡ Some (node_at x tree)
          → 0 < tally row_serial x (alone tree)
      find_tally x tree found = elim
          (zero_or_more (tally row_serial x (alone tree))) [
            | inl z ↦ absurd
                (let e = find-absent row_serial x (alone tree) z in cc)
            | inr p ↦ p
          ]

  serial_some : 1 ≤ serial
  serial_some =
      let e = changed serial (λ b. b) page.tree move_lives.0 in
      let among = tally_in-at row_serial serial e.1 in
      let own = tally_row row_serial serial (node_at serial page.tree).row (node_at serial page.tree).children none
      (serial-live serial page.tree move_lives.0) in
      move_whole.least serial (omega arith)

  once_below : tally row_serial serial (children_at parent page.tree) ≤ 1
  once_below =
      let e = changed parent (λ b. b) page.tree move_lives.1 in
      let among = tally_in-at row_serial serial e.1 in
      let d = move_whole.distinct serial in
      omega arith

  place_other : place ≡ serial → ⊥
  place_other =
      before_other (λ s. is_among s (children_at parent page.tree)) serial before
      (next_sibling serial (children_at parent page.tree)) serial_some
      (other_sibling serial (children_at parent page.tree) serial_some once_below)
      (before == serial && is_among serial (children_at parent page.tree)) refl move_place

  -- the parent is as it was
  parent_face : face_at parent place rest ≡ face_at parent place page.tree
  parent_face =
      let e = detach-at page.tree move_whole serial move-detach in
      let i = detach-inserted page.tree move_whole serial move-detach in
      let same = face-at parent place serial 0 e.1 i parent_apart (λ h. place_other (sym h ∙ serial-live serial page.tree move_lives.0)) in
      some_face _ _ (sym (face-live parent place rest parent_live) ∙ (same ∙ face-live parent place page.tree move_lives.1))
    where
      some_face : (f g : Face) → ◌≡◌ {A = Option Face} (Some f) (Some g) → f ≡ g
      some_face f g e = cc

  rest_place : is_place parent place rest ≡ true
  rest_place = ap (λ (f : Face). place == 0 || f.among) parent_face ∙ move_place

  rest_live : is_live_or_0 place rest ≡ true
  rest_live = live_at (place == 0) (is_among place (children_at parent rest)) (is_live place rest) rest_place
      (λ there.
      let t = among-tally place (children_at parent rest) there in
      let e = changed parent (λ b. b) rest parent_live in
      let among = tally_in-at row_serial place e.1 in
      live-tally place rest (omega arith))
    where
      live_at : (z a l : Bool) → (z || a) ≡ true → (a ≡ true → l ≡ true) → (z || l) ≡ true
      live_at true a l e k = refl
      live_at false a l e k = k e

  pub move-attach : CanApply page.next (Attach parent place (node_at serial page.tree)) rest
  move-attach =
      let tests = clear (move_faults serial parent before page.tree) clear_of in
      let e = detach-at page.tree move_whole serial move-detach in
      let i = detach-inserted page.tree move_whole serial move-detach in
      let count = count-at e.1 in
      let counted = count-inserted i in
      let k = node_count-map_rows row_label (node_at serial page.tree).children in
      let few = move_whole.few in
      record {
        fits = unfaulted (edit_faults (Attach parent place (node_at serial page.tree)) rest) (
          not_from_true _ (both _ _ parent_live rest_live),
          (
            not_from_true _ rest_place,
            (
              ap (λ (f : Face). not (nat_le (f.level + height (alone (form_at serial page.tree))) max_level)) parent_face ∙ tests.1.1.1.1.0,
              (
                not_from_true _ (le-leb _ _ (omega arith)),
                (
                  not_from_true _ (form-named page.tree move_whole serial move-detach),
                  (ap (λ (f : Face). not (may_hold f.label.kind (kind_at serial page.tree))) parent_face ∙ tests.1.1.1.1.1.0, tt),
                ),
              ),
            ),
          ),
        );
        ready = detach-ready page.tree move_whole serial move-detach;
      }

pub move-leads : MoveLaw
move-leads page serial parent before valid clear_of =
    (move-detach page serial parent before valid clear_of, (move-attach page serial parent before valid clear_of, tt))
