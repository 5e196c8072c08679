-- One node changed, and changed back; and where a node stands in a tree: its level and its parent.
use Rattle.std.proofs.Common.{◌⊎◌, ◌≡◌, ℕ, suc, ◌+◌, ◌<◌, ◌≤◌, ◌==◌, ◌||◌, Bool, true, false, cond, Option, Some, None, subst, refl, ap}
use Rattle.std.proofs.Common.{sym, inl, inr, arith}
use Rattle.std.proofs.lemmas.Bool.{eq-eqb, eqb-true, ne_eqb}
use Rattle.node_tree.specs.Nodes.{Nodes, none, node, Branch, alone, node_count, branch_count}
use Rattle.node_tree.specs.Keys.{first_of, tally, tally_in, has, find, level_of, parent_of, put, At, here, within, past}
use Rattle.node_tree.proofs.KeyLemmas.{tally_row, tally_below, other_row, tally_cases, at-put, At-tally, Stands}

-- ---- there and back

module _ {R : Type 0} {old new : Branch R} where
  -- the change is taken back by the same change the other way
  pub at-back : {depth : ℕ} {n m : Nodes R} → At old new depth n m → At new old depth m n
  at-back (here t) = here t
  at-back (within depth r c m t e) = within depth r m c t (at-back e)
  at-back (past depth r c t m e) = past depth r c m t (at-back e)

  -- the node stands where it was, before and after
  pub at-old : {depth : ℕ} {n m : Nodes R} → At old new depth n m → At old old depth n n
  at-old (here t) = here t
  at-old (within depth r c m t e) = within depth r c c t (at-old e)
  at-old (past depth r c t m e) = past depth r c t t (at-old e)

  pub at-new : {depth : ℕ} {n m : Nodes R} → At old new depth n m → At new new depth m m
  at-new (here t) = here t
  at-new (within depth r c m t e) = within depth r m m t (at-new e)
  at-new (past depth r c t m e) = past depth r c m m (at-new e)

  pub count-at : {depth : ℕ} {n m : Nodes R} → At old new depth n m → node_count m + branch_count old ≡ node_count n + branch_count new
  count-at (here t) = omega arith
  count-at (within depth r c m t e) = let h = count-at e in omega arith
  count-at (past depth r c t m e) = let h = count-at e in omega arith

module _ {R : Type 0} (key : R → ℕ) (x : ℕ) {old new : Branch R} where
  -- what stands at and below the node is among the nodes
  pub tally_in-at : {depth : ℕ} {n m : Nodes R} → At old new depth n m → tally_in key x old ≤ tally key x n
  tally_in-at (here t) = omega arith
  tally_in-at (within depth r c m t e) = let h = tally_in-at e in let k = tally_below key x r c t in omega arith
  tally_in-at (past depth r c t m e) = let h = tally_in-at e in let k = tally_below key x r c t in omega arith

-- ---- a whole tree with one node changed

module _ {R : Type 0} (key : R → ℕ) (x : ℕ) (w : Branch R) where
  absent_step : (a b d : Bool) (u v y z : Nodes R) → (a || b || d) ≡ false → (d ≡ false → y ≡ z) → cond a u (cond b v y) ≡ z
  absent_step true b d u v y z e k = absurd (cc)
  absent_step false true d u v y z e k = absurd (cc)
  absent_step false false d u v y z e k = k e

  pub put-absent : (n : Nodes R) → has key x n ≡ false → put key x w n ≡ n
  put-absent none e = refl
  put-absent (node r c t) e =
      absent_step (key r == x) (has key x c) (has key x t) (node w.row w.children t) (node r (put key x w c) t) (node r c (put key x w t))
      (node r c t) e (λ f. ap (node r c) (put-absent t f))

  alone_step : (b h : Bool) (r : R) (c u : Nodes R) → (h ≡ false → u ≡ c)
      → cond b (node w.row w.children none) (cond h (node r u none) (node r c none)) ≡ alone (cond b w (record { row = r; children = u }))
  alone_step true h r c u k = refl
  alone_step false true r c u k = refl
  alone_step false false r c u k = ap (λ v. node r v none) (sym (k refl))

  pub alone-put : (tree : Branch R)
      → put key x w (alone tree) ≡ alone (cond (key tree.row == x) w (record { row = tree.row; children = put key x w tree.children }))
  alone-put tree = alone_step (key tree.row == x) (has key x tree.children) tree.row tree.children (put key x w tree.children)
      (put-absent tree.children)

  -- what is found in a tree is the one node that is changed in it
  pub at-put_root : (tree old : Branch R) → find key x (alone tree) ≡ Some old
      → (depth : ℕ) × At old w depth (alone tree)
      (alone (cond (key tree.row == x) w (record { row = tree.row; children = put key x w tree.children })))
  at-put_root tree old found =
      let e = at-put key x w (alone tree) old found in
      (e.0, subst (λ (m : Nodes R). At old w e.0 (alone tree) m) (alone-put tree) e.1)

-- ---- levels

module _ {R : Type 0} (key : R → ℕ) where
  pub level_of-absent : (x level : ℕ) (n : Nodes R) → tally key x n ≡ 0 → level_of key x level n ≡ None
  level_of-absent x level none h = refl
  level_of-absent x level (node r c t) h =
      elim (tally_cases key x r c t) [
        | inl p ↦ absurd (omega arith)
        | inr p ↦ rw (ne_eqb (key r) x p.0, level_of-absent x (suc level) c (omega arith), level_of-absent x level t (omega arith)) refl
      ]

  pub level-at : {old new : Branch R} {depth : ℕ} {n m : Nodes R} (level : ℕ) → At old new depth n m → tally key (key old.row) n ≤ 1
      → level_of key (key old.row) level n ≡ Some (level + depth)
  level-at {old = o} level (here t) once = rw (eq-eqb (key o.row) (key o.row) refl) (let e : level ≡ level + 0 = omega arith in cc)
  level-at {old = o} level (within depth r c m t e) once =
      let there = At-tally key e in
      let k = tally_below key (key o.row) r c t in
      rw (ne_eqb (key r) (key o.row) (other_row key (key o.row) r c t (omega arith) once), level-at (suc level) e (omega arith))
      (let l : suc level + depth ≡ level + suc depth = omega arith in cc)
  level-at {old = o} level (past depth r c t m e) once =
      let there = At-tally key e in
      let k = tally_below key (key o.row) r c t in
      rw (
        ne_eqb (key r) (key o.row) (other_row key (key o.row) r c t (omega arith) once),
        level_of-absent (key o.row) (suc level) c
            (omega arith),
        level-at level e (omega arith),
      ) refl

-- ---- children and parents

-- the first of these trees whose row has the key
abbrev pub child_of : {R : Type 0} (key : R → ℕ) (x : ℕ) → Nodes R → Option (Branch R)
child_of key x none = None
child_of key x (node r c t) = cond (key r == x) (Some (record { row = r; children = c })) (child_of key x t)

module _ {R : Type 0} (key : R → ℕ) (x : ℕ) where
  child_step : (b : Bool) (r : R) (c t : Nodes R) (w : Branch R) (P : Type 0) → (key r == x) ≡ b
      → cond b (Some (record { row = r; children = c })) (child_of key x t) ≡ Some w
      → (key r ≡ x → ◌≡◌ {A = Branch R} (record { row = r; children = c }) w → P)
      → (child_of key x t ≡ Some w → P) → P
  child_step true r c t w P is e this later = this (eqb-true (key r) x is) (cc)
  child_step false r c t w P is e this later = later e

  pub child-tally : (n : Nodes R) (w : Branch R) → child_of key x n ≡ Some w → 0 < tally key x n
  child-tally none w e = absurd (cc)
  child-tally (node r c t) w e =
      let k = tally_below key x r c t in
      child_step (key r == x) r c t w (0 < tally key x (node r c t)) refl e (λ is same. tally_row key x r c t is)
      (λ f. let h = child-tally t w f in omega arith)

  pub child-stands : (n : Nodes R) (w : Branch R) → child_of key x n ≡ Some w → Stands w n
  child-stands none w e = absurd (cc)
  child-stands (node r c t) w e =
      child_step (key r == x) r c t w (Stands w (node r c t)) refl e
      (λ is same. subst (λ (o : Branch R). Stands o (node r c t)) same (0, node r c t, here t))
      (λ f. let s = child-stands t w f in (s.0, node r c s.1, past s.0 r c t s.1 s.2))

  pub child-key : (n : Nodes R) (w : Branch R) → child_of key x n ≡ Some w → key w.row ≡ x
  child-key none w e = absurd (cc)
  child-key (node r c t) w e = child_step (key r == x) r c t w (key w.row ≡ x) refl e
      (λ is same. subst (λ (o : Branch R). key o.row ≡ x) same is) (child-key t w)

  pub parent_of-absent : (above : ℕ) (n : Nodes R) → tally key x n ≡ 0 → parent_of key x above n ≡ None
  parent_of-absent above none h = refl
  parent_of-absent above (node r c t) h =
      elim (tally_cases key x r c t) [
        | inl p ↦ absurd (omega arith)
        | inr p ↦ rw (ne_eqb (key r) x p.0, parent_of-absent (key r) c (omega arith), parent_of-absent above t (omega arith)) refl
      ]

  -- the parent of one of these trees is the one above them
  pub child-parent : (above : ℕ) (n : Nodes R) (w : Branch R) → child_of key x n ≡ Some w → tally key x n ≤ 1
      → parent_of key x above n ≡ Some above
  child-parent above none w e once = absurd (cc)
  child-parent above (node r c t) w e once =
      child_step (key r == x) r c t w (parent_of key x above (node r c t) ≡ Some above) refl e (λ is same. rw (eq-eqb (key r) x is) refl)
      (λ f.
      let h = child-tally t w f in
      let k = tally_below key x r c t in
      rw (
        ne_eqb (key r) x (other_row key x r c t (omega arith) once),
        parent_of-absent (key r) c (omega arith),
        child-parent above t w f
            (omega arith),
      ) refl)

  -- and that of a child of a node among them is that node
  pub parent-at : {b d : Branch R} {depth : ℕ} {n m : Nodes R} (above : ℕ) (w : Branch R) → At b d depth n m
      → child_of key x b.children ≡ Some w → tally key x n ≤ 1 → (parent_of key x above n ≡ Some (key b.row)) × (0 < tally key x n)
  parent-at {b = b} above w (here t) e once =
      let h = child-tally b.children w e in
      let k = tally_below key x b.row b.children t in (
        rw (
          ne_eqb (key b.row) x (other_row key x b.row b.children t (omega arith) once),
          child-parent (key b.row) b.children w e
              (omega arith),
        ) refl,
        omega arith,
      )
  parent-at above w (within depth r c m t e) f once =
      let k = tally_below key x r c t in
      let h = parent-at (key r) w e f (omega arith) in
      (rw (ne_eqb (key r) x (other_row key x r c t (let p = h.1 in omega arith) once), h.0) refl, let p = h.1 in omega arith)
  parent-at above w (past depth r c t m e) f once =
      let k = tally_below key x r c t in
      let h = parent-at above w e f (omega arith) in
      let p = h.1 in
      (rw (ne_eqb (key r) x (other_row key x r c t (omega arith) once), parent_of-absent (key r) c (omega arith), h.0) refl, omega arith)

-- a node that is found below others, with its parent
pub record Held {R : Type 0} (key : R → ℕ) (x above : ℕ) (n : Nodes R) (w : Branch R) : Type 0 where
  pub holder : Branch R
  pub stands : Stands holder n
  pub child : child_of key x holder.children ≡ Some w
  pub parent : parent_of key x above n ≡ Some (key holder.row)

module _ {R : Type 0} (key : R → ℕ) (x : ℕ) where
  abbrev pub IsTop : ℕ → Nodes R → Branch R → Type 0
  IsTop above n w = (child_of key x n ≡ Some w) × (parent_of key x above n ≡ Some above)

  unfound_step : (b : Bool) (r : R) (c : Nodes R) (above : ℕ) (f g : Option (Branch R)) (p q : Option ℕ)
      → cond b (Some (record { row = r; children = c })) (first_of f g) ≡ None → (f ≡ None → p ≡ None) → (g ≡ None → q ≡ None)
      → cond b (Some above) (first_of p q) ≡ None
  unfound_step true r c above f g p q e k l = absurd (cc)
  unfound_step false r c above (Some o) g p q e k l = absurd (cc)
  unfound_step false r c above None g p q e k l = rw (k refl) (l e)

  pub parent_of-unfound : (above : ℕ) (n : Nodes R) → find key x n ≡ None → parent_of key x above n ≡ None
  parent_of-unfound above none e = refl
  parent_of-unfound above (node r c t) e =
      unfound_step (key r == x) r c above (find key x c) (find key x t) (parent_of key x (key r) c) (parent_of key x above t) e
      (parent_of-unfound (key r) c) (parent_of-unfound above t)

  top_here : (above : ℕ) (r : R) (c t : Nodes R) (w : Branch R) → (key r == x) ≡ true
      → ◌≡◌ {A = Branch R} (record { row = r; children = c }) w → IsTop above (node r c t) w
  top_here above r c t w is same = (rw is (ap (λ (o : Branch R). Some o) same), rw is refl)

  held_within : (above : ℕ) (r : R) (c t : Nodes R) (w : Branch R) → (key r == x) ≡ false → IsTop (key r) c w ⊎ Held key x (key r) c w
      → Held key x above (node r c t) w
  held_within above r c t w is (inl p) = record {
    holder = record { row = r; children = c };
    stands = (0, node r c t, here t);
    child = p.0;
    parent = rw (is, p.1) refl;
  }
  held_within above r c t w is (inr h) =
      let s = h.stands in
      record {
        holder = h.holder;
        stands = (suc s.0, node r s.1 t, within s.0 r c s.1 t s.2);
        child = h.child;
        parent = rw (is, h.parent) refl;
      }

  held_past : (above : ℕ) (r : R) (c t : Nodes R) (w : Branch R) → (key r == x) ≡ false → parent_of key x (key r) c ≡ None
      → IsTop above t w ⊎ Held key x above t w → IsTop above (node r c t) w ⊎ Held key x above (node r c t) w
  held_past above r c t w is no_parent (inl p) = inl (rw is p.0, rw (is, no_parent) p.1)
  held_past above r c t w is no_parent (inr h) =
      let s = h.stands in
      inr (record {
        holder = h.holder;
        stands = (s.0, node r c s.1, past s.0 r c t s.1 s.2);
        child = h.child;
        parent = rw (is, no_parent) h.parent;
      })

  held_step : (above : ℕ) (r : R) (c t : Nodes R) (w : Branch R) (b : Bool) (f g : Option (Branch R)) → (key r == x) ≡ b
      → cond b (Some (record { row = r; children = c })) (first_of f g) ≡ Some w
      → (f ≡ Some w → IsTop (key r) c w ⊎ Held key x (key r) c w)
      → (f ≡ None → parent_of key x (key r) c ≡ None)
      → (g ≡ Some w → IsTop above t w ⊎ Held key x above t w)
      → IsTop above (node r c t) w ⊎ Held key x above (node r c t) w
  held_step above r c t w true f g is e below unfound after = inl (top_here above r c t w is (cc))
  held_step above r c t w false (Some o) g is e below unfound after = inr (held_within above r c t w is (below e))
  held_step above r c t w false None g is e below unfound after = held_past above r c t w is (unfound refl) (after e)

  -- what is found is one of these trees, or a child of a node among them
  pub held : (above : ℕ) (n : Nodes R) (w : Branch R) → find key x n ≡ Some w → IsTop above n w ⊎ Held key x above n w
  held above none w e = absurd (cc)
  held above (node r c t) w e = held_step above r c t w (key r == x) (find key x c) (find key x t) refl e (held (key r) c w)
      (parent_of-unfound (key r) c) (held above t w)
