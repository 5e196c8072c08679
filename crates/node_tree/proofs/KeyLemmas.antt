-- Nodes by their keys, and what one changed node changes.
use Rattle.std.proofs.Common.{◌⊎◌, ◌≢◌, ◌≡◌, ℕ, zero, suc, ◌+◌, ◌<◌, ◌≤◌, ◌==◌, ◌||◌, max, Bool, true, false, cond, Option, Some, None}
use Rattle.std.proofs.Common.{is_some, subst, refl, inl, inr, arith}
use Rattle.std.proofs.lemmas.Bool.{eq-eqb, eqb-true, ne_eqb}
use Rattle.std.proofs.lemmas.Bool.Decides.{eqb_tells}
use Rattle.node_tree.specs.Nodes.{Nodes, none, node, Branch, tree_at, height}
use Rattle.node_tree.specs.Keys.{first_of, tally, tally_in, has, find, spot, put, At, here, within, past}

module _ {R : Type 0} (key : R → ℕ) (x : ℕ) {old new : Branch R} where
  -- how many nodes have a key, before and after
  pub tally-at : {depth : ℕ} {n m : Nodes R} → At old new depth n m
      → tally key x m + tally_in key x old ≡ tally key x n + tally_in key x new
  tally-at (here t) = omega arith
  tally-at (within depth r c m t e) = let h = tally-at e in omega arith
  tally-at (past depth r c t m e) = let h = tally-at e in omega arith

module _ {R : Type 0} {old new : Branch R} where
  pub height_above-at : {depth : ℕ} {n m : Nodes R} → At old new depth n m → depth + suc (height new.children) ≤ height m
  height_above-at (here t) = omega arith
  height_above-at (within depth r c m t e) = let h = height_above-at e in omega arith
  height_above-at (past depth r c t m e) = let h = height_above-at e in omega arith

  pub height-at : {depth : ℕ} {n m : Nodes R} → At old new depth n m → height m ≤ max (height n) (depth + suc (height new.children))
  height-at (here t) = omega arith
  height-at (within depth r c m t e) = let h = height-at e in omega arith
  height-at (past depth r c t m e) = let h = height-at e in omega arith

-- ---- where a key stands once

module _ {R : Type 0} (key : R → ℕ) (x : ℕ) where
  tally-here : (r : R) (c t : Nodes R) → key r ≡ x → tally key x (node r c t) ≡ 1 + tally key x c + tally key x t
  tally-here r c t e = rw (eq-eqb (key r) x e)

  tally-there : (r : R) (c t : Nodes R) → (key r ≡ x → ⊥) → tally key x (node r c t) ≡ tally key x c + tally key x t
  tally-there r c t other = rw (ne_eqb (key r) x other) (omega arith)

  -- whether the first row has the key, and what that makes of the number
  pub tally_cases : (r : R) (c t : Nodes R)
      → ((key r ≡ x) × (tally key x (node r c t) ≡ 1 + tally key x c + tally key x t))
      ⊎ ((key r ≢ x) × (tally key x (node r c t) ≡ tally key x c + tally key x t))
  tally_cases r c t = elim (eqb_tells (key r) x) [ inl p ↦ inl (p.1, tally-here r c t p.1) | inr p ↦ inr (p.1, tally-there r c t p.1) ]

  -- a row is one of the nodes
  pub tally_row : (r : R) (c t : Nodes R) → key r ≡ x → 0 < tally key x (node r c t)
  tally_row r c t e = omega (arith, tally-here r c t e)

  pub tally_below : (r : R) (c t : Nodes R) → tally key x c + tally key x t ≤ tally key x (node r c t)
  tally_below r c t = elim (eqb_tells (key r) x) [
    | inl p ↦ omega (arith, tally-here r c t p.1)
    | inr p ↦ omega
        (arith, tally-there r c t p.1)
  ]

  -- where x stands below r or after it, and once in all, r has another key
  pub other_row : (r : R) (c t : Nodes R) → 0 < tally key x c + tally key x t → tally key x (node r c t) ≤ 1 → key r ≡ x → ⊥
  other_row r c t h once e = omega (arith, tally-here r c t e)

  pub has-absent : (n : Nodes R) → tally key x n ≡ 0 → has key x n ≡ false
  has-absent none h = refl
  has-absent (node r c t) h =
      elim (eqb_tells (key r) x) [
        | inl p ↦ absurd (omega (arith, tally-here r c t p.1))
        | inr p ↦ let e = tally-there r c t p.1 in rw (p.0, has-absent c (omega arith), has-absent t (omega arith))
      ]

  either_there : (a b : Bool) (m n : ℕ) → (0 < m → a ≡ true) → (0 < n → b ≡ true) → 0 < m + n → (a || b) ≡ true
  either_there true b m n f g h = refl
  either_there false true m n f g h = refl
  either_there false false zero n f g h = g (omega arith)
  either_there false false (suc m) n f g h = f (omega arith)

  pub has-there : (n : Nodes R) → 0 < tally key x n → has key x n ≡ true
  has-there none h = absurd (omega arith)
  has-there (node r c t) h =
      elim (eqb_tells (key r) x) [
        | inl p ↦ rw p.0
        | inr p ↦ let e = tally-there r c t p.1 in rw p.0
            (either_there (has key x c) (has key x t) (tally key x c) (tally key x t) (has-there c) (has-there t) (omega arith))
      ]

  pub spot-absent : (level : ℕ) (n : Nodes R) → tally key x n ≡ 0 → spot key x level n ≡ None
  spot-absent level none h = refl
  spot-absent level (node r c t) h =
      elim (eqb_tells (key r) x) [
        | inl p ↦ absurd (omega (arith, tally-here r c t p.1))
        | inr p ↦ let e = tally-there r c t p.1 in rw (p.0, spot-absent (suc level) c (omega arith), spot-absent level t (omega arith))
      ]

  pub find-absent : (n : Nodes R) → tally key x n ≡ 0 → find key x n ≡ None
  find-absent none h = refl
  find-absent (node r c t) h =
      elim (eqb_tells (key r) x) [
        | inl p ↦ absurd (omega (arith, tally-here r c t p.1))
        | inr p ↦ let e = tally-there r c t p.1 in rw (p.0, find-absent c (omega arith), find-absent t (omega arith))
      ]

module _ {R : Type 0} (key : R → ℕ) {old new : Branch R} where
  -- the changed node is among the first trees
  pub At-tally : {depth : ℕ} {n m : Nodes R} → At old new depth n m → 0 < tally key (key old.row) n
  At-tally (here t) = tally_row key (key old.row) old.row old.children t refl
  At-tally (within depth r c m t e) = let h = At-tally e in let k = tally_below key (key old.row) r c t in omega arith
  At-tally (past depth r c t m e) = let h = At-tally e in let k = tally_below key (key old.row) r c t in omega arith

  -- the changed node is found, on its level
  pub spot-at : {depth : ℕ} {n m : Nodes R} (level : ℕ) → At old new depth n m → tally key (key old.row) n ≤ 1
      → spot key (key old.row) level n ≡ Some (record { branch = old; level = level + depth })
  spot-at level (here t) once = rw (eq-eqb (key old.row) (key old.row) refl) (let e : level ≡ level + 0 = omega arith in cc)
  spot-at level (within depth r c m t e) once =
      let there = At-tally e in
      let k = tally_below key (key old.row) r c t in
      rw (ne_eqb (key r) (key old.row) (other_row key (key old.row) r c t (omega arith) once), spot-at (suc level) e (omega arith))
      (let l : suc level + depth ≡ level + suc depth = omega arith in cc)
  spot-at level (past depth r c t m e) once =
      let there = At-tally e in
      let k = tally_below key (key old.row) r c t in
      rw (
        ne_eqb (key r) (key old.row) (other_row key (key old.row) r c t (omega arith) once),
        spot-absent key (key old.row) (suc level) c
            (omega arith),
        spot-at level e (omega arith),
      ) refl

  -- and changed where it is found
  pub put-at : {depth : ℕ} {n m : Nodes R} → At old new depth n m → tally key (key old.row) n ≤ 1 → put key (key old.row) new n ≡ m
  put-at (here t) once = rw (eq-eqb (key old.row) (key old.row) refl) refl
  put-at (within depth r c m t e) once =
      let there = At-tally e in
      let k = tally_below key (key old.row) r c t in
      rw (
        ne_eqb (key r) (key old.row) (other_row key (key old.row) r c t (omega arith) once),
        has-there key
            (key old.row) c there,
        put-at e (omega arith),
      ) refl
  put-at (past depth r c t m e) once =
      let there = At-tally e in
      let k = tally_below key (key old.row) r c t in
      rw (
        ne_eqb (key r) (key old.row) (other_row key (key old.row) r c t (omega arith) once),
        has-absent key (key old.row) c
            (omega arith),
        put-at e (omega arith),
      ) refl

-- ---- what is found can be changed

module _ {R : Type 0} where
  found_either : (b : Bool) (br : Branch R) (f g : Option (Branch R))
      → (b || is_some f || is_some g) ≡ is_some (cond b (Some br) (first_of f g))
  found_either true br f g = refl
  found_either false br (Some o) g = refl
  found_either false br None g = refl

  -- `has` says whether `find` finds
  pub has-find : (key : R → ℕ) (x : ℕ) (n : Nodes R) → has key x n ≡ is_some (find key x n)
  has-find key x none = refl
  has-find key x (node r c t) = rw (has-find key x c, has-find key x t)
      (found_either (key r == x) (record { row = r; children = c }) (find key x c) (find key x t))

  changed_here : (new old : Branch R) (r : R) (c t : Nodes R) → ◌≡◌ {A = Branch R} (record { row = r; children = c }) old
      → (depth : ℕ) × At old new depth (node r c t) (node new.row new.children t)
  changed_here new old r c t e = subst (λ (o : Branch R). (depth : ℕ) × At o new depth (node r c t) (node new.row new.children t)) e
      (0, here t)

  at_step : (new old : Branch R) (r : R) (c t u v : Nodes R) (b : Bool) (f g : Option (Branch R))
      → cond b (Some (record { row = r; children = c })) (first_of f g) ≡ Some old
      → ((o : Branch R) → f ≡ Some o → (depth : ℕ) × At o new depth c u)
      → ((o : Branch R) → g ≡ Some o → (depth : ℕ) × At o new depth t v)
      → (depth : ℕ) × At old new depth (node r c t) (cond b (node new.row new.children t) (cond (is_some f) (node r u t) (node r c v)))
  at_step new old r c t u v true f g e below after = changed_here new old r c t (cc)
  at_step new old r c t u v false (Some o) g e below after = let d = below old e in (suc d.0, within d.0 r c u t d.1)
  at_step new old r c t u v false None g e below after = let d = after old e in (d.0, past d.0 r c t v d.1)

  -- what `find` finds is the one node that `put` changes
  pub at-put : (key : R → ℕ) (x : ℕ) (new : Branch R) (n : Nodes R) (old : Branch R) → find key x n ≡ Some old
      → (depth : ℕ) × At old new depth n (put key x new n)
  at-put key x new none old found = absurd (cc)
  at-put key x new (node r c t) old found =
      rw (has-find key x c) (at_step new old r c t (put key x new c) (put key x new t) (key r == x) (find key x c) (find key x t) found
      (at-put key x new c) (at-put key x new t))

  -- what is found has the key
  found_key_step : (key : R → ℕ) (x : ℕ) (r : R) (c : Nodes R) (old : Branch R) (b : Bool) (f g : Option (Branch R)) → (key r == x) ≡ b
      → cond b (Some (record { row = r; children = c })) (first_of f g) ≡ Some old
      → (f ≡ Some old → key old.row ≡ x) → (g ≡ Some old → key old.row ≡ x) → key old.row ≡ x
  found_key_step key x r c old true f g is e below after = let here : key r
      ≡ x = eqb-true (key r) x is in let same : ◌≡◌ {A = Branch R} (record { row = r; children = c }) old = cc in subst
      (λ (o : Branch R). key o.row ≡ x) same here
  found_key_step key x r c old false (Some o) g is e below after = below e
  found_key_step key x r c old false None g is e below after = after e

  pub found_key : (key : R → ℕ) (x : ℕ) (n : Nodes R) (old : Branch R) → find key x n ≡ Some old → key old.row ≡ x
  found_key key x none old e = absurd (cc)
  found_key key x (node r c t) old e = found_key_step key x r c old (key r == x) (find key x c) (find key x t) refl e
      (found_key key x c old) (found_key key x t old)

-- ---- a node stands where it can be changed for itself; one that stands once is found

module _ {R : Type 0} where
  -- a node stands somewhere among these trees
  abbrev pub Stands : Branch R → Nodes R → Type 0
  Stands b n = (depth : ℕ) × (m : Nodes R) × At b b depth n m

  pub find-stands : (key : R → ℕ) (b : Branch R) (n : Nodes R) → Stands b n → tally key (key b.row) n ≤ 1 → find key (key b.row) n ≡ Some b
  find-stands key b n (depth, m, e) once = find-at e once
    where
      find-at : {depth : ℕ} {n m : Nodes R} → At b b depth n m → tally key (key b.row) n ≤ 1 → find key (key b.row) n ≡ Some b
      find-at (here t) once = rw (eq-eqb (key b.row) (key b.row) refl) refl
      find-at (within depth r c m t e) once =
          let there = At-tally key e in
          let k = tally_below key (key b.row) r c t in
          rw (ne_eqb (key r) (key b.row) (other_row key (key b.row) r c t (omega arith) once), find-at e (omega arith)) refl
      find-at (past depth r c t m e) once =
          let there = At-tally key e in
          let k = tally_below key (key b.row) r c t in
          rw (
            ne_eqb (key r) (key b.row) (other_row key (key b.row) r c t (omega arith) once),
            find-absent key (key b.row) c
                (omega arith),
            find-at e (omega arith),
          ) refl

  -- what is found stands there
  pub stands-find : (key : R → ℕ) (x : ℕ) (n : Nodes R) (b : Branch R) → find key x n ≡ Some b → Stands b n
  stands-find key x n b found = let e = at-put key x b n b found in (e.0, put key x b n, e.1)

  -- so does the tree at a place
  pub stands-tree_at : (i : ℕ) (n : Nodes R) (b : Branch R) → tree_at i n ≡ Some b → Stands b n
  stands-tree_at i none b e = absurd (cc)
  stands-tree_at zero (node r c t) b e = let same : ◌≡◌ {A = Branch R} (record { row = r; children = c }) b = cc in subst
      (λ (o : Branch R). Stands o (node r c t)) same (0, node r c t, here t)
  stands-tree_at (suc i) (node r c t) b e = let s = stands-tree_at i t b e in (s.0, node r c s.1, past s.0 r c t s.1 s.2)

  below_at : {old new : Branch R} {depth : ℕ} {n m : Nodes R} → At old new depth n m → (b : Branch R) → Stands b old.children → Stands b n
  below_at {old = o} (here t) b s = (suc s.0, node o.row s.1 t, within s.0 o.row o.children s.1 t s.2)
  below_at (within depth r c m t e) b s = let u = below_at e b s in (suc u.0, node r u.1 t, within u.0 r c u.1 t u.2)
  below_at (past depth r c t m e) b s = let u = below_at e b s in (u.0, node r c u.1, past u.0 r c t u.1 u.2)

  -- what stands below a node that stands there stands there too
  pub stands-below : (a b : Branch R) (n : Nodes R) → Stands a n → Stands b a.children → Stands b n
  stands-below a b n (depth, m, e) s = below_at e b s

  -- a child of a found node is found by its own key, where keys are distinct
  pub find-child : (key : R → ℕ) (n : Nodes R) → ((x : ℕ) → tally key x n ≤ 1) → (s : ℕ) (a : Branch R) → find key s n ≡ Some a
      → (i : ℕ) (b : Branch R) → tree_at i a.children ≡ Some b → find key (key b.row) n ≡ Some b
  find-child key n distinct s a found i b e = find-stands key b n
      (stands-below a b n (stands-find key s n a found) (stands-tree_at i a.children b e)) (distinct (key b.row))
