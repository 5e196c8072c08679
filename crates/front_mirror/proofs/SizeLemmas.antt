-- Where one node changes, the numbers of nodes change at it and above it alone.
use Rattle.std.proofs.Common.{◌≡◌, ◌≢◌, ℕ, ◌+◌, ◌<◌, ◌≤◌, ◌==◌, ◌||◌, Bool, true, false, cond, Option, Some, None}
use Rattle.std.proofs.Common.{refl, sym, ap, ◌∙◌, subst, arith, inl, inr}
use Rattle.std.proofs.lemmas.Bool.{eq-eqb, eqb-true, ne_eqb}
use Rattle.node_tree.specs.Nodes.{Nodes, none, node, Branch, branch_count}
use Rattle.node_tree.specs.Keys.{first_of, tally, find, At, here, within, past}
use Rattle.node_tree.proofs.KeyLemmas.{tally_below, tally_cases, find-absent, stands-find, found_key, At-tally}
use Rattle.node_tree.proofs.ChangeLemmas.{count-at, at-back, tally_in-at}
use Rattle.front_mirror.specs.Sizes.{on_path}

module _ {R : Type 0} (key : R → ℕ) (k : ℕ) where
  pub found-there : (n : Nodes R) (b : Branch R) → find key k n ≡ Some b → 0 < tally key k n
  found-there n b found =
      let s = stands-find key k n b found in
      let h = At-tally key s.2 in
      let e = found_key key k n b found in
      subst (λ x. 0 < tally key x n) e h

  pub unfound-absent : (n : Nodes R) → find key k n ≡ None → tally key k n ≡ 0
  unfound-absent none e = refl
  unfound-absent (node r c t) e = at (key r == k) (find key k c) (find key k t) refl e (unfound-absent c) (unfound-absent t) where
    at : (b : Bool) (f g : Option (Branch R)) → (key r == k) ≡ b
        → cond b (Some (record { row = r; children = c })) (first_of f g) ≡ None → (f ≡ None → tally key k c ≡ 0)
        → (g ≡ None → tally key k t ≡ 0) → cond {A = ℕ} b 1 0 + tally key k c + tally key k t ≡ 0
    at true f g is e p q = absurd cc
    at false (Some x) g is e p q = absurd cc
    at false None g is e p q = let a = p refl in let b = q e in omega arith

  first-none : (f g : Option (Branch R)) → f ≡ None → first_of f g ≡ g
  first-none None g e = refl
  first-none (Some x) g e = absurd cc

  pub find-here : (r : R) (c t : Nodes R) → key r ≡ k → find key k (node r c t) ≡ Some (record { row = r; children = c })
  find-here r c t e = rw (eq-eqb (key r) k e) refl

  pub find-below : (r : R) (c t : Nodes R) (b : Branch R) → tally key k (node r c t) ≤ 1 → find key k c ≡ Some b
      → find key k (node r c t) ≡ Some b
  find-below r c t b once found = elim (tally_cases key k r c t) [
    | inl p ↦ let h = found-there c b found in absurd (omega (arith, p.1))
    | inr p ↦ rw (ne_eqb (key r) k p.0, found) refl
  ]

  pub find-after : (r : R) (c t : Nodes R) (b : Branch R) → tally key k (node r c t) ≤ 1 → find key k t ≡ Some b
      → find key k (node r c t) ≡ Some b
  find-after r c t b once found = elim (tally_cases key k r c t) [
    | inl p ↦ let h = found-there t b found in absurd (omega (arith, p.1))
    | inr p ↦
        let h = found-there t b found in
        rw (ne_eqb (key r) k p.0, find-absent key k c (omega (arith, p.1)), found) refl
  ]

  -- where a node is found: first, below, or after
  pub data Finds (r : R) (c t : Nodes R) (b : Branch R) : Type 0 where
    top : key r ≡ k → ◌≡◌ {A = Branch R} (record { row = r; children = c }) b → Finds r c t b
    below : key r ≢ k → find key k c ≡ Some b → Finds r c t b
    after : key r ≢ k → find key k c ≡ None → find key k t ≡ Some b → Finds r c t b

  -- two searches tell where
  finds_at : (r : R) (c t : Nodes R) (b : Branch R) (v : Bool) (f : Option (Branch R)) → (v ≡ true → key r ≡ k) → (v ≡ false → key r ≢ k)
      → find key k c ≡ f → cond v (Some (record { row = r; children = c })) (first_of f (find key k t)) ≡ Some b → Finds r c t b
  finds_at r c t b true f y n is e = top (y refl) cc
  finds_at r c t b false (Some x) y n is e = below (n refl) (is ∙ e)
  finds_at r c t b false None y n is e = after (n refl) is e

  pub finds : (r : R) (c t : Nodes R) (b : Branch R) → find key k (node r c t) ≡ Some b → Finds r c t b
  finds r c t b e = finds_at r c t b (key r == k) (find key k c) (λ y. eqb-true (key r) k y)
      (λ n same. let yes : (key r == k) ≡ true = eq-eqb (key r) k same in let no_ : ◌≡◌ {A = Bool} true false = sym yes ∙ n
      in absurd cc) refl e

both_false : (a b : Bool) → (a || b) ≡ false → (a ≡ false) × (b ≡ false)
both_false true b e = absurd cc
both_false false true e = absurd cc
both_false false false e = (refl, refl)

-- what is found at or above the changed node, before and after
pub record OnPath {R : Type 0} (key : R → ℕ) (k : ℕ) (old new : Branch R) (n m : Nodes R) : Type 0 where
  pub was : Branch R
  pub is : Branch R
  pub found_was : find key k n ≡ Some was
  pub found_is : find key k m ≡ Some is
  pub counts : branch_count is + branch_count old ≡ branch_count was + branch_count new

-- what is found elsewhere: below the changed node, or where it was found before
pub data OffPath {R : Type 0} (key : R → ℕ) (k : ℕ) (new : Branch R) (n : Nodes R) (b : Branch R) : Type 0 where
  below_it : find key k new.children ≡ Some b → OffPath key k new n b
  elsewhere : find key k n ≡ Some b → find key k new.children ≡ None → OffPath key k new n b

module _ {R : Type 0} (key : R → ℕ) (k : ℕ) {old new : Branch R} (same : key new.row ≡ key old.row) where
  above_step : {depth : ℕ} (r : R) (c m t : Nodes R) → At old new depth c m → key r ≡ k → OnPath key k old new (node r c t) (node r m t)
  above_step r c m t e is = record {
    was = record { row = r; children = c };
    is = record { row = r; children = m };
    found_was = find-here key k r c t is;
    found_is = find-here key k r m t is;
    counts = let h = count-at e in omega arith;
  }

  pub path-found : {depth : ℕ} {n m : Nodes R} (e : At old new depth n m) → tally key k n ≤ 1 → tally key k m ≤ 1 → on_path key k e ≡ true
      → OnPath key k old new n m
  path-found (here t) once one on =
      let is : key old.row ≡ k = eqb-true (key old.row) k on in
      record {
        was = old;
        is = new;
        found_was = find-here key k old.row old.children t is;
        found_is = find-here key k new.row new.children t (same ∙ is);
        counts = omega arith;
      }
  path-found (within depth r c m t e) once one on =
      let a = tally_below key k r c t in
      let b = tally_below key k r m t in
      at (key r == k) (λ y. eqb-true (key r) k y) on (path-found e (omega arith) (omega arith))
    where
      at : (v : Bool) → (v ≡ true → key r ≡ k) → (v || on_path key k e) ≡ true → (on_path key k e ≡ true → OnPath key k old new c m)
          → OnPath key k old new (node r c t) (node r m t)
      at true y f later = above_step r c m t e (y refl)
      at false y f later =
          let p = later f in
          record {
            was = p.was;
            is = p.is;
            found_was = find-below key k r c t p.was once p.found_was;
            found_is = find-below key k r m t p.is one p.found_is;
            counts = p.counts;
          }
  path-found (past depth r c t m e) once one on =
      let a = tally_below key k r c t in
      let b = tally_below key k r c m in
      let p = path-found e (omega arith) (omega arith) on in
      record {
        was = p.was;
        is = p.is;
        found_was = find-after key k r c t p.was once p.found_was;
        found_is = find-after key k r c m p.is one p.found_is;
        counts = p.counts;
      }

  none_below : {depth : ℕ} {n m : Nodes R} → At old new depth n m → tally key k m ≡ 0 → find key k new.children ≡ None
  none_below e z =
      let h = tally_in-at key k (at-back e) in
      find-absent key k new.children (let i = tally_below key k new.row new.children none in omega arith)

  pub on-none : {depth : ℕ} {n m : Nodes R} (e : At old new depth n m) → tally key k m ≤ 1 → on_path key k e ≡ true
      → find key k new.children ≡ None
  on-none (here t) one on =
      let is : key old.row ≡ k = eqb-true (key old.row) k on in
      elim (tally_cases key k new.row new.children t) [
        | inl p ↦ find-absent key k new.children (omega (arith, p.1))
        | inr p ↦ absurd (p.0 (same ∙ is))
      ]
  on-none (within depth r c m t e) one on =
      let d = tally_below key k r m t in
      at (key r == k) (λ y. eqb-true (key r) k y) on (on-none e (omega arith))
    where
      at : (v : Bool) → (v ≡ true → key r ≡ k) → (v || on_path key k e) ≡ true → (on_path key k e ≡ true → find key k new.children ≡ None)
          → find key k new.children ≡ None
      at true y f later =
          none_below e (elim (tally_cases key k r m t) [ inl p ↦ omega (arith, p.1) | inr p ↦ absurd (p.0 (y refl)) ])
      at false y f later = later f
  on-none (past depth r c t m e) one on =
      let d = tally_below key k r c m in
      on-none e (omega arith) on

  pub off-found : {depth : ℕ} {n m : Nodes R} (e : At old new depth n m) → tally key k n ≤ 1 → tally key k m ≤ 1
      → on_path key k e ≡ false → (b : Branch R) → find key k m ≡ Some b → OffPath key k new n b
  off-found (here t) once one off b found = elim (finds key k new.row new.children t b found) [
    | top is e ↦
        let yes : (key old.row == k) ≡ true = eq-eqb (key old.row) k (sym same ∙ is) in
        let both : ◌≡◌ {A = Bool} true false = sym yes ∙ off in
        absurd cc
    | below other e ↦ below_it e
    | after other e f ↦ elsewhere (find-after key k old.row old.children t b once f) e
  ]
  off-found (within depth r c m t e) once one off b found =
      let a = tally_below key k r c t in
      let d = tally_below key k r m t in
      let off2 = both_false (key r == k) (on_path key k e) off in
      elim (finds key k r m t b found) [
        | top is f ↦
            let yes : (key r == k) ≡ true = eq-eqb (key r) k is in
            let both : ◌≡◌ {A = Bool} true false = sym yes ∙ off2.0 in
            absurd cc
        | below other f ↦ elim (off-found e (omega arith) (omega arith) off2.1 b f) [
          | below_it g ↦ below_it g
          | elsewhere g h ↦ elsewhere (find-below key k r c t b once g) h
        ]
        | after other f g ↦ elsewhere (find-after key k r c t b once g) (none_below e (unfound-absent key k m f))
      ]
  off-found (past depth r c t m e) once one off b found =
      let a = tally_below key k r c t in
      let d = tally_below key k r c m in
      elim (finds key k r c m b found) [
        | top is f ↦
            let row = tally_cases key k r c m in
            elsewhere (find-here key k r c t is ∙ ap Some f)
            (none_below e (elim row [ inl p ↦ omega (arith, p.1) | inr p ↦ absurd (p.0 is) ]))
        | below other f ↦
            let there = found-there key k c b f in
            elsewhere (find-below key k r c t b once f) (none_below e (omega arith))
        | after other f g ↦ elim (off-found e (omega arith) (omega arith) off b g) [
          | below_it h ↦ below_it h
          | elsewhere h i ↦ elsewhere (find-after key k r c t b once h) i
        ]
      ]
