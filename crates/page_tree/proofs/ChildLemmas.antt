-- A tree put among others, and taken out.
use Rattle.std.proofs.Common.{◌≡◌, ◌⊎◌, ℕ, ◌+◌, ◌<◌, ◌≤◌, ◌==◌, ◌||◌, max, Bool, true, false, cond, Some, inl, inr, subst, refl, sym, ap}
use Rattle.std.proofs.Common.{◌∙◌, arith}
use Rattle.std.proofs.lemmas.Bool.{eq-eqb, eqb-true, ne_eqb}
use Rattle.node_tree.specs.Nodes.{Nodes, none, node, Branch, alone, node_count, branch_count, height}
use Rattle.node_tree.specs.Keys.{tally, tally_in, here, past}
use Rattle.node_tree.proofs.KeyLemmas.{tally_row, tally_below, tally_cases, other_row, Stands}
use Rattle.node_tree.proofs.ChangeLemmas.{child_of}
use Rattle.page_tree.specs.Pages.{PageRow, row_serial}
use Rattle.page_tree.specs.Edits.{put_before, taken_out, first_serial, next_sibling, is_among}

-- The second trees are the first with w among them.
pub data Inserted (w : Branch PageRow) : Nodes PageRow → Nodes PageRow → Type 0 where
  front : (t : Nodes PageRow) → Inserted w t (node w.row w.children t)
  behind : (r : PageRow) (c t u : Nodes PageRow) → Inserted w t u → Inserted w (node r c t) (node r c u)

module _ {w : Branch PageRow} where
  pub tally-inserted : (x : ℕ) {n m : Nodes PageRow} → Inserted w n m
      → tally row_serial x m ≡ tally row_serial x n + tally_in row_serial x w
  tally-inserted x (front t) = omega arith
  tally-inserted x (behind r c t u i) = omega (arith, tally-inserted x i)

  pub count-inserted : {n m : Nodes PageRow} → Inserted w n m → node_count m ≡ node_count n + branch_count w
  count-inserted (front t) = omega arith
  count-inserted (behind r c t u i) = omega (arith, count-inserted i)

  pub height-inserted : {n m : Nodes PageRow} → Inserted w n m → height m ≡ max (height n) (height (alone w))
  height-inserted (front t) = omega arith
  height-inserted (behind r c t u i) = omega (arith, height-inserted i)

  pub stands-inserted : {n m : Nodes PageRow} → Inserted w n m → Stands w m
  stands-inserted (front t) = (0, node w.row w.children t, here t)
  stands-inserted (behind r c t u i) = let s = stands-inserted i in (s.0, node r c s.1, past s.0 r c u s.1 s.2)

-- ---- what is put before another, and what is taken out

put_step : (b : Bool) (w : Branch PageRow) (r : PageRow) (c t u : Nodes PageRow) → Inserted w t u
    → Inserted w (node r c t) (cond b (node w.row w.children (node r c t)) (node r c u))
put_step true w r c t u i = front (node r c t)
put_step false w r c t u i = behind r c t u i

pub inserted-before : (before : ℕ) (w : Branch PageRow) (n : Nodes PageRow) → Inserted w n (put_before before w n)
inserted-before before w none = front none
inserted-before before w (node r c t) = put_step (r.serial == before) w r c t (put_before before w t) (inserted-before before w t)

taken_step : (b : Bool) (w : Branch PageRow) (r : PageRow) (c t u : Nodes PageRow)
    → cond b (Some (record { row = r; children = c })) (child_of row_serial w.row.serial t) ≡ Some w
    → (child_of row_serial w.row.serial t ≡ Some w → Inserted w u t) → Inserted w (cond b t (node r c u)) (node r c t)
taken_step true w r c t u e k =
    let same : ◌≡◌ {A = Branch PageRow} (record { row = r; children = c }) w = cc in
    subst (λ (o : Branch PageRow). Inserted o t (node r c t)) same (front t)
taken_step false w r c t u e k = behind r c u t (k e)

-- what is taken out stood among the trees
inserted_taken : (w : Branch PageRow) (n : Nodes PageRow) → child_of row_serial w.row.serial n ≡ Some w
    → Inserted w (taken_out w.row.serial n) n
inserted_taken w none e = absurd (cc)
inserted_taken w (node r c t) e = taken_step (r.serial == w.row.serial) w r c t (taken_out w.row.serial t) e (inserted_taken w t)

pub inserted-taken : (serial : ℕ) (w : Branch PageRow) (n : Nodes PageRow) → w.row.serial ≡ serial → child_of row_serial serial n ≡ Some w
    → Inserted w (taken_out serial n) n
inserted-taken serial w n is e =
    subst (λ (s : ℕ). child_of row_serial s n ≡ Some w → Inserted w (taken_out s n) n) is (inserted_taken w n) e

-- ---- there and back

module _ (w : Branch PageRow) (before : ℕ) where
  child_put_at : (b : Bool) (r : PageRow) (c t : Nodes PageRow) → (r.serial == w.row.serial) ≡ false
      → child_of row_serial w.row.serial (put_before before w t) ≡ Some w
      → child_of row_serial w.row.serial (cond b (node w.row w.children (node r c t)) (node r c (put_before before w t))) ≡ Some w
  child_put_at true r c t other e = rw (eq-eqb w.row.serial w.row.serial refl) refl
  child_put_at false r c t other e = rw other e

  take_put_at : (b : Bool) (r : PageRow) (c t : Nodes PageRow) → (r.serial == w.row.serial) ≡ false
      → taken_out w.row.serial (put_before before w t) ≡ t
      → taken_out w.row.serial (cond b (node w.row w.children (node r c t)) (node r c (put_before before w t))) ≡ node r c t
  take_put_at true r c t other e = rw (eq-eqb w.row.serial w.row.serial refl) refl
  take_put_at false r c t other e = rw other (ap (node r c) e)

  -- a tree whose serial stands nowhere there is found after it was put in, and taken out again
  pub child-put : (n : Nodes PageRow) → tally row_serial w.row.serial n ≡ 0
      → child_of row_serial w.row.serial (put_before before w n) ≡ Some w
  child-put none h = rw (eq-eqb w.row.serial w.row.serial refl) refl
  child-put (node r c t) h =
      elim (tally_cases row_serial w.row.serial r c t) [
        | inl p ↦ absurd (omega arith)
        | inr p ↦ child_put_at (r.serial == before) r c t (ne_eqb r.serial w.row.serial p.0) (child-put t (omega arith))
      ]

  pub take-put : (n : Nodes PageRow) → tally row_serial w.row.serial n ≡ 0 → taken_out w.row.serial (put_before before w n) ≡ n
  take-put none h = rw (eq-eqb w.row.serial w.row.serial refl) refl
  take-put (node r c t) h =
      elim (tally_cases row_serial w.row.serial r c t) [
        | inl p ↦ absurd (omega arith)
        | inr p ↦ take_put_at (r.serial == before) r c t (ne_eqb r.serial w.row.serial p.0) (take-put t (omega arith))
      ]

  -- and it stands before the tree that it was put before, or last
  next_put_at : (b : Bool) (r : PageRow) (c t : Nodes PageRow) → (r.serial == before) ≡ b → (r.serial == w.row.serial) ≡ false
      → (b ≡ false → next_sibling w.row.serial (put_before before w t) ≡ before)
      → next_sibling w.row.serial (cond b (node w.row w.children (node r c t)) (node r c (put_before before w t))) ≡ before
  next_put_at true r c t is other k = rw (eq-eqb w.row.serial w.row.serial refl) (eqb-true r.serial before is)
  next_put_at false r c t is other k = rw other (k refl)

  among_later : (b d : Bool) → (b || d) ≡ true → b ≡ false → d ≡ true
  among_later true d e f = absurd (cc)
  among_later false d e f = e

  pub next-put_among : (n : Nodes PageRow) → tally row_serial w.row.serial n ≡ 0 → is_among before n ≡ true
      → next_sibling w.row.serial (put_before before w n) ≡ before
  next-put_among none h e = absurd (cc)
  next-put_among (node r c t) h e =
      elim (tally_cases row_serial w.row.serial r c t) [
        | inl p ↦ absurd (omega arith)
        | inr p ↦ next_put_at (r.serial == before) r c t refl (ne_eqb r.serial w.row.serial p.0)
            (λ f. next-put_among t (omega arith) (among_later (r.serial == before) (is_among before t) e f))
      ]

  pub next-put_last : (n : Nodes PageRow) → tally row_serial w.row.serial n ≡ 0 → tally row_serial before n ≡ 0 → before ≡ 0
      → next_sibling w.row.serial (put_before before w n) ≡ before
  next-put_last none h e z = rw (eq-eqb w.row.serial w.row.serial refl) (sym z)
  next-put_last (node r c t) h e z =
      elim (tally_cases row_serial w.row.serial r c t) [
        | inl p ↦ absurd (omega arith)
        | inr p ↦ next_put_at (r.serial == before) r c t refl (ne_eqb r.serial w.row.serial p.0)
            (λ f. next-put_last t (omega arith)
            (elim (tally_cases row_serial before r c t) [ inl q ↦ absurd (omega arith) | inr q ↦ omega arith ]) z)
      ]

among_step : (b d : Bool) (x k : ℕ) → (b ≡ true → 0 < k) → (d ≡ true → 0 < k) → (b || d) ≡ true → 0 < k
among_step true d x k f g e = f refl
among_step false d x k f g e = g e

pub among-tally : (x : ℕ) (n : Nodes PageRow) → is_among x n ≡ true → 0 < tally row_serial x n
among-tally x none e = absurd (cc)
among-tally x (node r c t) e =
    let k = tally_below row_serial x r c t in
    among_step (r.serial == x) (is_among x t) x (tally row_serial x (node r c t))
    (λ f. tally_row row_serial x r c t (eqb-true r.serial x f)) (λ f. let h = among-tally x t f in omega arith) e

either_true : (b d : Bool) → d ≡ true → (b || d) ≡ true
either_true true d e = refl
either_true false d e = e

first_among : (t : Nodes PageRow) → (first_serial t ≡ 0) ⊎ (is_among (first_serial t) t ≡ true)
first_among none = inl refl
first_among (node r c t) = inr (rw (eq-eqb r.serial r.serial refl) refl)

next_among_at : (serial : ℕ) (b : Bool) (r : PageRow) (c t : Nodes PageRow)
    → (b ≡ false → (next_sibling serial t ≡ 0) ⊎ (is_among (next_sibling serial t) (taken_out serial t) ≡ true))
    → (cond b (first_serial t) (next_sibling serial t) ≡ 0)
    ⊎ (is_among (cond b (first_serial t) (next_sibling serial t)) (cond b t (node r c (taken_out serial t))) ≡ true)
next_among_at serial true r c t k = first_among t
next_among_at serial false r c t k = elim
    (k refl) [
      | inl e ↦ inl e
      | inr e ↦ inr
          (either_true (r.serial == next_sibling serial t) (is_among (next_sibling serial t) (taken_out serial t)) e)
    ]

-- the next sibling is none, or one of the others
pub next-among : (serial : ℕ) (n : Nodes PageRow)
    → (next_sibling serial n ≡ 0) ⊎ (is_among (next_sibling serial n) (taken_out serial n) ≡ true)
next-among serial none = inl refl
next-among serial (node r c t) = next_among_at serial (r.serial == serial) r c t (λ e. next-among serial t)

put_first : (w : Branch PageRow) (t : Nodes PageRow) → put_before (first_serial t) w t ≡ node w.row w.children t
put_first w none = refl
put_first w (node r c t) = rw (eq-eqb r.serial r.serial refl) refl

put_take_at : (serial : ℕ) (w : Branch PageRow) (b : Bool) (r : PageRow) (c t : Nodes PageRow)
    → cond b (Some (record { row = r; children = c })) (child_of row_serial serial t) ≡ Some w
    → (b ≡ false → (r.serial == next_sibling serial t) ≡ false)
    → (child_of row_serial serial t ≡ Some w → put_before (next_sibling serial t) w (taken_out serial t) ≡ t)
    → put_before (cond b (first_serial t) (next_sibling serial t)) w (cond b t (node r c (taken_out serial t))) ≡ node r c t
put_take_at serial w true r c t e other k =
    let same : ◌≡◌ {A = Branch PageRow} (record { row = r; children = c }) w = cc in
    put_first w t ∙ ap (λ (o : Branch PageRow). node o.row o.children t) (sym same)
put_take_at serial w false r c t e other k = rw (other refl) (ap (node r c) (k e))

fewer_at : (x : ℕ) (b : Bool) (q : PageRow) (d u v : Nodes PageRow) → tally row_serial x v ≤ tally row_serial x u
    → tally row_serial x (cond b u (node q d v)) ≤ tally row_serial x (node q d u)
fewer_at x true q d u v h = let k = tally_below row_serial x q d u in omega arith
fewer_at x false q d u v h = omega arith

taken_fewer : (x s : ℕ) (u : Nodes PageRow) → tally row_serial x (taken_out s u) ≤ tally row_serial x u
taken_fewer x s none = omega arith
taken_fewer x s (node q d u) = fewer_at x (q.serial == s) q d u (taken_out s u) (taken_fewer x s u)

-- what was taken out is put back before its next sibling
pub put-take : (serial : ℕ) (w : Branch PageRow) (n : Nodes PageRow) → child_of row_serial serial n ≡ Some w
    → ((x : ℕ) → tally row_serial x n ≤ 1) → tally row_serial 0 n ≡ 0 → put_before (next_sibling serial n) w (taken_out serial n) ≡ n
put-take serial w none e once zeros = absurd (cc)
put-take serial w (node r c t) e once zeros =
    put_take_at serial w (r.serial == serial) r c t e
    (λ f. ne_eqb r.serial (next_sibling serial t) (λ same. apart same (next-among serial t)))
    (λ f. put-take serial w t f (λ x. let k = tally_below row_serial x r c t in let o = once x in omega arith)
    (let k = tally_below row_serial 0 r c t in omega arith))
  where
    apart : r.serial ≡ next_sibling serial t → (next_sibling serial t ≡ 0) ⊎ (is_among (next_sibling serial t) (taken_out serial t) ≡ true)
        → ⊥
    apart same (inl z) = let h = tally_row row_serial 0 r c t (same ∙ z) in omega arith
    apart same (inr there) =
        let h = among-tally (next_sibling serial t) (taken_out serial t) there in
        let g = taken_fewer (next_sibling serial t) serial t in
        other_row row_serial (next_sibling serial t) r c t (omega arith) (once (next_sibling serial t)) same
