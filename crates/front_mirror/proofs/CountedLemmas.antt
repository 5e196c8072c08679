-- Numbers of nodes in a map, kept by each change of one node.
use Rattle.std.proofs.Common.{◌⊎◌, ◌≡◌, ◌≢◌, ℕ, suc, ◌+◌, ◌<◌, ◌≤◌, Bool, true, false, cond, Option, Some, None}
use Rattle.std.proofs.Common.{refl, sym, ap, ◌∙◌, subst, arith, inl, inr, option_map}
use Rattle.std.proofs.lemmas.Bool.{ne_eqb}
use Rattle.node_tree.specs.Nodes.{Nodes, none, node, Branch, branch_count}
use Rattle.node_tree.specs.Keys.{tally, find, At}
use Rattle.std.proofs.lemmas.Bool.{eq-eqb}
use Rattle.node_tree.specs.Nodes.{node_count}
use Rattle.node_tree.proofs.KeyLemmas.{tally_below, tally_cases, stands-below, stands-find, find-stands, found_key}
use Rattle.node_tree.proofs.ChangeLemmas.{at-old}
use Rattle.front_mirror.specs.Sizes.{shifted, on_path, noted, IsCounted, BecomesOn}
use Rattle.front_mirror.specs.Tables.{with_entry}
use Rattle.front_mirror.proofs.SizeLemmas.{path-found, off-found, on-none, below_it, elsewhere}
use Rattle.front_mirror.proofs.SizeLemmas.{top, below, after, finds, found-there, unfound-absent}

module _ {R : Type 0} (key : R → ℕ) {old new : Branch R} {depth : ℕ} {n m : Nodes R} (e : At old new depth n m)
    (same : key new.row ≡ key old.row) (once : (k : ℕ) → tally key k n ≤ 1) (one : (k : ℕ) → tally key k m ≤ 1)
    (mid fin : ℕ → Option ℕ) (f : ℕ → ℕ) (by_f : (x y : ℕ) → y + branch_count old ≡ x + branch_count new → f x ≡ y)
    (kept : (k : ℕ) (b : Branch R) → find key k n ≡ Some b → find key k new.children ≡ None → mid k ≡ Some (branch_count b))
    (came : (k : ℕ) (b : Branch R) → find key k new.children ≡ Some b → mid k ≡ Some (branch_count b))
    (became : BecomesOn (λ k. on_path key k e) f mid fin) where
  counted_at : (k : ℕ) (v : Bool) → on_path key k e ≡ v → (b : Branch R) → find key k m ≡ Some b → fin k ≡ Some (branch_count b)
  counted_at k true on b found =
      let p = path-found key k same e (once k) (one k) on in
      let both : ◌≡◌ {A = Option (Branch R)} (Some p.is) (Some b) = sym p.found_is ∙ found in
      let is : p.is ≡ b = cc in
      let was = kept k p.was p.found_was (on-none key k same e (one k) on) in
      let now : f (branch_count p.was) ≡ branch_count p.is = by_f (branch_count p.was) (branch_count p.is) p.counts in
      became k ∙ ap (λ v. cond v (option_map f (mid k)) (mid k)) on ∙ ap (option_map f) was ∙ ap Some (now ∙ ap branch_count is)
  counted_at k false off b found =
      let stays : fin k ≡ mid k = became k ∙ ap (λ v. cond v (option_map f (mid k)) (mid k)) off in
      stays ∙ elim (off-found key k same e (once k) (one k) off b found) [ below_it g ↦ came k b g | elsewhere g h ↦ kept k b g h ]

  -- the numbers are those of the tree after
  pub counted-after : IsCounted key fin m
  counted-after k b found = counted_at k (on_path key k e) refl b found

-- ---- nodes that come in

entry_at : {X : Type 0} (k : ℕ) (w : Option X) (old : ℕ → Option X) → with_entry k w old k ≡ w
entry_at k w old = ap (λ b. cond b w (old k)) (eq-eqb k k refl)

entry_other : {X : Type 0} (k : ℕ) (w : Option X) (old : ℕ → Option X) (j : ℕ) → j ≢ k → with_entry k w old j ≡ old j
entry_other k w old j other = ap (λ b. cond b w (old j)) (ne_eqb j k other)

module _ {R : Type 0} (key : R → ℕ) where
  -- the others keep their numbers
  pub noted-outside : (n : Nodes R) (counts : ℕ → Option ℕ) (k : ℕ) → tally key k n ≡ 0 → noted key n counts k ≡ counts k
  noted-outside none counts k h = refl
  noted-outside (node r c t) counts k h = elim (tally_cases key k r c t) [
    | inl p ↦ absurd (omega (arith, p.1))
    | inr p ↦
        let e = p.1 in
        noted-outside t (with_entry (key r) (Some (suc (node_count c))) (noted key c counts)) k (omega arith)
        ∙ entry_other (key r) (Some (suc (node_count c))) (noted key c counts) k (λ e. p.0 (sym e))
        ∙ noted-outside c counts k (omega arith)
  ]

  -- each of them has its own
  pub noted-inside : (n : Nodes R) (counts : ℕ → Option ℕ) (k : ℕ) → tally key k n ≤ 1 → (b : Branch R) → find key k n ≡ Some b
      → noted key n counts k ≡ Some (branch_count b)
  noted-inside none counts k once b found = absurd cc
  noted-inside (node r c t) counts k once b found =
      let first = with_entry (key r) (Some (suc (node_count c))) (noted key c counts) in
      let w = tally_below key k r c t in
      elim (finds key k r c t b found) [
        | top is e ↦
            let absent : tally key k t ≡ 0 = elim (tally_cases key k r c t) [
              | inl p ↦ omega (arith, p.1)
              | inr p ↦ absurd (p.0 is)
            ] in
            noted-outside t first k absent ∙ ap first (sym is) ∙ entry_at (key r) (Some (suc (node_count c))) (noted key c counts)
            ∙ ap (λ (o : Branch R). Some (branch_count o)) e
        | below other e ↦
            let there = found-there key k c b e in
            noted-outside t first k (omega arith)
            ∙ entry_other (key r) (Some (suc (node_count c))) (noted key c counts) k (λ same. other (sym same))
            ∙ noted-inside c counts k (omega arith) b e
        | after other e g ↦ noted-inside t first k (omega arith) b g
      ]

  -- one tree more
  pub noted_turn : (r : R) (c t : Nodes R) (counts mine mid new : ℕ → Option ℕ) (size : ℕ) → mine ≡ noted key c counts
      → size ≡ suc (node_count c) → mid ≡ with_entry (key r) (Some size) mine → new ≡ noted key t mid → new ≡ noted key (node r c t) counts
  noted_turn r c t counts mine mid new size b s m e =
      e ∙ ap (noted key t) (m ∙ (λ i. with_entry (key r) (Some (s i)) (b i)))

-- ---- a node that changes, with what comes in below it and what leaves

-- What comes is below the node after, and all else below it was there before.
pub record Comes {R : Type 0} (key : R → ℕ) (old new : Branch R) (come : Nodes R) : Type 0 where
  pub into : (k : ℕ) → tally key k come ≤ tally key k new.children
  pub once : (k : ℕ) → tally key k come ≤ 1
  pub from_both : (k : ℕ) (b : Branch R) → find key k new.children ≡ Some b
      → (find key k come ≡ Some b) ⊎ ((find key k old.children ≡ Some b) × (tally key k come ≡ 0))

module _ {R : Type 0} (key : R → ℕ) {old new : Branch R} {depth : ℕ} {n m : Nodes R} (e : At old new depth n m)
    (same : key new.row ≡ key old.row) (once : (k : ℕ) → tally key k n ≤ 1) (one : (k : ℕ) → tally key k m ≤ 1)
    (come : Nodes R) (comes : Comes key old new come) (fewer : ℕ)
    (balance : branch_count new + fewer ≡ branch_count old + node_count come)
    (start fin : ℕ → Option ℕ) (counted : IsCounted key start n)
    (became : BecomesOn (λ k. on_path key k e) (shifted (node_count come) fewer) (noted key come start) fin) where
  found_inside : (k : ℕ) (b : Branch R) → find key k old.children ≡ Some b → find key k n ≡ Some b
  found_inside k b found =
      let s = stands-below old b n (depth, n, at-old e) (stands-find key k old.children b found) in
      subst (λ x. find key x n ≡ Some b) (found_key key k old.children b found) (find-stands key b n s (once (key b.row)))

  kept_all : (k : ℕ) (b : Branch R) → find key k n ≡ Some b → find key k new.children ≡ None → noted key come start k
      ≡ Some (branch_count b)
  kept_all k b found gone =
      let z = unfound-absent key k new.children gone in
      let i = comes.into k in
      noted-outside key come start k (omega arith) ∙ counted k b found

  came_all : (k : ℕ) (b : Branch R) → find key k new.children ≡ Some b → noted key come start k ≡ Some (branch_count b)
  came_all k b found = elim (comes.from_both k b found) [
    | inl q ↦ noted-inside key come start k (comes.once k) b q
    | inr q ↦ noted-outside key come start k q.1 ∙ counted k b (found_inside k b q.0)
  ]

  shifts : (x y : ℕ) → y + branch_count old ≡ x + branch_count new → shifted (node_count come) fewer x ≡ y
  shifts x y h = omega arith

  -- the numbers are those of the tree after
  pub recounted : IsCounted key fin m
  recounted = counted-after key e same once one (noted key come start) fin (shifted (node_count come) fewer) shifts kept_all came_all became

-- what is said of others stays said where they alone keep their numbers
pub counted-outside : {R : Type 0} (key : R → ℕ) (m : Nodes R) (counts fin : ℕ → Option ℕ) → IsCounted key counts m
    → ((k : ℕ) → 0 < tally key k m → fin k ≡ counts k) → IsCounted key fin m
counted-outside key m counts fin counted kept k b found = kept k (found-there key k m b found) ∙ counted k b found
