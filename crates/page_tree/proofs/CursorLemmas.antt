-- Walks over the children of a node, by place.
use Rattle.std.proofs.Common.{◌≡◌, ℕ, zero, suc, ◌+◌, ◌<◌, ◌≤◌, ◌∙◌, Option, Some, refl, sym, ap, add-one, arith}
use Rattle.node_tree.specs.Nodes.{Nodes, none, node, Branch, from, tree_at, width, node_count}
use Rattle.node_tree.proofs.NodeLemmas.{from-tree_at}

module _ {R : Type 0} where
  -- what is left at a place is the tree there, and what is left after it
  pub from-next : (n : Nodes R) (i : ℕ) (x : Branch R) → i < width n → tree_at i n ≡ Some x
      → from i n ≡ node x.row x.children (from (i + 1) n)
  from-next n i x h at =
      let found = from-tree_at i n h in
      let same : found.0 ≡ x = some_same (sym found.1 ∙ at) in
      found.2 ∙ ap (λ (y : Branch R). node y.row y.children (from (suc i) n)) same ∙ ap (λ k. node x.row x.children (from k n))
      (sym (add-one i))
    where
      some_same : {a b : Branch R} → ◌≡◌ {A = Option (Branch R)} (Some a) (Some b) → a ≡ b
      some_same e = cc

  -- past the last place nothing is left
  pub from-end : (n : Nodes R) (i : ℕ) → width n ≤ i → from i n ≡ none
  from-end none i h = refl
  from-end (node r c t) zero h = absurd (omega arith)
  from-end (node r c t) (suc i) h = from-end t i (omega arith)

  -- a tree has fewer nodes below it than the trees that it is one of
  pub child-smaller : (n : Nodes R) (i : ℕ) (x : Branch R) → i < width n → tree_at i n ≡ Some x → node_count x.children < node_count n
  child-smaller none i x h at = absurd (omega arith)
  child-smaller (node r c t) zero x h at = let e : ◌≡◌ {A = Branch R} (record { row = r; children = c }) x = cc in omega
      (arith, ap (λ (b : Branch R). node_count b.children) e)
  child-smaller (node r c t) (suc i) x h at = omega (arith, child-smaller t i x (omega arith) at)
