-- Trees side by side.
use Rattle.std.proofs.Common.{◌≡◌, ℕ, zero, suc, ◌+◌, ◌<◌, ◌≤◌, max, List, [], ◌∷◌, ◌++◌, length, Some, refl, sym, ap, get_or, arith}
use Rattle.node_tree.specs.Nodes.{Nodes, none, node, Branch, nodes_of, beside, from, tree_at, width, node_count, height, map_rows}

module _ {R : Type 0} where
  pub beside-none : (n : Nodes R) → beside n none ≡ n
  beside-none none = refl
  beside-none (node r c t) = ap (node r c) (beside-none t)

  pub beside_assoc : (a b c : Nodes R) → beside (beside a b) c ≡ beside a (beside b c)
  beside_assoc none b c = refl
  beside_assoc (node r d t) b c = ap (node r d) (beside_assoc t b c)

  pub nodes_of-append : (xs ys : List (Branch R)) → nodes_of (xs ++ ys) ≡ beside (nodes_of xs) (nodes_of ys)
  nodes_of-append [] ys = refl
  nodes_of-append (b ∷ xs) ys = ap (node b.row b.children) (nodes_of-append xs ys)

  pub node_count-beside : (a b : Nodes R) → node_count (beside a b) ≡ node_count a + node_count b
  node_count-beside none b = omega arith
  node_count-beside (node r c t) b = omega (arith, node_count-beside t b)

  pub width-beside : (a b : Nodes R) → width (beside a b) ≡ width a + width b
  width-beside none b = omega arith
  width-beside (node r c t) b = omega (arith, width-beside t b)

  pub width-nodes_of : (bs : List (Branch R)) → width (nodes_of bs) ≡ length bs
  width-nodes_of [] = refl
  width-nodes_of (b ∷ bs) = ap suc (width-nodes_of bs)

  pub tree_at-nodes_of : (bs : List (Branch R)) (i : ℕ) (d : Branch R) → i < length bs → tree_at i (nodes_of bs) ≡ Some (get_or bs i d)
  tree_at-nodes_of [] i d h = absurd (omega arith)
  tree_at-nodes_of (b ∷ bs) zero d h = refl
  tree_at-nodes_of (b ∷ bs) (suc i) d h = tree_at-nodes_of bs i d (omega arith)

  pub width_le-node_count : (n : Nodes R) → width n ≤ node_count n
  width_le-node_count none = omega arith
  width_le-node_count (node r c t) = omega (arith, width_le-node_count t)

  pub height-beside : (a b : Nodes R) → height (beside a b) ≡ max (height a) (height b)
  height-beside none b = omega arith
  height-beside (node r c t) b = omega (arith, height-beside t b)

  pub from-zero : (n : Nodes R) → from 0 n ≡ n
  from-zero none = refl
  from-zero (node r c t) = refl

  -- the tree at a place, and those after it
  pub from-tree_at : (i : ℕ) (n : Nodes R) → i < width n
      → (b : Branch R) × (tree_at i n ≡ Some b) × (from i n ≡ node b.row b.children (from (suc i) n))
  from-tree_at i none h = absurd (omega arith)
  from-tree_at zero (node r c t) h = (record { row = r; children = c }, refl, ap (node r c) (sym (from-zero t)))
  from-tree_at (suc i) (node r c t) h = from-tree_at i t (omega arith)

  pub from-width : (n : Nodes R) → from (width n) n ≡ none
  from-width none = refl
  from-width (node r c t) = from-width t

module _ {R S : Type 0} (f : R → S) where
  pub node_count-map_rows : (n : Nodes R) → node_count (map_rows f n) ≡ node_count n
  node_count-map_rows none = refl
  node_count-map_rows (node r c t) = omega (arith, node_count-map_rows c, node_count-map_rows t)

  pub height-map_rows : (n : Nodes R) → height (map_rows f n) ≡ height n
  height-map_rows none = refl
  height-map_rows (node r c t) = omega (arith, height-map_rows c, height-map_rows t)

  pub map_rows-beside : (a b : Nodes R) → map_rows f (beside a b) ≡ beside (map_rows f a) (map_rows f b)
  map_rows-beside none b = refl
  map_rows-beside (node r c t) b = ap (node (f r) (map_rows f c)) (map_rows-beside t b)
