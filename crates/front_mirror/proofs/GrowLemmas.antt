-- A tree put in anywhere, and where it stands in document order.
use Rattle.std.proofs.Common.{◌≡◌, ℕ, zero, suc, ◌+◌, ◌<◌, ◌≤◌, Some, List, [], ◌∷◌, ◌++◌}
use Rattle.std.proofs.Common.{length, refl, sym, ap, ◌∙◌, subst, arith, append_assoc, length-append}
use Rattle.node_tree.specs.Nodes.{Nodes, none, node, Branch, node_count, tree_at}
use Rattle.node_tree.specs.Keys.{tally, At, here, within, past}
use Rattle.node_tree.proofs.KeyLemmas.{tally_row, tally_below, At-tally}
use Rattle.front_mirror.specs.Panels.{without_place}
use Rattle.front_mirror.specs.Walks.{walk, walk_in, rank_of, count_first}
use Rattle.front_mirror.proofs.OrderLemmas.{walk-count, rank-here, rank-below, rank-after, node_parts, below_parts, after_parts}

-- the second trees are the first with w put in, so many levels down
pub data Grown {R : Type 0} (w : Branch R) : ℕ → Nodes R → Nodes R → Type 0 where
  first : (t : Nodes R) → Grown w 0 t (node w.row w.children t)
  deeper : (depth : ℕ) (r : R) (c m t : Nodes R) → Grown w depth c m → Grown w (suc depth) (node r c t) (node r m t)
  further : (depth : ℕ) (r : R) (c t m : Nodes R) → Grown w depth t m → Grown w depth (node r c t) (node r c m)

module _ {R : Type 0} where
  pub grown_place : (i : ℕ) (w : Branch R) (m : Nodes R) → tree_at i m ≡ Some w → Grown w 0 (without_place i m) m
  grown_place i w none e = absurd cc
  grown_place zero w (node r c t) e =
      let same : ◌≡◌ {A = Branch R} (record { row = r; children = c }) w = cc in
      let start : Grown (record { row = r; children = c }) 0 t (node r c t) = first t in
      subst (λ (o : Branch R). Grown o 0 t (node r c t)) same start
  grown_place (suc i) w (node r c t) e = further 0 r c (without_place i t) t (grown_place i w t e)

  grown_row : (w : Branch R) (r s : R) (c m t : Nodes R) → s ≡ r → Grown w 0 c m → Grown w 1 (node r c t) (node s m t)
  grown_row w r s c m t e g = subst (λ o. Grown w 1 (node r c t) (node o m t)) (sym e) (deeper 0 r c m t g)

  -- a node that gained a tree
  pub grown-at : (w : Branch R) {old new : Branch R} {depth : ℕ} {n m : Nodes R} → At old new depth n m → new.row ≡ old.row
      → Grown w 0 old.children new.children → Grown w (suc depth) n m
  grown-at w {old = o} {new = p} (here t) e g = grown_row w o.row p.row o.children p.children t e g
  grown-at w (within depth r c m t a) e g = deeper (suc depth) r c m t (grown-at w a e g)
  grown-at w (past depth r c t m a) e g = further (suc depth) r c t m (grown-at w a e g)

  pub Grown-tally : (key : R → ℕ) {w : Branch R} {depth : ℕ} {n m : Nodes R} → Grown w depth n m → 0 < tally key (key w.row) m
  Grown-tally key {w = w} (first t) = tally_row key (key w.row) w.row w.children t refl
  Grown-tally key {w = w} (deeper depth r c m t g) =
      let h = Grown-tally key g in
      let k = tally_below key (key w.row) r m t in
      omega arith
  Grown-tally key {w = w} (further depth r c t m g) =
      let h = Grown-tally key g in
      let k = tally_below key (key w.row) r c m in
      omega arith

-- the lists of the trees before and after, in parts: what stands before the tree that is put in, and the rest
pub record GrowsAt {R X : Type 0} (f : ℕ → R → X) (level : ℕ) (w : Branch R) (depth : ℕ) (n m : Nodes R) : Type 0 where
  pub front : List X
  pub rest : List X
  pub was : walk f level n ≡ front ++ rest
  pub is : walk f level m ≡ front ++ (walk_in f (level + depth) w ++ rest)
  pub ranked : (key : R → ℕ) → tally key (key w.row) m ≤ 1 → rank_of key (key w.row) m ≡ length front

module _ {R X : Type 0} (f : ℕ → R → X) {w : Branch R} where
  pub grows : (level : ℕ) {depth : ℕ} {n m : Nodes R} → Grown w depth n m → GrowsAt f level w depth n m
  grows level (first t) = record {
    front = [];
    rest = walk f level t;
    was = refl;
    is = node_parts f level w t;
    ranked = λ key once. rank-here key (key w.row) w.row w.children t refl;
  }
  grows level (deeper depth r c m t e) =
      let s = grows (suc level) e in
      record {
        front = f level r ∷ s.front;
        rest = s.rest ++ walk f level t;
        was = rw (s.was) (ap (λ x. f level r ∷ x) (append_assoc s.front s.rest (walk f level t)));
        is = below_parts f level depth w r m t s.front s.rest s.is;
        ranked = λ key once.
            let k = tally_below key (key w.row) r m t in
            rank-below key (key w.row) r m t (Grown-tally key e) once ∙ ap suc (s.ranked key (omega arith));
      }
  grows level (further depth r c t m e) =
      let s = grows level e in
      record {
        front = f level r ∷ (walk f (suc level) c ++ s.front);
        rest = s.rest;
        was = rw (s.was) (ap (λ x. f level r ∷ x) (sym (append_assoc (walk f (suc level) c) s.front s.rest)));
        is = after_parts f level depth w r c m s.front s.rest s.is;
        ranked = λ key once.
            let k = tally_below key (key w.row) r c m in
            let l = length-append (walk f (suc level) c) s.front in
            let v = walk-count f (suc level) c in
            let h = s.ranked key (omega arith) in
            rank-after key (key w.row) r c m (Grown-tally key e) once ∙ (omega arith);
      }

-- ---- the rank of a child

module _ {R : Type 0} (key : R → ℕ) where
  pub tally-tree : (i : ℕ) (n : Nodes R) (w : Branch R) → tree_at i n ≡ Some w → 0 < tally key (key w.row) n
  tally-tree i none w e = absurd cc
  tally-tree zero (node r c t) w e =
      let same : ◌≡◌ {A = Branch R} (record { row = r; children = c }) w = cc in
      tally_row key (key w.row) r c t (ap (λ (o : Branch R). key o.row) same)
  tally-tree (suc i) (node r c t) w e =
      let h = tally-tree i t w e in
      let k = tally_below key (key w.row) r c t in
      omega arith

  pub rank-tree : (i : ℕ) (n : Nodes R) (w : Branch R) → tree_at i n ≡ Some w → tally key (key w.row) n ≤ 1
      → rank_of key (key w.row) n ≡ count_first i n
  rank-tree i none w e once = absurd cc
  rank-tree zero (node r c t) w e once =
      let same : ◌≡◌ {A = Branch R} (record { row = r; children = c }) w = cc in
      rank-here key (key w.row) r c t (ap (λ (o : Branch R). key o.row) same)
  rank-tree (suc i) (node r c t) w e once =
      let k = tally_below key (key w.row) r c t in
      rank-after key (key w.row) r c t (tally-tree i t w e) once
      ∙ ap (λ x. suc (node_count c + x)) (rank-tree i t w e (omega arith))

  module _ {old new : Branch R} (i : ℕ) (w : Branch R) (child : tree_at i old.children ≡ Some w) where
    pub tally-child : {depth : ℕ} {n m : Nodes R} → At old new depth n m → 0 < tally key (key w.row) n
    tally-child (here t) =
        let h = tally-tree i old.children w child in
        let k = tally_below key (key w.row) old.row old.children t in
        omega arith
    tally-child (within depth r c m t e) =
        let h = tally-child e in
        let k = tally_below key (key w.row) r c t in
        omega arith
    tally-child (past depth r c t m e) =
        let h = tally-child e in
        let k = tally_below key (key w.row) r c t in
        omega arith

    -- a child stands behind its parent and its earlier siblings with all below them
    pub rank-child : {depth : ℕ} {n m : Nodes R} → At old new depth n m → ((x : ℕ) → tally key x n ≤ 1)
        → rank_of key (key w.row) n ≡ rank_of key (key old.row) n + suc (count_first i old.children)
    rank-child (here t) once =
        let o = once (key w.row) in
        let k = tally_below key (key w.row) old.row old.children t in
        let a = rank-below key (key w.row) old.row old.children t (tally-tree i old.children w child) o in
        let b = rank-tree i old.children w child (omega arith) in
        let d = rank-here key (key old.row) old.row old.children t refl in
        omega arith
    rank-child (within depth r c m t e) once =
        let o = once (key w.row) in
        let p = once (key old.row) in
        let a = rank-below key (key w.row) r c t (tally-child e) o in
        let b = rank-below key (key old.row) r c t (At-tally key e) p in
        let h = rank-child e (λ x. let k = tally_below key x r c t in let q = once x in omega arith) in
        omega arith
    rank-child (past depth r c t m e) once =
        let o = once (key w.row) in
        let p = once (key old.row) in
        let a = rank-after key (key w.row) r c t (tally-child e) o in
        let b = rank-after key (key old.row) r c t (At-tally key e) p in
        let h = rank-child e (λ x. let k = tally_below key x r c t in let q = once x in omega arith) in
        omega arith
