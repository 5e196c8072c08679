-- Lists of nodes in document order, and what one changed node changes in them.
use Rattle.std.proofs.Common.{◌≡◌, ℕ, suc, ◌+◌, ◌<◌, ◌≤◌, List, [], ◌∷◌, ◌++◌}
use Rattle.std.proofs.Common.{length, take, drop, refl, sym, ap, ◌∙◌, arith, append_assoc, length-append}
use Rattle.std.proofs.lemmas.Bool.{eq-eqb, ne_eqb}
use Rattle.node_tree.specs.Nodes.{Nodes, none, node, Branch, node_count, branch_count}
use Rattle.node_tree.specs.Keys.{tally, At, here, within, past}
use Rattle.node_tree.proofs.KeyLemmas.{tally_below, other_row, has-there, has-absent, At-tally}
use Rattle.node_tree.proofs.ChangeLemmas.{at-back}
use Rattle.front_mirror.specs.Walks.{spliced, walk, walk_in, rank_of}

-- ---- lengths

module _ {R X : Type 0} (f : ℕ → R → X) where
  pub walk-count : (level : ℕ) (n : Nodes R) → length (walk f level n) ≡ node_count n
  walk-count level none = refl
  walk-count level (node r c t) =
      let a = walk-count (suc level) c in
      let b = walk-count level t in
      let l = length-append (walk f (suc level) c) (walk f level t) in
      omega arith

  pub walk_in-count : (level : ℕ) (b : Branch R) → length (walk_in f level b) ≡ branch_count b
  walk_in-count level b = let a = walk-count (suc level) b.children in omega arith

-- ---- lists in parts

module _ {X : Type 0} where
  pub take-front : (a b : List X) → take (length a) (a ++ b) ≡ a
  take-front [] b = refl
  take-front (x ∷ a) b = ap (λ l. x ∷ l) (take-front a b)

  pub drop-front : (a b : List X) → drop (length a) (a ++ b) ≡ b
  drop-front [] b = refl
  drop-front (x ∷ a) b = drop-front a b

  pub drop-both : (a b c : List X) → drop (length a + length b) (a ++ (b ++ c)) ≡ c
  drop-both [] b c = let e : 0 + length b ≡ length b = omega arith in rw e (drop-front b c)
  drop-both (x ∷ a) b c = let e : suc (length a) + length b ≡ suc (length a + length b) = omega arith in rw e (drop-both a b c)

  -- a list in three parts with another one in its midst
  pub splice_parts : (i k : ℕ) (front old new rest was is : List X) → i ≡ length front → k ≡ length old
      → was ≡ front ++ (old ++ rest) → is ≡ front ++ (new ++ rest) → is ≡ spliced i k new was
  splice_parts i k front old new rest was is ei ek ew es =
      rw (es, ew, ei, ek, take-front front (old ++ rest), drop-both front old rest) refl

  pub split_length : (a b : List X) → length a ≤ length (a ++ b)
  split_length a b = let l = length-append a b in omega arith

-- ---- the rank of a node

module _ {R : Type 0} (key : R → ℕ) where
  pub rank-here : (x : ℕ) (r : R) (c t : Nodes R) → key r ≡ x → rank_of key x (node r c t) ≡ 0
  rank-here x r c t e = rw (eq-eqb (key r) x e)

  pub rank-below : (x : ℕ) (r : R) (c t : Nodes R) → 0 < tally key x c → tally key x (node r c t) ≤ 1
      → rank_of key x (node r c t) ≡ suc (rank_of key x c)
  rank-below x r c t there once = rw (ne_eqb (key r) x (other_row key x r c t (omega arith) once), has-there key x c there) refl

  pub rank-after : (x : ℕ) (r : R) (c t : Nodes R) → 0 < tally key x t → tally key x (node r c t) ≤ 1
      → rank_of key x (node r c t) ≡ suc (node_count c + rank_of key x t)
  rank-after x r c t there once =
      let k = tally_below key x r c t in
      rw (ne_eqb (key r) x (other_row key x r c t (omega arith) once), has-absent key x c (omega arith)) refl

-- ---- one node changed

-- The lists of the trees before and after, in parts: what stands before the node, it and what is below it, and the rest.
pub record SplitsAt {R X : Type 0} (f : ℕ → R → X) (level : ℕ) (old new : Branch R) (depth : ℕ) (n m : Nodes R) : Type 0 where
  pub front : List X
  pub rest : List X
  pub was : walk f level n ≡ front ++ (walk_in f (level + depth) old ++ rest)
  pub is : walk f level m ≡ front ++ (walk_in f (level + depth) new ++ rest)
  pub ranked : (key : R → ℕ) → tally key (key old.row) n ≤ 1 → rank_of key (key old.row) n ≡ length front
  pub ranks : (key : R → ℕ) → tally key (key new.row) m ≤ 1 → rank_of key (key new.row) m ≡ length front

module _ {R X : Type 0} (f : ℕ → R → X) where
  pub node_parts : (level : ℕ) (b : Branch R) (t : Nodes R)
      → walk f level (node b.row b.children t) ≡ walk_in f (level + 0) b ++ walk f level t
  node_parts level b t = let e : level + 0 ≡ level = omega arith in rw e refl

  pub below_parts : (level depth : ℕ) (b : Branch R) (r : R) (c t : Nodes R) (front rest : List X)
      → walk f (suc level) c ≡ front ++ (walk_in f (suc level + depth) b ++ rest)
      → walk f level (node r c t) ≡ (f level r ∷ front) ++ (walk_in f (level + suc depth) b ++ (rest ++ walk f level t))
  below_parts level depth b r c t front rest e =
      let l : level + suc depth ≡ suc level + depth = omega arith in
      rw (e, l) (ap (λ x. f level r ∷ x)
      (append_assoc front (walk_in f (suc level + depth) b ++ rest) (walk f level t)
      ∙ ap (λ x. front ++ x) (append_assoc (walk_in f (suc level + depth) b) rest (walk f level t))))

  pub after_parts : (level depth : ℕ) (b : Branch R) (r : R) (c t : Nodes R) (front rest : List X)
      → walk f level t ≡ front ++ (walk_in f (level + depth) b ++ rest)
      → walk f level (node r c t) ≡ (f level r ∷ (walk f (suc level) c ++ front)) ++ (walk_in f (level + depth) b ++ rest)
  after_parts level depth b r c t front rest e =
      rw e (ap (λ x. f level r ∷ x) (sym (append_assoc (walk f (suc level) c) front (walk_in f (level + depth) b ++ rest))))

module _ {R X : Type 0} (f : ℕ → R → X) {old new : Branch R} where
  pub splits : (level : ℕ) {depth : ℕ} {n m : Nodes R} → At old new depth n m → SplitsAt f level old new depth n m
  splits level (here t) = record {
    front = [];
    rest = walk f level t;
    was = node_parts f level old t;
    is = node_parts f level new t;
    ranked = λ key once. rank-here key (key old.row) old.row old.children t refl;
    ranks = λ key once. rank-here key (key new.row) new.row new.children t refl;
  }
  splits level (within depth r c m t e) =
      let s = splits (suc level) e in
      record {
        front = f level r ∷ s.front;
        rest = s.rest ++ walk f level t;
        was = below_parts f level depth old r c t s.front s.rest s.was;
        is = below_parts f level depth new r m t s.front s.rest s.is;
        ranked = λ key once.
            let k = tally_below key (key old.row) r c t in
            rank-below key (key old.row) r c t (At-tally key e) once ∙ ap suc (s.ranked key (omega arith));
        ranks = λ key once.
            let k = tally_below key (key new.row) r m t in
            rank-below key (key new.row) r m t (At-tally key (at-back e)) once ∙ ap suc (s.ranks key (omega arith));
      }
  splits level (past depth r c t m e) =
      let s = splits level e in
      record {
        front = f level r ∷ (walk f (suc level) c ++ s.front);
        rest = s.rest;
        was = after_parts f level depth old r c t s.front s.rest s.was;
        is = after_parts f level depth new r c m s.front s.rest s.is;
        ranked = λ key once.
            let k = tally_below key (key old.row) r c t in
            let l = length-append (walk f (suc level) c) s.front in
            let w = walk-count f (suc level) c in
            let h = s.ranked key (omega arith) in
            rank-after key (key old.row) r c t (At-tally key e) once ∙ (omega arith);
        ranks = λ key once.
            let k = tally_below key (key new.row) r c m in
            let l = length-append (walk f (suc level) c) s.front in
            let w = walk-count f (suc level) c in
            let h = s.ranks key (omega arith) in
            rank-after key (key new.row) r c m (At-tally key (at-back e)) once ∙ (omega arith);
      }
