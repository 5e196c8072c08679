-- A tree put among others, and taken out.
use Rattle.std.proofs.Common.{◌≡◌, ℕ, suc, ◌+◌, ◌==◌, ◌||◌, max, Bool, true, false, ◌&&◌, cond, refl, sym, ap, ◌∙◌, arith}
use Rattle.std.proofs.lemmas.Bool.{eqb-true}
use Rattle.node_tree.specs.Nodes.{Nodes, none, node, Branch, height}
use Rattle.node_tree.specs.Keys.{tally, tally_in, At, here, within, past}
use Rattle.node_tree.specs.Seen.{Seen}
use Rattle.client_views.specs.Moves.{put_behind, put_after, without_tree, has_tree}
use Rattle.client_views.proofs.BoolLemmas.{and_left, and_right, both}

-- the second trees are the first with w among them
pub data Inserted (w : Branch Seen) : Nodes Seen → Nodes Seen → Type 0 where
  first : (n : Nodes Seen) → Inserted w n (node w.row w.children n)
  later : (r : Seen) (c t m : Nodes Seen) → Inserted w t m → Inserted w (node r c t) (node r c m)

module _ {w : Branch Seen} where
  pub tally-inserted : (key : Seen → ℕ) (x : ℕ) {n m : Nodes Seen} → Inserted w n m → tally key x m ≡ tally_in key x w + tally key x n
  tally-inserted key x (first n) = omega arith
  tally-inserted key x (later r c t m e) = let h = tally-inserted key x e in omega arith

  pub height-inserted : {n m : Nodes Seen} → Inserted w n m → height m ≡ max (suc (height w.children)) (height n)
  height-inserted (first n) = omega arith
  height-inserted (later r c t m e) = let h = height-inserted e in omega arith

-- ---- put behind another, or first

module _ (id : ℕ) (w : Branch Seen) where
  behind_at : (b : Bool) (r : Seen) (c t rest : Nodes Seen) → (b || has_tree id t) ≡ true → (has_tree id t ≡ true → Inserted w t rest)
      → Inserted w (node r c t) (cond b (node r c (node w.row w.children t)) (node r c rest))
  behind_at true r c t rest e after = later r c t (node w.row w.children t) (first t)
  behind_at false r c t rest e after = later r c t rest (after e)

  inserted_behind : (n : Nodes Seen) → has_tree id n ≡ true → Inserted w n (put_behind id w n)
  inserted_behind none e = absurd cc
  inserted_behind (node r c t) e = behind_at (r.id == id) r c t (put_behind id w t) e (inserted_behind t)

  after_at : (b : Bool) (n rest : Nodes Seen) → (b || has_tree id n) ≡ true → (has_tree id n ≡ true → Inserted w n rest)
      → Inserted w n (cond b (node w.row w.children n) rest)
  after_at true n rest e behind = first n
  after_at false n rest e behind = behind e

  pub inserted_after : (n : Nodes Seen) → (id == 0 || has_tree id n) ≡ true → Inserted w n (put_after id w n)
  inserted_after n e = after_at (id == 0) n (put_behind id w n) e (inserted_behind n)

-- ---- taken out

-- the tree that is taken out, and where it stood
pub record TakenOut (id : ℕ) (n : Nodes Seen) : Type 0 where
  pub tree : Branch Seen
  pub named : tree.row.id ≡ id
  pub stood : Inserted tree (without_tree id n) n

module _ (id : ℕ) where
  taken_at : (b : Bool) (r : Seen) (c t : Nodes Seen) → (r.id == id) ≡ b → (b || has_tree id t) ≡ true
      → (has_tree id t ≡ true → TakenOut id t)
      → (w : Branch Seen) × (w.row.id ≡ id) × Inserted w (cond b t (node r c (without_tree id t))) (node r c t)
  taken_at true r c t is e after = (record { row = r; children = c }, eqb-true r.id id is, first t)
  taken_at false r c t is e after = let o = after e in (o.tree, o.named, later r c (without_tree id t) t o.stood)

  pub taken_out : (n : Nodes Seen) → has_tree id n ≡ true → TakenOut id n
  taken_out none e = absurd cc
  taken_out (node r c t) e = let o = taken_at (r.id == id) r c t refl e (taken_out t) in record { tree = o.0; named = o.1; stood = o.2 }

-- ---- a test of trees that tests each node, by its row and its children

module _ (f : Nodes Seen → Bool) (g : Seen → Nodes Seen → Bool)
    (law : (r : Seen) (c t : Nodes Seen) → f (node r c t) ≡ ((g r c && f c) && f t)) where
  -- the node passes, and all below it
  abbrev pub passes : Branch Seen → Bool
  passes b = g b.row b.children && f b.children

  pub passes-first : (r : Seen) (c t : Nodes Seen) → f (node r c t) ≡ true → (g r c && f c) ≡ true
  passes-first r c t e = and_left _ (f t) (sym (law r c t) ∙ e)

  pub passes-rest : (r : Seen) (c t : Nodes Seen) → f (node r c t) ≡ true → f t ≡ true
  passes-rest r c t e = and_right (g r c && f c) (f t) (sym (law r c t) ∙ e)

  pub passes-at : {old new : Branch Seen} {depth : ℕ} {n m : Nodes Seen} → At old new depth n m → f n ≡ true → passes old ≡ true
  passes-at {old = o} (here t) e = passes-first o.row o.children t e
  passes-at (within depth r c m t a) e = passes-at a (and_right (g r c) (f c) (passes-first r c t e))
  passes-at (past depth r c t m a) e = passes-at a (passes-rest r c t e)

  -- one node changes, and the others stay as they pass
  pub all-at : ((r : Seen) (old new : Branch Seen) (depth : ℕ) (c m : Nodes Seen) → At old new depth c m → g r c ≡ g r m)
      → (old new : Branch Seen) (depth : ℕ) (n m : Nodes Seen) → At old new depth n m → f n ≡ true → passes new ≡ true → f m ≡ true
  all-at same o w _ _ _ (here t) e p = law w.row w.children t ∙ both p (passes-rest o.row o.children t e)
  all-at same o w _ _ _ (within depth r c m t a) e p =
      let head = passes-first r c t e in
      law r m t ∙ both (both (sym (same r o w depth c m a) ∙ and_left _ (f c) head)
      (all-at same o w depth c m a (and_right (g r c) (f c) head) p)) (passes-rest r c t e)
  all-at same o w _ _ _ (past depth r c t m a) e p = law r c m ∙ both (passes-first r c t e)
      (all-at same o w depth t m a (passes-rest r c t e) p)

  and_moved : (a b c : Bool) → (a && (b && c)) ≡ (b && (a && c))
  and_moved true b c = refl
  and_moved false true c = refl
  and_moved false false c = refl

  pub all-inserted : {w : Branch Seen} {n m : Nodes Seen} → Inserted w n m → f m ≡ (passes w && f n)
  all-inserted {w = w} (first n) = law w.row w.children n
  all-inserted {w = w} (later r c t m e) =
      law r c m ∙ ap (λ (b : Bool). (g r c && f c) && b) (all-inserted e) ∙ and_moved (g r c && f c) (passes w) (f t)
      ∙ ap (λ (b : Bool). passes w && b) (sym (law r c t))
