-- Nodes by a number of their rows, their key, as a serial or an id; and one node changed.
use Rattle.std.specs.Prelude.{ℕ, suc, ◌+◌, ◌==◌, List, [], ◌∷◌, Bool, false, ◌||◌, cond, Option, Some, None}
use Rattle.node_tree.specs.Nodes.{Nodes, none, node, Branch, alone}

-- the first that is there
abbrev pub first_of : {A : Type 0} → Option A → Option A → Option A
first_of None o = o
first_of (Some x) o = Some x

-- the first whose test holds
abbrev pub first_true : {A : Type 0} → List (A × Bool) → Option A
first_true [] = None
first_true (x ∷ xs) = cond x.1 (Some x.0) (first_true xs)

-- a node with what is below it, and its level
pub record Spot (R : Type 0) : Type 0 where
  pub branch : Branch R
  pub level : ℕ

module _ {R : Type 0} (key : R → ℕ) (x : ℕ) where
  -- how many nodes have the key x
  abbrev pub tally : Nodes R → ℕ
  tally none = 0
  tally (node r c t) = cond {A = ℕ} (key r == x) 1 0 + tally c + tally t

  -- how many nodes of one tree have the key x
  abbrev pub tally_in : Branch R → ℕ
  tally_in b = cond {A = ℕ} (key b.row == x) 1 0 + tally b.children

  -- some node has the key x
  abbrev pub has : Nodes R → Bool
  has none = false
  has (node r c t) = (key r == x) || has c || has t

  -- the first node in document order with the key x
  abbrev pub find : Nodes R → Option (Branch R)
  find none = None
  find (node r c t) = cond (key r == x) (Some (record { row = r; children = c })) (first_of (find c) (find t))

  -- the first node of one tree in document order with the key x
  abbrev pub find_in : Branch R → Option (Branch R)
  find_in b = find (alone b)

  -- the level of the node with the key x, where these trees stand on the given one
  abbrev pub level_of : ℕ → Nodes R → Option ℕ
  level_of level none = None
  level_of level (node r c t) = cond (key r == x) (Some level) (first_of (level_of (suc level) c) (level_of level t))

  -- the key of the parent of the node with the key x, where these trees are the children of `above`
  abbrev pub parent_of : ℕ → Nodes R → Option ℕ
  parent_of above none = None
  parent_of above (node r c t) = cond (key r == x) (Some above) (first_of (parent_of (key r) c) (parent_of above t))

  -- the level of the node with the key x in one tree, whose root has level 0 and no parent
  abbrev pub level_in : Branch R → Option ℕ
  level_in b = level_of 0 (alone b)

  -- the key of its parent in one tree; 0 for the root
  abbrev pub parent_in : Branch R → Option ℕ
  parent_in b = parent_of 0 (alone b)

  -- the node with the key x and its level
  abbrev pub spot : ℕ → Nodes R → Option (Spot R)
  spot level none = None
  spot level (node r c t) = cond (key r == x) (Some (record { branch = record { row = r; children = c }; level = level }))
      (first_of (spot (suc level) c) (spot level t))

  -- w in its place
  abbrev pub put : Branch R → Nodes R → Nodes R
  put w none = none
  put w (node r c t) = cond (key r == x) (node w.row w.children t) (cond (has c) (node r (put w c) t) (node r c (put w t)))

-- One node of the first trees, `depth` levels down, is `old`; the second trees have `new` in its place.
pub data At {R : Type 0} (old new : Branch R) : ℕ → Nodes R → Nodes R → Type 0 where
  here : (t : Nodes R) → At old new 0 (node old.row old.children t) (node new.row new.children t)
  within : (depth : ℕ) (r : R) (c m t : Nodes R) → At old new depth c m → At old new (suc depth) (node r c t) (node r m t)
  past : (depth : ℕ) (r : R) (c t m : Nodes R) → At old new depth t m → At old new depth (node r c t) (node r c m)
