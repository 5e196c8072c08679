-- Ordered trees, by first child and next sibling, with a row of any type at each node.
use Rattle.std.specs.Prelude.{◌≡◌, ℕ, zero, suc, ◌+◌, ◌≤◌, max, List, [], ◌∷◌, Bool, true, false, Option, Some, None, refl}
use Rattle.std.proofs.Common.{arith}
use denote.Param.Weighed.{most}
use Rattle.std.specs.Coded.{Coded, code_by, coded×, coded_list, coded_option}

-- trees that stand beside one another: `node r c t` is a tree with the row r and the children c, before the trees t
pub data Nodes (R : Type 0) : Type 0 where
  none : Nodes R
  node : R → Nodes R → Nodes R → Nodes R

-- one tree: a row, and the trees below it
pub record Branch (R : Type 0) : Type 0 where
  pub row : R
  pub children : Nodes R

-- the trees of a list, in its order
abbrev pub nodes_of : {R : Type 0} → List (Branch R) → Nodes R
nodes_of [] = none
nodes_of (b ∷ bs) = node b.row b.children (nodes_of bs)

-- one tree alone, as a list of trees
abbrev pub alone : {R : Type 0} → Branch R → Nodes R
alone b = node b.row b.children none

-- there is no node
abbrev pub is_no_node : {R : Type 0} → Nodes R → Bool
is_no_node none = true
is_no_node (node r c t) = false

-- the trees of the first, and then those of the second
abbrev pub beside : {R : Type 0} → Nodes R → Nodes R → Nodes R
beside none m = m
beside (node r c t) m = node r c (beside t m)

-- the trees from place i on, counted from 0
abbrev pub from : {R : Type 0} → ℕ → Nodes R → Nodes R
from i none = none
from zero (node r c t) = node r c t
from (suc i) (node r c t) = from i t

-- the tree at place i, counted from 0
abbrev pub tree_at : {R : Type 0} → ℕ → Nodes R → Option (Branch R)
tree_at i none = None
tree_at zero (node r c t) = Some (record { row = r; children = c })
tree_at (suc i) (node r c t) = tree_at i t

-- how many trees stand side by side
abbrev pub width : {R : Type 0} → Nodes R → ℕ
width none = 0
width (node r c t) = suc (width t)

-- how many nodes there are, on all levels
abbrev pub node_count : {R : Type 0} → Nodes R → ℕ
node_count none = 0
node_count (node r c t) = suc (node_count c + node_count t)

-- how many nodes one tree has
abbrev pub branch_count : {R : Type 0} → Branch R → ℕ
branch_count b = suc (node_count b.children)

-- how many levels there are
abbrev pub height : {R : Type 0} → Nodes R → ℕ
height none = 0
height (node r c t) = max (suc (height c)) (height t)

-- trees with each row put through f
abbrev pub map_rows : {R S : Type 0} → (R → S) → Nodes R → Nodes S
map_rows f none = none
map_rows f (node r c t) = node (f r) (map_rows f c) (map_rows f t)

-- one tree with each row put through f
abbrev pub map_branch : {R S : Type 0} → (R → S) → Branch R → Branch S
map_branch f b = record { row = f b.row; children = map_rows f b.children }

-- no tree of a list has more nodes than the list: what a struct owes whose children are a `Vec` of its own kind
pub most_le-node_count : {R : Type 0} → (bs : List (Branch R)) → most (λ b. branch_count b + 1) bs ≤ node_count (nodes_of bs) + 1
most_le-node_count [] = omega arith
most_le-node_count (b ∷ bs) = omega (arith, most_le-node_count bs)

-- ---- codes: a tree in Polish notation, which is read back from its end, over a stack

module _ {R : Type 0} where
  -- the trees in Polish notation, before the rest
  abbrev pub written : Nodes R → List (Option R) → List (Option R)
  written none rest = None ∷ rest
  written (node r c t) rest = Some r ∷ written c (written t rest)

  -- a row joins the two trees on the top of the stack
  abbrev pub joined : R → List (Nodes R) → List (Nodes R)
  joined r [] = []
  joined r (c ∷ []) = []
  joined r (c ∷ t ∷ rest) = node r c t ∷ rest

  -- the stack that a notation is read to
  abbrev pub stacked : List (Option R) → List (Nodes R)
  stacked [] = []
  stacked (None ∷ rest) = none ∷ stacked rest
  stacked (Some r ∷ rest) = joined r (stacked rest)

  -- the trees on the top of the stack
  abbrev pub topmost : List (Nodes R) → Nodes R
  topmost [] = none
  topmost (n ∷ rest) = n

  -- what was written is on top of what stands behind it
  pub stacked-written : (n : Nodes R) (rest : List (Option R)) → stacked (written n rest) ≡ n ∷ stacked rest
  stacked-written none rest = refl
  stacked-written (node r c t) rest = rw (stacked-written c (written t rest), stacked-written t rest)

  -- trees are read back from their notation
  pub read_back : (n : Nodes R) → topmost (stacked (written n [])) ≡ n
  read_back n = rw (stacked-written n [])

  -- trees by their notation
  abbrev pub coded_nodes : Coded R → Coded (Nodes R)
  coded_nodes code = code_by (List (Option R)) (coded_list (coded_option code)) (λ n. written n []) (λ s. topmost (stacked s)) read_back

  -- one tree coded by its row and its children
  abbrev pub coded_branch : Coded R → Coded (Branch R)
  coded_branch code = code_by (R × Nodes R) (coded× code (coded_nodes code)) (λ b. (b.row, b.children))
      (λ p. record { row = p.0; children = p.1 }) (λ _. refl)
