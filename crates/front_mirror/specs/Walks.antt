-- Nodes in document order, and one list put in place of a part of another.
use Rattle.std.specs.Prelude.{ℕ, zero, suc, ◌+◌, ◌==◌, cond, List, [], ◌∷◌, ◌++◌, take, drop}
use Rattle.node_tree.specs.Nodes.{Nodes, none, node, Branch, node_count}
use Rattle.node_tree.specs.Keys.{has}

-- so many items from place i on give way to these
abbrev pub spliced : {X : Type 0} → ℕ → ℕ → List X → List X → List X
spliced i k new xs = take i xs ++ (new ++ drop (i + k) xs)

-- what is said of each node with its level, in document order, where these trees stand on the given one
abbrev pub walk : {R X : Type 0} → (ℕ → R → X) → ℕ → Nodes R → List X
walk f level none = []
walk f level (node r c t) = f level r ∷ (walk f (suc level) c ++ walk f level t)

-- the same of one tree
abbrev pub walk_in : {R X : Type 0} → (ℕ → R → X) → ℕ → Branch R → List X
walk_in f level b = f level b.row ∷ walk f (suc level) b.children

-- how many nodes stand before the first with that key in document order
abbrev pub rank_of : {R : Type 0} → (R → ℕ) → ℕ → Nodes R → ℕ
rank_of key x none = 0
rank_of key x (node r c t) =
    cond {A = ℕ} (key r == x) 0 (suc (cond {A = ℕ} (has key x c) (rank_of key x c) (node_count c + rank_of key x t)))

-- how many nodes the first i trees have
abbrev pub count_first : {R : Type 0} → ℕ → Nodes R → ℕ
count_first i none = 0
count_first zero (node r c t) = 0
count_first (suc i) (node r c t) = suc (node_count c + count_first i t)
