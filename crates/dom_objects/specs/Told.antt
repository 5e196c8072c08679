-- A node as a message tells it: what is shown of it, beside the id of its parent.
use Rattle.std.specs.Prelude.{◌≡◌, ℕ, Bool, cond, Option, Some, None, Vec, refl}
use Rattle.std.specs.declared.alloc.Global.{Global}
use Rattle.std.specs.Coded.{Coded, code_by, coded×, coded_ℕ}
use Rattle.node_tree.specs.Nodes.{Nodes, none, node, Branch, nodes_of, width}
use Rattle.node_tree.specs.Seen.{Hold, leaf, counted, opened, Seen, coded_seen}

-- `parent` is 0 where the node has none in the message; `count` is the number of children, 0 for a leaf.
pub record Told : Type 0 where
  pub parent : ℕ
  pub count : ℕ
  pub seen : Seen

-- a told row by its numbers
abbrev pub coded_told : Coded Told
coded_told = code_by ((ℕ × ℕ) × Seen) (coded× (coded× coded_ℕ coded_ℕ) coded_seen) (λ r. ((r.parent, r.count), r.seen))
    (λ p. record { parent = p.0.0; count = p.0.1; seen = p.1 }) (λ _. refl)

-- what a message says is shown below a node: its children, or else their number where it can have some
abbrev pub hold_of : Bool → Bool → ℕ → Hold
hold_of shown container count = cond shown opened (cond container (counted count) leaf)

-- the children that a message shows
abbrev pub shown_children : Option (Vec (Branch Told) Global) → Nodes Told
shown_children None = none
shown_children (Some trees) = nodes_of trees.items

-- ---- from told to shown, and back

-- what the trees of a message show
abbrev pub seen_nodes : Nodes Told → Nodes Seen
seen_nodes none = none
seen_nodes (node r c t) = node r.seen (seen_nodes c) (seen_nodes t)

-- what one tree of a message shows
abbrev pub seen_branch : Branch Told → Branch Seen
seen_branch b = record { row = b.row.seen; children = seen_nodes b.children }

-- the number of children that a row with these children has
abbrev pub count_in : Hold → Nodes Seen → ℕ
count_in leaf c = 0
count_in (counted n) c = n
count_in opened c = width c

-- shown trees, told under the parent of this id
abbrev pub told_nodes : ℕ → Nodes Seen → Nodes Told
told_nodes parent none = none
told_nodes parent (node r c t) = node (record { parent = parent; count = count_in r.hold c; seen = r }) (told_nodes r.id c)
    (told_nodes parent t)

-- one shown tree, told under the parent of this id
abbrev pub told_branch : ℕ → Branch Seen → Branch Told
told_branch parent b = record {
  row = record { parent = parent; count = count_in b.row.hold b.children; seen = b.row };
  children = told_nodes b.row.id b.children;
}

-- ---- laws

-- what is told is what was shown
pub seen-told : (parent : ℕ) (n : Nodes Seen) → seen_nodes (told_nodes parent n) ≡ n
seen-told parent none = refl
seen-told parent (node r c t) = rw (seen-told r.id c, seen-told parent t)
