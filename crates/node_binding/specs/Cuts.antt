-- What a client knows of a page, by its opened set: a test on serials.
use Rattle.std.specs.Prelude.{ℕ, Bool, false, cond, List, [], ◌∷◌, ◌++◌}
use Rattle.node_tree.specs.Nodes.{Nodes, none, node, width}
use Rattle.node_tree.specs.Labels.{holds}
use Rattle.node_tree.specs.Seen.{Hold, leaf, counted, opened, Seen}
use Rattle.page_tree.specs.Pages.{PageRow}

-- an opened container
abbrev pub opens : (ℕ → Bool) → PageRow → Bool
opens o r = cond (holds r.label.kind) (o r.serial) false

-- The known nodes, in document order: the trees' roots, and the children of opened nodes.
abbrev pub known : (ℕ → Bool) → Nodes PageRow → List ℕ
known o none = []
known o (node r c t) = r.serial ∷ (cond (opens o r) (known o c) [] ++ known o t)

-- the nodes that become known as o grows to p, in document order
abbrev pub shown_anew : (o p : ℕ → Bool) → Nodes PageRow → List ℕ
shown_anew o p none = []
shown_anew o p (node r c t) = cond (opens o r) (shown_anew o p c) (cond (opens p r) (known p c) []) ++ shown_anew o p t

-- what a client sees below a node of the page with the children c
abbrev pub hold_cut : (ℕ → Bool) → PageRow → Nodes PageRow → Hold
hold_cut o r c = cond (holds r.label.kind) (cond (o r.serial) opened (counted (width c))) leaf

-- a node's row, with its id by i
abbrev pub seen_of : (ℕ → Bool) → (ℕ → ℕ) → PageRow → Nodes PageRow → Seen
seen_of o i r c = record { id = i r.serial; serial = r.serial; label = r.label; hold = hold_cut o r c }

-- The cut: the known nodes, where an opened one has its children in order, and another container their number.
abbrev pub cut : (ℕ → Bool) → (ℕ → ℕ) → Nodes PageRow → Nodes Seen
cut o i none = none
cut o i (node r c t) = node (seen_of o i r c) (cond (opens o r) (cut o i c) none) (cut o i t)
