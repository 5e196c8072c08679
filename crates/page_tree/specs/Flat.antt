-- Nodes as a flat list of rows: each with the number of its parent's row, 0 for the document.
use Rattle.std.specs.Prelude.{◌≡◌, ℕ, ◌+◌, ◌==◌, ◌↔◌, ◌&&◌, ◌||◌, Bool, true, false, cond, List, [], ◌∷◌, ◌++◌, Option, Some, None}
use Rattle.std.specs.Prelude.{option_map}
use Rattle.std.specs.Prelude.{option_and_then, refl}
use Rattle.std.specs.Coded.{Coded, code_by, coded×, coded_list, coded_ℕ}
use Rattle.node_tree.specs.Nodes.{Nodes, none, node, Branch, coded_branch, is_no_node, node_count}
use Rattle.node_tree.specs.Labels.{Label, coded_label, holds}
use Rattle.page_tree.specs.Forms.{may_stand}

-- a row: the number of its parent's row, and what the node is
pub record FlatRow : Type 0 where
  pub up : ℕ
  pub label : Label

-- the rows of some nodes, in document order: `up` is their parent's number, and `next` that of the first
abbrev pub flat_rows : ℕ → ℕ → Nodes Label → List FlatRow
flat_rows up next none = []
flat_rows up next (node l c t) =
    record { up = up; label = l } ∷ (flat_rows next (next + 1) c ++ flat_rows up (next + 1 + node_count c) t)

-- ---- read from the last row to the first

-- a tree that has no parent yet, with the number of its parent's row
pub record Pending : Type 0 where
  pub up : ℕ
  pub tree : Branch Label

-- by its parts
abbrev pub coded_pending : Coded (List Pending)
coded_pending = coded_list (code_by (ℕ × Branch Label) (coded× coded_ℕ (coded_branch coded_label)) (λ p. (p.up, p.tree))
    (λ p. record { up = p.0; tree = p.1 }) (λ _. refl))

-- those at the front whose parent is the row i, and the others
abbrev pub kids_of : ℕ → List Pending → Nodes Label
kids_of i [] = none
kids_of i (p ∷ ps) = cond (p.up == i) (node p.tree.row p.tree.children (kids_of i ps)) none

abbrev pub others_of : ℕ → List Pending → List Pending
others_of i [] = []
others_of i (p ∷ ps) = cond (p.up == i) (others_of i ps) (p ∷ ps)

-- a row takes those at the front that are its children
abbrev pub under : ℕ → FlatRow → List Pending → List Pending
under i r ps = record { up = r.up; tree = record { row = r.label; children = kids_of i ps } } ∷ others_of i ps

-- the trees of rows from the number i on
abbrev pub gathered : ℕ → List FlatRow → List Pending
gathered i [] = []
gathered i (r ∷ rs) = under i r (gathered (i + 1) rs)

-- the trees, if each stands below the document
abbrev pub top_trees : List Pending → Option (Nodes Label)
top_trees [] = Some none
top_trees (p ∷ ps) = cond (p.up == 0) (option_map (node p.tree.row p.tree.children) (top_trees ps)) None

-- the nodes of rows, if they are those of some
abbrev pub flat_nodes : List FlatRow → Option (Nodes Label)
flat_nodes rows = top_trees (gathered 1 rows)

-- Each node stands below one that may hold it; `top` says that they stand right below the document.
abbrev pub are_held : Bool → Nodes Label → Bool
are_held top none = true
are_held top (node l c t) = may_stand top l.kind && (holds l.kind || is_no_node c) && are_held false c && are_held top t

-- the nodes of rows each of which stands below the document or an element, and a doctype below the document alone
abbrev pub flat_formed : List FlatRow → Option (Nodes Label)
flat_formed rows = option_and_then (λ n. cond (are_held true n) (Some n) None) (flat_nodes rows)

-- what is read is what was written, and nothing else is read
abbrev pub FlatIs : Type 0
FlatIs = (rows : List FlatRow) (n : Nodes Label) → (flat_nodes rows ≡ Some n) ↔ (rows ≡ flat_rows 0 1 n)
