-- A node with all that a tree has around it: a zipper (Huet), whose focus is the node.
use Rattle.std.specs.Prelude.{ℕ, Bool, ◌==◌, List, [], ◌∷◌, ◌++◌, Option, Some, None, unwrap_or, refl}
use Rattle.std.specs.List.{find}
use Rattle.std.specs.Coded.{Coded, code_by, coded×, coded_list}
use Rattle.node_tree.specs.Nodes.{Nodes, none, node, Branch, alone, coded_nodes, coded_branch}
use Rattle.page_tree.specs.Pages.{PageRow, coded_row}

-- a node among its siblings: those before it, the nearest first, and those after it
pub record Generation : Type 0 where
  pub branch : Branch PageRow
  pub before : List (Branch PageRow)
  pub after : Nodes PageRow

-- a node among its siblings, and above it its parent, the parent's parent and so on up to the root, each in the same way
pub record Zipper : Type 0 where
  pub branch : Branch PageRow
  pub before : List (Branch PageRow)
  pub after : Nodes PageRow
  pub above : List Generation

-- a node among its siblings, by its parts
abbrev pub coded_generation : Coded Generation
coded_generation =
    code_by (Branch PageRow × (List (Branch PageRow) × Nodes PageRow))
    (coded× (coded_branch coded_row) (coded× (coded_list (coded_branch coded_row)) (coded_nodes coded_row)))
    (λ g. (g.branch, (g.before, g.after)))
    (λ p. record { branch = p.0; before = p.1.0; after = p.1.1 })
    (λ _. refl)

-- the node among its siblings, without what is above it
abbrev pub generation_of : Zipper → Generation
generation_of z = record { branch = z.branch; before = z.before; after = z.after }

-- a node among its siblings, with what is above it
abbrev pub zipper_of : Generation → List Generation → Zipper
zipper_of g above = record { branch = g.branch; before = g.before; after = g.after; above = above }

-- a zipper by its parts
abbrev pub coded_zipper : Coded Zipper
coded_zipper = code_by (Generation × List Generation) (coded× coded_generation (coded_list coded_generation))
    (λ z. (generation_of z, z.above)) (λ p. zipper_of p.0 p.1) (λ _. refl)

-- the serial of the node
abbrev pub serial_of : Zipper → ℕ
serial_of z = z.branch.row.serial

-- ---- the nodes around a node

-- the parent, the parent's parent and so on up to the root
abbrev pub ancestors_in : List Generation → List Zipper
ancestors_in [] = []
ancestors_in (g ∷ above) = zipper_of g above ∷ ancestors_in above

-- the proper ancestors of a node, from its parent up to the root
abbrev pub ancestors : Zipper → List Zipper
ancestors z = ancestors_in z.above

-- the siblings before these nodes, the nearest first
abbrev pub earlier_in : List Generation → List (Branch PageRow) → Nodes PageRow → List Zipper
earlier_in above [] here = []
earlier_in above (b ∷ before) here = record { branch = b; before = before; after = here; above = above }
    ∷ earlier_in above before (node b.row b.children here)

-- the siblings before a node, the nearest first
abbrev pub earlier : Zipper → List Zipper
earlier z = earlier_in z.above z.before (node z.branch.row z.branch.children z.after)

-- nodes that have siblings before them, in order
abbrev pub in_row : List Generation → List (Branch PageRow) → Nodes PageRow → List Zipper
in_row above before none = []
in_row above before (node r c t) = record { branch = record { row = r; children = c }; before = before; after = t; above = above }
    ∷ in_row above (record { row = r; children = c } ∷ before) t

-- the siblings after a node, in order
abbrev pub later : Zipper → List Zipper
later z = in_row z.above (z.branch ∷ z.before) z.after

-- a node's children, in order
abbrev pub children_of : Zipper → List Zipper
children_of z = in_row (generation_of z ∷ z.above) [] z.branch.children

-- the first of a list, if there is one
abbrev pub first_node : List Zipper → Option Zipper
first_node [] = None
first_node (z ∷ zs) = Some z

-- the parent; the root has none
abbrev pub parent_of : Zipper → Option Zipper
parent_of z = first_node (ancestors z)

-- the sibling just before it
abbrev pub previous_of : Zipper → Option Zipper
previous_of z = first_node (earlier z)

-- the sibling just after it
abbrev pub next_of : Zipper → Option Zipper
next_of z = first_node (later z)

-- the first child, if there is one
abbrev pub first_child_of : Zipper → Option Zipper
first_child_of z = first_node (children_of z)

-- ---- the nodes of a tree

-- nodes and all below them in document order, where nodes stand before and above them
abbrev pub all_in : List Generation → List (Branch PageRow) → Nodes PageRow → List Zipper
all_in above before none = []
all_in above before (node r c t) =
    record { branch = record { row = r; children = c }; before = before; after = t; above = above }
    ∷ (all_in (record { branch = record { row = r; children = c }; before = before; after = t } ∷ above) [] c
    ++ all_in above (record { row = r; children = c } ∷ before) t)

-- all below a node, in document order
abbrev pub below : Zipper → List Zipper
below z = all_in (generation_of z ∷ z.above) [] z.branch.children

-- all nodes of a tree, in document order
abbrev pub zippers : Branch PageRow → List Zipper
zippers tree = all_in [] [] (alone tree)

-- the root of a tree
abbrev pub root_of : Branch PageRow → Zipper
root_of tree = record { branch = tree; before = []; after = none; above = [] }

-- the node has the serial
abbrev pub has_serial : ℕ → Zipper → Bool
has_serial serial z = serial_of z == serial

-- the node of the tree with that serial
abbrev pub find_zipper : ℕ → Branch PageRow → Option Zipper
find_zipper serial tree = find (has_serial serial) (zippers tree)

-- the node with that serial, where it is there
abbrev pub zipper_at : ℕ → Branch PageRow → Zipper
zipper_at serial tree = unwrap_or (find_zipper serial tree) (root_of tree)
