-- Pages: a tree of nodes with serials, and the next serial.
use Rattle.std.specs.Prelude.{◌≡◌, ℕ, ◌+◌, ◌<◌, ◌≤◌, true, ◌&&◌, [], Option, unwrap_or, refl}
use Rattle.std.specs.Coded.{Coded, code_by, coded×, coded_ℕ}
use Rattle.node_tree.specs.Nodes.{Nodes, none, node, Branch, node_count, map_rows, coded_branch}
use Rattle.node_tree.specs.Labels.{Label, coded_label, is_document, is_formed_label}
use Rattle.node_tree.specs.Keys as keys
use Rattle.node_tree.specs.declared.Kind.TheVariants.{Document}
use Rattle.page_tree.specs.Forms.{CanLoad}

-- a node of a page has a serial, the protocol's `backendNodeId`
pub record PageRow : Type 0 where
  pub serial : ℕ
  pub label : Label

-- the serial of a node
abbrev pub row_serial : PageRow → ℕ
row_serial r = r.serial

-- the label of a node
abbrev pub row_label : PageRow → Label
row_label r = r.label

-- a row by its parts
abbrev pub coded_row : Coded PageRow
coded_row = code_by (ℕ × Label) (coded× coded_ℕ coded_label) (λ r. (r.serial, r.label)) (λ p. record { serial = p.0; label = p.1 })
    (λ _. refl)

-- a page: the document with all below it, and the serial that the next new node gets
pub record PageValue : Type 0 where
  pub tree : Branch PageRow
  pub next : ℕ

-- a page by its parts
abbrev pub coded_state : Coded PageValue
coded_state = code_by (Branch PageRow × ℕ) (coded× (coded_branch coded_row) coded_ℕ) (λ p. (p.tree, p.next))
    (λ p. record { tree = p.0; next = p.1 }) (λ _. refl)

-- ---- nodes by serial

-- the node with that serial, and what is below it
abbrev pub find_in : ℕ → Branch PageRow → Option (Branch PageRow)
find_in serial tree = keys.find_in row_serial serial tree

-- the branch of the node with that serial, where it is there
abbrev pub node_at : ℕ → Branch PageRow → Branch PageRow
node_at serial tree = unwrap_or (find_in serial tree) tree

-- the serial of its parent, and 0 for the document
abbrev pub parent_at : ℕ → Branch PageRow → ℕ
parent_at serial tree = unwrap_or (keys.parent_in row_serial serial tree) 0

-- the level of the node with that serial; the document has level 0
abbrev pub level_at : ℕ → Branch PageRow → ℕ
level_at serial tree = unwrap_or (keys.level_in row_serial serial tree) 0

-- how many nodes have the serial
abbrev pub times_in : ℕ → Branch PageRow → ℕ
times_in serial tree = keys.tally_in row_serial serial tree

-- ---- valid pages

-- The root is the one document and a page may hold what is below it; serials are distinct, at least 1 and below the next
-- one.
pub record IsValid (page : PageValue) : Type 0 where
  pub root : (is_document page.tree.row.label.kind && is_formed_label page.tree.row.label) ≡ true
  pub nodes : CanLoad (map_rows row_label page.tree.children)
  pub distinct : (serial : ℕ) → times_in serial page.tree ≤ 1
  pub least : (serial : ℕ) → 0 < times_in serial page.tree → 1 ≤ serial
  pub below_next : (serial : ℕ) → 0 < times_in serial page.tree → serial < page.next

-- ---- a load

-- the label of the document
abbrev pub document_label : Label
document_label = record { kind = Document; name = []; value = []; attributes = [] }

-- the nodes with serials in document order, from `first` on
abbrev pub numbered : ℕ → Nodes Label → Nodes PageRow
numbered first none = none
numbered first (node l c t) = node (record { serial = first; label = l }) (numbered (first + 1) c) (numbered (first + 1 + node_count c) t)

-- the page of these nodes, whose document has the serial `first`
abbrev pub loaded : ℕ → Nodes Label → PageValue
loaded first nodes = record {
  tree = record {
    row = record { serial = first; label = document_label };
    children = numbered (first + 1) nodes;
  };
  next = first + 1 + node_count nodes;
}
