-- What an edit makes of a page, and the edit that leads back. All reads nodes and texts; of the next serial an attach alone
-- says something, and nothing hangs on it.
use Rattle.std.specs.Prelude.{ℕ, suc, ◌+◌, ◌==◌, ◌||◌, ◌&&◌, max, Bool, false, cond, List, [], ◌∷◌, Option, Some, None}
use Rattle.node_tree.specs.Nodes.{Nodes, none, node, Branch, alone, map_branch, branch_count}
use Rattle.node_tree.specs.Labels.{Label, value_of}
pub use Rattle.node_tree.specs.LabelChanges.{pairs_without, with_attribute, without_attribute, with_value}
use Rattle.node_tree.specs.Keys as keys
use Rattle.page_tree.specs.Pages.{PageRow, row_serial, row_label, PageValue, node_at, parent_at, numbered}
use Rattle.page_tree.specs.declared.edits.TreeEdit.{TreeEdit}
use Rattle.page_tree.specs.declared.edits.TreeEdit.TheVariants.{SetAttr, DropAttr, SetText, Attach, Detach}

-- ---- what an edit makes of the one node that it changes

-- the node with its label changed
abbrev pub relabelled : (Label → Label) → Branch PageRow → Branch PageRow
relabelled f b = record { row = record { serial = b.row.serial; label = f b.row.label }; children = b.children }

-- trees side by side with one more before the tree of that serial, or last where there is none
abbrev pub put_before : ℕ → Branch PageRow → Nodes PageRow → Nodes PageRow
put_before before w none = alone w
put_before before w (node r c t) = cond (r.serial == before) (node w.row w.children (node r c t)) (node r c (put_before before w t))

-- trees side by side without the first one of that serial
abbrev pub taken_out : ℕ → Nodes PageRow → Nodes PageRow
taken_out serial none = none
taken_out serial (node r c t) = cond (r.serial == serial) t (node r c (taken_out serial t))

-- the node with one more child, before the child of that serial, or last where there is none
abbrev pub with_child : ℕ → Branch PageRow → Branch PageRow → Branch PageRow
with_child before w b = record { row = b.row; children = put_before before w b.children }

-- the node without the child of that serial
abbrev pub without_child : ℕ → Branch PageRow → Branch PageRow
without_child serial b = record { row = b.row; children = taken_out serial b.children }

-- ---- the tree after an edit

-- the tree with another node in the place of the one of that serial
abbrev pub put_in : ℕ → Branch PageRow → Branch PageRow → Branch PageRow
put_in serial w tree = cond (tree.row.serial == serial) w (record { row = tree.row; children = keys.put row_serial serial w tree.children })

-- the tree with the node of that serial changed
abbrev pub changed_at : ℕ → (Branch PageRow → Branch PageRow) → Branch PageRow → Branch PageRow
changed_at serial change tree = put_in serial (change (node_at serial tree)) tree

-- The tree after an edit: one node is changed. That is the named one; for an attach and a detach it is the parent.
abbrev pub after_tree : TreeEdit → Branch PageRow → Branch PageRow
after_tree (SetAttr serial name value) tree = changed_at serial (relabelled (with_attribute name value)) tree
after_tree (DropAttr serial name) tree = changed_at serial (relabelled (without_attribute name)) tree
after_tree (SetText serial value) tree = changed_at serial (relabelled (with_value value)) tree
after_tree (Attach parent before w) tree = changed_at parent (with_child before w) tree
after_tree (Detach serial) tree = changed_at (parent_at serial tree) (without_child serial) tree

-- ---- the page after an edit

-- the greatest serial; 0 where there is no node
abbrev pub greatest_serial : Nodes PageRow → ℕ
greatest_serial none = 0
greatest_serial (node r c t) = max r.serial (max (greatest_serial c) (greatest_serial t))

-- an attach makes the next serial at least one more than the greatest attached one; all else keeps it
abbrev pub next_after : TreeEdit → ℕ → ℕ
next_after (SetAttr serial name value) next = next
next_after (DropAttr serial name) next = next
next_after (SetText serial value) next = next
next_after (Attach parent before w) next = max next (suc (greatest_serial (alone w)))
next_after (Detach serial) next = next

-- the page after an edit
abbrev pub after : TreeEdit → PageValue → PageValue
after e page = record { tree = after_tree e page.tree; next = next_after e page.next }

-- ---- the edit that leads back

-- the serial of the first tree; 0 where there is none
abbrev pub first_serial : Nodes PageRow → ℕ
first_serial none = 0
first_serial (node r c t) = r.serial

-- the serial of the tree that stands right after the one of that serial; 0 where there is none
abbrev pub next_sibling : ℕ → Nodes PageRow → ℕ
next_sibling serial none = 0
next_sibling serial (node r c t) = cond (r.serial == serial) (first_serial t) (next_sibling serial t)

-- the label of the node of that serial
abbrev pub label_at : ℕ → Branch PageRow → Label
label_at serial tree = (node_at serial tree).row.label

-- the children of the node of that serial
abbrev pub children_at : ℕ → Branch PageRow → Nodes PageRow
children_at serial tree = (node_at serial tree).children

-- the serial of the child of that parent that stands right after the one of that serial; 0 where there is none
abbrev pub sibling_after : ℕ → ℕ → Branch PageRow → ℕ
sibling_after serial parent tree = next_sibling serial (children_at parent tree)

-- what sets the attribute to what it was
abbrev pub restored : ℕ → List ℕ → Option (List ℕ) → TreeEdit
restored serial name None = DropAttr serial name
restored serial name (Some value) = SetAttr serial name value

-- The edit of the tree after `e` that leads back to the tree before it. A node that was taken out goes before the sibling
-- that stood right after it.
abbrev pub back_tree : TreeEdit → Branch PageRow → TreeEdit
back_tree (SetAttr serial name value) tree = restored serial name (value_of name (label_at serial tree).attributes)
back_tree (DropAttr serial name) tree = restored serial name (value_of name (label_at serial tree).attributes)
back_tree (SetText serial value) tree = SetText serial (label_at serial tree).value
back_tree (Attach parent before w) tree = Detach w.row.serial
back_tree (Detach serial) tree = Attach (parent_at serial tree) (sibling_after serial (parent_at serial tree) tree) (node_at serial tree)

-- ---- what an insert, a copy and a move mean

-- a new node of that form, and all below it, numbered from `first` on in document order
abbrev pub numbered_branch : ℕ → Branch Label → Branch PageRow
numbered_branch first form = record { row = record { serial = first; label = form.row }; children = numbered (first + 1) form.children }

-- the page whose next serial has gone on by the nodes of a form that were numbered and not yet attached
abbrev pub drawn : Branch Label → PageValue → PageValue
drawn form page = record page { next = page.next + branch_count form }

-- the form of a node of the tree, with all below it
abbrev pub form_at : ℕ → Branch PageRow → Branch Label
form_at serial tree = map_branch row_label (node_at serial tree)

-- an insert is one attach of new nodes, whose serials follow document order from the next one
abbrev pub insert_edits : ℕ → ℕ → Branch Label → PageValue → List TreeEdit
insert_edits parent before form page = Attach parent before (numbered_branch page.next form) ∷ []

-- a copy is the same with the form of a node of the page
abbrev pub copy_edits : ℕ → ℕ → ℕ → PageValue → List TreeEdit
copy_edits serial parent before page = insert_edits parent before (form_at serial page.tree) page

-- some tree has that serial
abbrev pub is_among : ℕ → Nodes PageRow → Bool
is_among serial none = false
is_among serial (node r c t) = r.serial == serial || is_among serial t

-- Before which child a move puts the node: where `before` is the node itself, and a child of that parent, its next sibling
-- counts, or 0.
abbrev pub moved_before : ℕ → ℕ → ℕ → Branch PageRow → ℕ
moved_before serial parent before tree =
    cond (before == serial && is_among serial (children_at parent tree)) (sibling_after serial parent tree) before

-- a move is a detach and an attach
abbrev pub move_edits : ℕ → ℕ → ℕ → Branch PageRow → List TreeEdit
move_edits serial parent before tree = Detach serial ∷ Attach parent (moved_before serial parent before tree) (node_at serial tree) ∷ []

-- the page after edits, one after another
abbrev pub after_all : List TreeEdit → PageValue → PageValue
after_all [] page = page
after_all (e ∷ es) page = after_all es (after e page)
