-- Why an edit of a page is refused, and which edits a page takes.
use Rattle.std.specs.Prelude.{◌≡◌, ℕ, ◌+◌, ◌<◌, ◌≤◌, ◌==◌, ◌||◌, ◌&&◌, Bool, true, not, nat_le, List, [], ◌∷◌, Option, Some, None, is_some}
use Rattle.std.specs.Prelude.{Result, Ok, Err}
use Rattle.node_tree.specs.Nodes.{Branch, alone, height, map_branch, branch_count}
use Rattle.node_tree.specs.Names.{is_attribute_name}
use Rattle.node_tree.specs.Labels.{Label, value_of, holds, has_value, is_document, is_doctype, is_element}
use Rattle.node_tree.specs.declared.Kind.{Kind}
use Rattle.page_tree.specs.Forms.{max_nodes, are_formed, are_named}
use Rattle.node_tree.specs.Levels.{max_level}
use Rattle.page_tree.specs.Pages.{PageRow, row_label, PageValue, find_in, node_at, level_at, times_in}
use Rattle.node_tree.specs.Keys.{first_true}
use Rattle.page_tree.specs.Edits.{label_at, children_at, is_among, form_at, moved_before, after}
use Rattle.page_tree.specs.declared.edits.TreeEdit.{TreeEdit}
use Rattle.page_tree.specs.declared.edits.TreeEdit.TheVariants.{SetAttr, DropAttr, SetText, Attach, Detach}
use Rattle.page_tree.specs.declared.edit_faults.EditFault.{EditFault}
use Rattle.page_tree.specs.declared.edit_faults.EditFault.TheVariants.{NoNode, NotElement, NotText, IsDocument, NotChild, Inside, TooDeep}
use Rattle.page_tree.specs.declared.edit_faults.EditFault.TheVariants.{TooMany, BadName, NoAttr, NotContainer}
use Rattle.page_tree.specs.declared.edit_faults.EditErr.{EditErr}
use Rattle.page_tree.specs.declared.edit_faults.EditErr.TheVariants.{Fault, Memory}

-- ---- tests

-- a node of the page has that serial
abbrev pub is_live : ℕ → Branch PageRow → Bool
is_live serial tree = is_some (find_in serial tree)

-- a serial is that of a live node, or 0, which names none
abbrev pub is_live_or_0 : ℕ → Branch PageRow → Bool
is_live_or_0 serial tree = serial == 0 || is_live serial tree

-- a child of that parent, or 0
abbrev pub is_place : ℕ → ℕ → Branch PageRow → Bool
is_place parent before tree = before == 0 || is_among before (children_at parent tree)

-- the kind of the node of that serial
abbrev pub kind_at : ℕ → Branch PageRow → Kind
kind_at serial tree = (label_at serial tree).kind

-- the form, put below that parent, stands above no higher level than the highest
abbrev pub is_low_below : ℕ → Branch Label → Branch PageRow → Bool
is_low_below parent form tree = nat_le (level_at parent tree + height (alone form)) max_level

-- there is room for the form's nodes
abbrev pub has_room : Branch Label → Branch PageRow → Bool
has_room form tree = nat_le (branch_count tree + branch_count form) max_nodes

-- a node of that kind may stand right below one of the other: that is a container, and the document where it is a doctype
abbrev pub may_hold : Kind → Kind → Bool
may_hold above below = holds above && (is_document above || not (is_doctype below))

-- the node of that serial is the other one or stands below it
abbrev pub is_inside : ℕ → ℕ → Branch PageRow → Bool
is_inside serial other tree = is_some (find_in serial (node_at other tree))

-- the node of that serial has such an attribute
abbrev pub node_has_attribute : ℕ → List ℕ → Branch PageRow → Bool
node_has_attribute serial name tree = is_some (value_of name (label_at serial tree).attributes)

-- ---- faults by number: each with the test that says that it applies

-- the faults of an attach of a tree of that form
abbrev pub attach_faults : ℕ → ℕ → Branch Label → Branch PageRow → List (EditFault × Bool)
attach_faults parent before form tree =
    (NoNode, not (is_live parent tree && is_live_or_0 before tree))
    ∷ (NotChild, not (is_place parent before tree))
    ∷ (TooDeep, not (is_low_below parent form tree))
    ∷ (TooMany, not (has_room form tree))
    ∷ (BadName, not (are_named (alone form)))
    ∷ (NotContainer, not (may_hold (kind_at parent tree) form.row.kind))
    ∷ []

-- the faults of an edit
abbrev pub edit_faults : TreeEdit → Branch PageRow → List (EditFault × Bool)
edit_faults (SetAttr serial name value) tree =
    (NoNode, not (is_live serial tree))
    ∷ (NotElement, not (is_element (kind_at serial tree)))
    ∷ (BadName, not (is_attribute_name name))
    ∷ []
edit_faults (DropAttr serial name) tree =
    (NoNode, not (is_live serial tree))
    ∷ (NotElement, not (is_element (kind_at serial tree)))
    ∷ (BadName, not (is_attribute_name name))
    ∷ (NoAttr, not (node_has_attribute serial name tree))
    ∷ []
edit_faults (SetText serial value) tree = (NoNode, not (is_live serial tree)) ∷ (NotText, not (has_value (kind_at serial tree))) ∷ []
edit_faults (Attach parent before w) tree = attach_faults parent before (map_branch row_label w) tree
edit_faults (Detach serial) tree = (NoNode, not (is_live serial tree)) ∷ (IsDocument, is_document (kind_at serial tree)) ∷ []

-- The faults of a move are those of the whole. What is moved is out of its place when it is put into the other: so its nodes
-- are counted once, and there is always room; its names have their forms already.
abbrev pub move_faults : ℕ → ℕ → ℕ → Branch PageRow → List (EditFault × Bool)
move_faults serial parent before tree =
    (NoNode, not (is_live serial tree && is_live parent tree && is_live_or_0 before tree))
    ∷ (IsDocument, is_document (kind_at serial tree))
    ∷ (NotChild, not (is_place parent (moved_before serial parent before tree) tree))
    ∷ (Inside, is_inside parent serial tree)
    ∷ (TooDeep, not (is_low_below parent (form_at serial tree) tree))
    ∷ (NotContainer, not (may_hold (kind_at parent tree) (kind_at serial tree)))
    ∷ []

-- The faults of a copy are those of an attach of the node's form, whose names have their forms already. A copy may go below the
-- node itself.
abbrev pub copy_faults : ℕ → ℕ → ℕ → Branch PageRow → List (EditFault × Bool)
copy_faults serial parent before tree =
    (NoNode, not (is_live serial tree && is_live parent tree && is_live_or_0 before tree))
    ∷ (IsDocument, is_document (kind_at serial tree))
    ∷ (NotChild, not (is_place parent before tree))
    ∷ (TooDeep, not (is_low_below parent (form_at serial tree) tree))
    ∷ (TooMany, not (has_room (form_at serial tree) tree))
    ∷ (NotContainer, not (may_hold (kind_at parent tree) (kind_at serial tree)))
    ∷ []

-- the first fault of an edit
abbrev pub first_fault : TreeEdit → Branch PageRow → Option EditFault
first_fault e tree = first_true (edit_faults e tree)

-- the first fault of an insert of that form
abbrev pub insert_fault : ℕ → ℕ → Branch Label → Branch PageRow → Option EditFault
insert_fault parent before form tree = first_true (attach_faults parent before form tree)

-- the first fault of a move
abbrev pub move_fault : ℕ → ℕ → ℕ → Branch PageRow → Option EditFault
move_fault serial parent before tree = first_true (move_faults serial parent before tree)

-- the first fault of a copy
abbrev pub copy_fault : ℕ → ℕ → ℕ → Branch PageRow → Option EditFault
copy_fault serial parent before tree = first_true (copy_faults serial parent before tree)

-- ---- which edits a page takes

-- A form that may be inserted, but for names, levels and counts: it holds no document, and a doctype only as the whole.
abbrev pub CanInsert : Branch Label → Type 0
CanInsert form = are_formed true (alone form) ≡ true

-- A tree that may be attached, but for faults: it is such a form, and its serials are distinct, at least 1, below the next
-- one, and no serials of the page.
pub record CanAttach (next : ℕ) (w tree : Branch PageRow) : Type 0 where
  pub formed : CanInsert (map_branch row_label w)
  pub distinct : (serial : ℕ) → times_in serial w ≤ 1
  pub least : (serial : ℕ) → 0 < times_in serial w → 1 ≤ serial
  pub below_next : (serial : ℕ) → 0 < times_in serial w → serial < next
  pub apart : (serial : ℕ) → 0 < times_in serial w → times_in serial tree ≡ 0

-- what an edit owes besides having no fault
abbrev pub IsReady : ℕ → TreeEdit → Branch PageRow → Type 0
IsReady next (SetAttr serial name value) tree = Unit {0}
IsReady next (DropAttr serial name) tree = Unit {0}
IsReady next (SetText serial value) tree = Unit {0}
IsReady next (Attach parent before w) tree = CanAttach next w tree
IsReady next (Detach serial) tree = Unit {0}

-- a page of that tree and that next serial takes the edit
pub record CanApply (next : ℕ) (e : TreeEdit) (tree : Branch PageRow) : Type 0 where
  pub fits : first_fault e tree ≡ None
  pub ready : IsReady next e tree

-- a page takes edits, one after another
abbrev pub CanApplyAll : List TreeEdit → PageValue → Type 0
CanApplyAll [] page = Unit {0}
CanApplyAll (e ∷ es) page = CanApply page.next e page.tree × CanApplyAll es (after e page)

-- What a call that applies an edit answers: the fault, where there is one. Want of memory is free where there is none.
abbrev pub RefusesEdit : {T : Type 0} → Result T EditErr → Option EditFault → Type 0
RefusesEdit (Ok x) fault = fault ≡ None
RefusesEdit (Err (Fault f)) fault = fault ≡ Some f
RefusesEdit (Err Memory) fault = fault ≡ None
