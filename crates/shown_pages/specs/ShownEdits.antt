-- What an edit of the page is in the shown page: the same edit, none, an attach or a detach.
use Rattle.std.specs.Prelude.{ℕ, ◌==◌, Bool, true, false, cond, List, Option, Some, None}
use Rattle.node_tree.specs.Nodes.{Nodes, none, node, Branch}
use Rattle.node_tree.specs.LabelChanges.{with_value}
use Rattle.page_tree.specs.Pages.{PageRow, PageValue, node_at, parent_at}
use Rattle.page_tree.specs.Edits.{relabelled, first_serial, label_at, children_at, after}
use Rattle.page_tree.specs.declared.edits.TreeEdit.{TreeEdit}
use Rattle.page_tree.specs.declared.edits.TreeEdit.TheVariants.{SetAttr, DropAttr, SetText, Attach, Detach}
use Rattle.shown_pages.specs.declared.modes.Mode.{Mode}
use Rattle.shown_pages.specs.declared.sights.TextSight.{TextSight}
use Rattle.shown_pages.specs.declared.sights.TextSight.TheVariants.{Unseen, Comes, Goes, Stays}
use Rattle.shown_pages.specs.Modes.{hidden_in}
use Rattle.shown_pages.specs.ShownPages.{shown_nodes, shown_branch}

-- how the setting of a text is seen, by whether its node is hidden before it, and whether after it
abbrev pub sight_of : Bool → Bool → TextSight
sight_of true true = Unseen
sight_of true false = Comes
sight_of false true = Goes
sight_of false false = Stays

module _ (mode : Mode) where
  -- the serial of the first shown tree from the one of that serial on; 0 where there is none
  abbrev pub shown_from : ℕ → Nodes PageRow → ℕ
  shown_from serial none = 0
  shown_from serial (node r c t) = cond (r.serial == serial) (first_serial (shown_nodes mode (node r c t))) (shown_from serial t)

  -- the serial of the first shown tree behind the one of that serial; 0 where there is none
  abbrev pub shown_after : ℕ → Nodes PageRow → ℕ
  shown_after serial none = 0
  shown_after serial (node r c t) = cond (r.serial == serial) (first_serial (shown_nodes mode t)) (shown_after serial t)

  -- the attach of a node that was hidden and has come to be as given, where it stands in the tree
  abbrev pub attach_in_place : ℕ → Branch PageRow → Branch PageRow → TreeEdit
  attach_in_place serial w tree =
      let parent = parent_at serial tree in
      Attach parent (shown_after serial (children_at parent tree)) (shown_branch mode w)

  -- what the setting of a text is, by how it is seen
  abbrev pub shown_text_edit : TextSight → ℕ → List ℕ → Branch PageRow → Option TreeEdit
  shown_text_edit Unseen serial value tree = None
  shown_text_edit Comes serial value tree = Some (attach_in_place serial (relabelled (with_value value) (node_at serial tree)) tree)
  shown_text_edit Goes serial value tree = Some (Detach serial)
  shown_text_edit Stays serial value tree = Some (SetText serial value)

  -- how the setting of a text of that tree is seen
  abbrev pub sight_at : ℕ → List ℕ → Branch PageRow → TextSight
  sight_at serial value tree =
      let label = label_at serial tree in
      sight_of (hidden_in mode label) (hidden_in mode (with_value value label))

  -- What an edit of that tree is in the shown tree. A tree that is attached goes before the first shown sibling from its place on.
  abbrev pub shown_edit : TreeEdit → Branch PageRow → Option TreeEdit
  shown_edit (SetAttr serial name value) tree = Some (SetAttr serial name value)
  shown_edit (DropAttr serial name) tree = Some (DropAttr serial name)
  shown_edit (SetText serial value) tree = shown_text_edit (sight_at serial value tree) serial value tree
  shown_edit (Attach parent before w) tree = cond (hidden_in mode w.row.label) None
      (Some (Attach parent (shown_from before (children_at parent tree)) (shown_branch mode w)))
  shown_edit (Detach serial) tree = cond (hidden_in mode (label_at serial tree)) None (Some (Detach serial))

-- a page after an edit, if there is one
abbrev pub after_some : Option TreeEdit → PageValue → PageValue
after_some None page = page
after_some (Some e) page = after e page
