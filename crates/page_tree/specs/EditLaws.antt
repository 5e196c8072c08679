-- What holds of edits of pages.
use Rattle.std.specs.Prelude.{◌≡◌, ℕ, ◌≤◌, List, None}
use Rattle.node_tree.specs.Nodes.{Branch}
use Rattle.node_tree.specs.Labels.{Label}
use Rattle.page_tree.specs.Pages.{PageRow, PageValue, IsValid}
use Rattle.page_tree.specs.Edits.{after, after_tree, back_tree, after_all, drawn, form_at, insert_edits, copy_edits, move_edits}
use Rattle.page_tree.specs.EditFaults.{CanApply, CanApplyAll, CanInsert, insert_fault, move_fault, copy_fault}
use Rattle.page_tree.specs.declared.edits.TreeEdit.{TreeEdit}

-- The page after an edit that it takes is valid.
abbrev pub AfterLaw : Type 0
AfterLaw = (page : PageValue) (e : TreeEdit) → IsValid page → CanApply page.next e page.tree → IsValid (after e page)

-- A page's next serial is what it was before the edit: what is attached has its serials already.
abbrev pub NextLaw : Type 0
NextLaw = (page : PageValue) (e : TreeEdit) → CanApply page.next e page.tree → (after e page).next ≡ page.next

-- `back` leads back over the edit e of that tree: a page of the tree after e and of that next serial takes it, it leads to the very
-- tree of before, serials and all, and its own way back is e.
pub record LeadsBack (back e : TreeEdit) (tree : Branch PageRow) (next : ℕ) : Type 0 where
  pub taken : CanApply next back (after_tree e tree)
  pub tree_back : after_tree back (after_tree e tree) ≡ tree
  pub edit_back : back_tree back (after_tree e tree) ≡ e

-- The edit that leads back does so on every page with the tree after the edit, whatever its next serial is, if that is no lower.
abbrev pub BackLaw : Type 0
BackLaw =
    (page : PageValue) (e : TreeEdit) (next : ℕ) → IsValid page → CanApply page.next e page.tree → page.next ≤ next
    → LeadsBack (back_tree e page.tree) e page.tree next

-- Edits on a page that takes them one after another, with the page that they lead to.
pub record EditsLead (edits : List TreeEdit) (page end : PageValue) : Type 0 where
  pub taken : CanApplyAll edits page
  pub ends : after_all edits page ≡ end

-- Where an insert has no fault, its edits are taken as soon as its serials are drawn, and they lead to the same page as they would
-- without that.
abbrev pub InsertLaw : Type 0
InsertLaw =
    (page : PageValue) (parent before : ℕ) (form : Branch Label) → IsValid page → CanInsert form
    → insert_fault parent before form page.tree ≡ None
    → EditsLead (insert_edits parent before form page) (drawn form page) (after_all (insert_edits parent before form page) page)

-- Where a copy has no fault, its edits are taken as soon as its serials are drawn, and they lead to the same page as they would without
-- that.
abbrev pub CopyLaw : Type 0
CopyLaw =
    (page : PageValue) (serial parent before : ℕ) → IsValid page → copy_fault serial parent before page.tree ≡ None
    → let edits = copy_edits serial parent before page in
    EditsLead edits (drawn (form_at serial page.tree) page) (after_all edits page)

-- Where a move has no fault, both its edits are taken.
abbrev pub MoveLaw : Type 0
MoveLaw =
    (page : PageValue) (serial parent before : ℕ) → IsValid page → move_fault serial parent before page.tree ≡ None
    → CanApplyAll (move_edits serial parent before page.tree) page
