-- What a script's change of the page comes to: edits of the page, or changes of its sheets, or another medium, or the first fault.
use Rattle.std.specs.Prelude.{ℕ, cond, List, [], ◌∷◌, Option, Some, None, option_map}
use Rattle.page_tree.specs.Pages.{PageValue}
use Rattle.page_tree.specs.Edits.{drawn, form_at, insert_edits, copy_edits, move_edits}
use Rattle.page_tree.specs.EditFaults.{first_fault, insert_fault, move_fault, copy_fault}
use Rattle.page_tree.specs.declared.edits.TreeEdit.{TreeEdit}
use Rattle.page_tree.specs.declared.edits.TreeEdit.TheVariants as edit
use Rattle.page_tree.specs.declared.edit_faults.EditFault.{EditFault}
use Rattle.sheet_reader.specs.declared.book.SheetEntry.{SheetEntry}
use Rattle.sheet_reader.specs.Books.{removed}
use Rattle.style_edits.specs.declared.faults.SheetFault.TheVariants.{NoSheet, TooBig}
use Rattle.style_edits.specs.Edits.{is_too_big}
use Rattle.css_agent.specs.Asks.{sheet_named}
use Rattle.media_rules.specs.declared.medium.Medium.{Medium}
use Rattle.page_forms.specs.declared.acts.Act.{Act}
use Rattle.page_forms.specs.declared.acts.Act.TheVariants.{SetAttr, DropAttr, SetText, Insert, Remove, Move, AddSheet, DropSheet}
use Rattle.page_forms.specs.declared.acts.Act.TheVariants.{ReplaceSheet, Medium as SetMedium}
use Rattle.back_end.specs.declared.faults.ActFault.{ActFault}
use Rattle.back_end.specs.declared.node_edits.TreeWish.{TreeWish}
use Rattle.back_end.specs.declared.node_edits.TreeWish.TheVariants.{One, MoveNode, CopyNode}
use Rattle.back_end.specs.declared.faults.ActFault.TheVariants.{Edit, Sheet}
use Rattle.back_end.specs.Sheets.{SheetChange, leaves, comes}

-- edits, one after the other, and the page that they begin with: the serials of new nodes are drawn
pub record Plan : Type 0 where
  pub page : PageValue
  pub edits : List TreeEdit

-- what an act comes to
pub data Deed : Type 0 where
  -- edits of the page
  edits : Plan → Deed
  -- changes of its sheets, one after the other
  restyles : List SheetChange → Deed
  -- another medium
  shows_on : Medium → Deed

-- one edit of the page
abbrev pub one_edit : TreeEdit → PageValue → Deed
one_edit e page = edits (record { page = page; edits = e ∷ [] })

-- ---- acts on sheets

-- a new sheet with this text does not fit into the book
abbrev pub size_fault : List ℕ → List SheetEntry → Option ActFault
size_fault text book = cond (is_too_big text book) (Some (Sheet TooBig)) None

-- a sheet that is not there cannot go
abbrev pub drop_fault : Option SheetEntry → Option ActFault
drop_fault None = Some (Sheet NoSheet)
drop_fault (Some e) = None

-- nor can another come in its place, which has to fit in beside the others
abbrev pub replace_fault : List ℕ → List SheetEntry → Option SheetEntry → Option ActFault
replace_fault text book None = Some (Sheet NoSheet)
replace_fault text book (Some e) = size_fault text (removed e.id book)

-- the sheet that was named goes
abbrev pub dropping : Option SheetEntry → List SheetChange
dropping None = []
dropping (Some e) = leaves e.id ∷ []

-- the sheet that was named goes, and one of the same origin comes
abbrev pub replacing : List ℕ → Option SheetEntry → List SheetChange
replacing text None = []
replacing text (Some e) = leaves e.id ∷ comes e.origin text ∷ []

-- ---- acts

-- the fault of an edit, as that of an act
abbrev pub edit_fault : Option EditFault → Option ActFault
edit_fault fault = option_map (λ f. Edit f) fault

-- the fault of an act on a page with this book of sheets, the first by number
abbrev pub act_fault : Act → PageValue → List SheetEntry → Option ActFault
act_fault (SetAttr node name value) page book = edit_fault (first_fault (edit.SetAttr node name value) page.tree)
act_fault (DropAttr node name) page book = edit_fault (first_fault (edit.DropAttr node name) page.tree)
act_fault (SetText node value) page book = edit_fault (first_fault (edit.SetText node value) page.tree)
act_fault (Insert parent before form) page book = edit_fault (insert_fault parent before form page.tree)
act_fault (Remove node) page book = edit_fault (first_fault (edit.Detach node) page.tree)
act_fault (Move node parent before) page book = edit_fault (move_fault node parent before page.tree)
act_fault (AddSheet origin text) page book = size_fault text book
act_fault (DropSheet sheet) page book = drop_fault (sheet_named sheet book)
act_fault (ReplaceSheet sheet text) page book = replace_fault text book (sheet_named sheet book)
act_fault (SetMedium medium) page book = None

-- what an act without a fault comes to
abbrev pub act_plan : Act → PageValue → List SheetEntry → Deed
act_plan (SetAttr node name value) page book = one_edit (edit.SetAttr node name value) page
act_plan (DropAttr node name) page book = one_edit (edit.DropAttr node name) page
act_plan (SetText node value) page book = one_edit (edit.SetText node value) page
act_plan (Insert parent before form) page book = edits (record { page = drawn form page; edits = insert_edits parent before form page })
act_plan (Remove node) page book = one_edit (edit.Detach node) page
act_plan (Move node parent before) page book = edits (record { page = page; edits = move_edits node parent before page.tree })
act_plan (AddSheet origin text) page book = restyles (comes origin text ∷ [])
act_plan (DropSheet sheet) page book = restyles (dropping (sheet_named sheet book))
act_plan (ReplaceSheet sheet text) page book = restyles (replacing text (sheet_named sheet book))
act_plan (SetMedium medium) page book = shows_on medium

-- ---- a client's edits of the tree

-- the fault of an edit, the first by number
abbrev pub node_edit_fault : TreeWish → PageValue → Option EditFault
node_edit_fault (One edit) page = first_fault edit page.tree
node_edit_fault (MoveNode node parent before) page = move_fault node parent before page.tree
node_edit_fault (CopyNode node parent before) page = copy_fault node parent before page.tree

-- what one without a fault comes to
abbrev pub node_edit_plan : TreeWish → PageValue → Plan
node_edit_plan (One edit) page = record { page = page; edits = edit ∷ [] }
node_edit_plan (MoveNode node parent before) page = record { page = page; edits = move_edits node parent before page.tree }
node_edit_plan (CopyNode node parent before) page =
    record { page = drawn (form_at node page.tree) page; edits = copy_edits node parent before page }

-- the node that was moved, or the copy, which has the first serial that was drawn
abbrev pub node_put : TreeWish → PageValue → Option ℕ
node_put (One edit) page = None
node_put (MoveNode node parent before) page = Some node
node_put (CopyNode node parent before) page = Some page.next
