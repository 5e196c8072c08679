-- What of a page a history saves.
use Rattle.std.specs.Prelude.{ℕ, List}
use Rattle.node_tree.specs.Nodes.{Branch}
use Rattle.page_tree.specs.Pages.{PageRow}
use Rattle.page_tree.specs.declared.edits.TreeEdit.{TreeEdit}
use Rattle.style_edits.specs.declared.splice.Splice.{Splice}
use Rattle.undo_marks.specs.declared.inverse_lists.Inverse.{Inverse}
use Rattle.undo_marks.specs.declared.inverse_lists.Inverse.TheVariants.{Tree, Sheet}

-- a sheet's number and text
pub record SavedSheet : Type 0 where
  pub number : ℕ
  pub text : List ℕ

-- the tree, and the numbers and texts of the sheets, in order
pub record Saved : Type 0 where
  pub tree : Branch PageRow
  pub sheets : List SavedSheet

-- ---- edits of the two parts, given what an edit of each part is: an edit of the tree leaves the sheets, and a splice the tree

module _ (tree : TreeEdit → Branch PageRow → Branch PageRow) (sheets : Splice → List SavedSheet → List SavedSheet) where
  -- the page after an edit
  abbrev pub after_either : Inverse → Saved → Saved
  after_either (Tree e) page = record { tree = tree e page.tree; sheets = page.sheets }
  after_either (Sheet s) page = record { tree = page.tree; sheets = sheets s page.sheets }

module _ (tree : TreeEdit → Branch PageRow → TreeEdit) (sheets : Splice → List SavedSheet → Splice) where
  -- the edit that leads back from it
  abbrev pub back_either : Inverse → Saved → Inverse
  back_either (Tree e) page = Tree (tree e page.tree)
  back_either (Sheet s) page = Sheet (sheets s page.sheets)

module _ (tree : TreeEdit → Branch PageRow → Type 0) (sheets : Splice → List SavedSheet → Type 0) where
  -- the page takes the edit
  abbrev pub TakesEither : Inverse → Saved → Type 0
  TakesEither (Tree e) page = tree e page.tree
  TakesEither (Sheet s) page = sheets s page.sheets
