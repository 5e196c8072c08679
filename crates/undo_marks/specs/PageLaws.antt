-- The law of histories of saved pages.
use Rattle.std.specs.Prelude.{◌≡◌, ℕ, ◌≤◌, ◌↔◌, List, Some}
use Rattle.page_tree.specs.Pages.{PageValue, IsValid}
use Rattle.page_tree.specs.Edits.{after, back_tree}
use Rattle.page_tree.specs.EditFaults.{CanApply}
use Rattle.page_tree.specs.declared.edits.TreeEdit.{TreeEdit}
use Rattle.sheet_reader.specs.declared.book.SheetEntry.{SheetEntry}
use Rattle.style_edits.specs.declared.splice.Splice.{Splice}
use Rattle.style_edits.specs.Splices.{TakesSplice, FitsSplice, after_splice, back_splice}
use Rattle.undo_marks.specs.Marks.{Marks, handed_out}
use Rattle.undo_marks.specs.Changes.{HistoryEntry, KeptFor, KeepsOn, AllTaken, pages_on, after_all, pages_undone, page_undone, pages_redone}
use Rattle.undo_marks.specs.Changes.{page_redone}
use Rattle.undo_marks.specs.Saved.{Saved}
use Rattle.undo_marks.specs.SavedEdits.{saved_of, page_after, way_back, TakesEdit, MeetsNoFault}
use Rattle.undo_marks.specs.declared.inverse_lists.Inverse.{Inverse}
use Rattle.undo_marks.specs.declared.inverse_lists.Inverse.TheVariants.{Tree, Sheet}

-- The edits kept are those of the history that is promised, whose page this is: each leads from one saved page to the next, and
-- a page of that next serial takes it.
abbrev pub KeepsPages : ℕ → Marks Inverse → Marks (HistoryEntry Saved Inverse) → Saved → Type 0
KeepsPages next kept m page = KeptFor page_after way_back (TakesEdit next) kept m page

-- Applied in order to the page, the edits meet no fault and no limit, and lead through these saved pages to that one, with its
-- very tree and texts.
pub record LeadsThrough (es : List Inverse) (page : Saved) (pages : List Saved) (end : Saved) : Type 0 where
  pub no_fault : AllTaken page_after MeetsNoFault es page
  pub through : pages_on page_after es page ≡ pages
  pub ends : after_all page_after es page ≡ end

-- What a saved page says of edits is what the page and its book of sheets say: where they lead, what leads back, and whether
-- they are taken.
pub record SaysOfEdits (page : PageValue) (book : List SheetEntry) : Type 0 where
  pub tree_after : (e : TreeEdit) → page_after (Tree e) (saved_of page.tree book) ≡ saved_of (after e page).tree book
  pub tree_back : (e : TreeEdit) → way_back (Tree e) (saved_of page.tree book) ≡ Tree (back_tree e page.tree)
  pub tree_taken : (e : TreeEdit) → IsValid page → TakesEdit page.next (Tree e) (saved_of page.tree book) ↔ CanApply page.next e page.tree
  pub sheet_after : (s : Splice) → page_after (Sheet s) (saved_of page.tree book) ≡ saved_of page.tree (after_splice s book)
  pub sheet_back : (s : Splice) → way_back (Sheet s) (saved_of page.tree book) ≡ Sheet (back_splice s book)
  pub sheet_taken : (s : Splice) → TakesSplice s book → TakesEdit page.next (Sheet s) (saved_of page.tree book)
  pub sheet_fits : (s : Splice) → TakesEdit page.next (Sheet s) (saved_of page.tree book) → FitsSplice s book

-- The history of edits of trees and of sheets' texts, under any next serial.
pub record SavedPagesLaw : Type 0 where
  -- edits kept for a history are kept for it after each change of it: at the start, and after a note, a mark, a crossing, an undo
  -- and a redo; where there is nothing to take back or to do again, nothing changes
  pub keeps_on : (next : ℕ) → KeepsOn page_after way_back (TakesEdit next)
  -- edits that are kept under a next serial are kept under each later one
  pub later_serials : (next later : ℕ) (kept : Marks Inverse) (m : Marks (HistoryEntry Saved Inverse)) (page : Saved)
      → next ≤ later → KeepsPages next kept m page → KeepsPages later kept m page
  -- what an undo hands out leads back through the pages saved before the entries of the newest group
  pub undo_leads : (next : ℕ) (kept : Marks Inverse) (m : Marks (HistoryEntry Saved Inverse)) (page : Saved) (es : List Inverse)
      → KeepsPages next kept m page → handed_out kept.past ≡ Some es
      → LeadsThrough es page (pages_undone m.past) (page_undone m.past page)
  -- what a redo hands out leads on through those saved after the entries of the group that was taken back last
  pub redo_leads : (next : ℕ) (kept : Marks Inverse) (m : Marks (HistoryEntry Saved Inverse)) (page : Saved) (es : List Inverse)
      → KeepsPages next kept m page → handed_out kept.future ≡ Some es
      → LeadsThrough es page (pages_redone m.future) (page_redone m.future page)
  -- what is so told of saved pages is told of pages and their books
  pub of_pages : (page : PageValue) (book : List SheetEntry) → SaysOfEdits page book
