-- Histories of saved pages.
use Rattle.std.proofs.Common.{◌≡◌, ◌≤◌, ℕ, List, [], ◌∷◌, Some, refl, ap, subst, arith}
use Rattle.node_tree.specs.Nodes.{Branch}
use Rattle.page_tree.specs.Pages.{PageRow, PageValue, IsValid}
use Rattle.page_tree.specs.Edits.{after_tree, back_tree}
use Rattle.page_tree.specs.declared.edits.TreeEdit.{TreeEdit}
use Rattle.page_tree.proofs.EditLemmas.{valid-after}
use Rattle.page_tree.proofs.InsertLemmas.{next-stays}
use Rattle.page_tree.proofs.BackLemmas.{leads-back, can-later}
use Rattle.page_tree.proofs.WholeLemmas.{whole-valid, valid-whole, whole-later}
use Rattle.sheet_reader.specs.declared.book.SheetEntry.{SheetEntry}
use Rattle.undo_marks.specs.Marks.{Marks, handed_out}
use Rattle.undo_marks.specs.Changes.{HistoryEntry, AreBacks, KeepsOn, AllTaken, pages_undone, page_undone, pages_redone, page_redone}
use Rattle.undo_marks.specs.Saved.{Saved}
use Rattle.undo_marks.specs.SavedEdits.{sheets_after, splice_back, TakesSheet, TakesTree, page_after, way_back, TakesEdit, MeetsNoFault}
use Rattle.undo_marks.specs.PageLaws.{KeepsPages, LeadsThrough, SaysOfEdits, SavedPagesLaw}
use Rattle.undo_marks.specs.declared.inverse_lists.Inverse.{Inverse}
use Rattle.undo_marks.specs.declared.inverse_lists.Inverse.TheVariants.{Tree, Sheet}
use Rattle.undo_marks.proofs.HistoryLemmas.{keeps_on, kept_grow}
use Rattle.undo_marks.proofs.SavedLemmas.{either_are_backs}
use Rattle.undo_marks.proofs.SheetLemmas.{after-saved, back-saved, taken-saved, fits-saved, sheets_are_backs}

-- ---- edits of trees

module _ (next : ℕ) where
  abbrev page_of : Branch PageRow → PageValue
  page_of tree = record { tree = tree; next = next }

  taken_back : (e : TreeEdit) (tree : Branch PageRow) → TakesTree next e tree → TakesTree next (back_tree e tree) (after_tree e tree)
  taken_back e tree t = record {
    valid =
        subst (λ (n : ℕ). IsValid (record { tree = after_tree e tree; next = n })) (next-stays (page_of tree) e t.taken)
        (valid-after (page_of tree) e t.valid t.taken);
    taken = (leads-back (page_of tree) e next t.valid t.taken (omega arith)).taken;
  }

  tree_are_backs : AreBacks after_tree back_tree (TakesTree next)
  tree_are_backs = record {
    takes_back = taken_back;
    leads_back = λ e tree t. (leads-back (page_of tree) e next t.valid t.taken (omega arith)).tree_back;
    back_back = λ e tree t. (leads-back (page_of tree) e next t.valid t.taken (omega arith)).edit_back;
  }

-- ---- edits of pages

pub edits_are_backs : (next : ℕ) → AreBacks page_after way_back (TakesEdit next)
edits_are_backs next =
    either_are_backs after_tree back_tree (TakesTree next) sheets_after splice_back TakesSheet (tree_are_backs next) sheets_are_backs

pub taken_later : (next later : ℕ) → next ≤ later → (e : Inverse) (page : Saved) → TakesEdit next e page → TakesEdit later e page
taken_later next later h (Tree e) page t = record {
  valid = valid-whole (page_of later page.tree) (whole-later h (whole-valid (page_of next page.tree) t.valid));
  taken = can-later next later e page.tree h t.taken;
}
taken_later next later h (Sheet s) page t = t

no_fault : (next : ℕ) (e : Inverse) (page : Saved) → TakesEdit next e page → MeetsNoFault e page
no_fault next (Tree e) page t = t.taken.fits
no_fault next (Sheet s) page t = t

all_no_fault : (next : ℕ) (es : List Inverse) (page : Saved)
    → AllTaken page_after (TakesEdit next) es page → AllTaken page_after MeetsNoFault es page
all_no_fault next [] page t = tt
all_no_fault next (e ∷ es) page t = (no_fault next e page t.0, all_no_fault next es (page_after e page) t.1)

pages_keep_on : (next : ℕ) → KeepsOn page_after way_back (TakesEdit next)
pages_keep_on next = keeps_on page_after way_back (TakesEdit next) (edits_are_backs next)

undo_leads : (next : ℕ) (kept : Marks Inverse) (m : Marks (HistoryEntry Saved Inverse)) (page : Saved) (es : List Inverse)
    → KeepsPages next kept m page → handed_out kept.past ≡ Some es → LeadsThrough es page (pages_undone m.past) (page_undone m.past page)
undo_leads next kept m page es k out =
    let u = ((pages_keep_on next).after_changes kept m page k).after_undo es out in
    record { no_fault = all_no_fault next es page u.taken; through = u.through; ends = u.ends }

redo_leads : (next : ℕ) (kept : Marks Inverse) (m : Marks (HistoryEntry Saved Inverse)) (page : Saved) (es : List Inverse)
    → KeepsPages next kept m page → handed_out kept.future ≡ Some es
    → LeadsThrough es page (pages_redone m.future) (page_redone m.future page)
redo_leads next kept m page es k out =
    let u = ((pages_keep_on next).after_changes kept m page k).after_redo es out in
    record { no_fault = all_no_fault next es page u.taken; through = u.through; ends = u.ends }

says_of_edits : (page : PageValue) (book : List SheetEntry) → SaysOfEdits page book
says_of_edits page book = record {
  tree_after = λ e. refl;
  tree_back = λ e. refl;
  tree_taken = λ e valid. ((λ t. t.taken), (λ can. record { valid = valid; taken = can }));
  sheet_after = λ s. λ i. record { tree = page.tree; sheets = after-saved s book i };
  sheet_back = λ s. ap (λ x. Sheet x) (back-saved s book);
  sheet_taken = λ s t. taken-saved s book t;
  sheet_fits = λ s t. fits-saved s book t;
}

pub saved_pages : SavedPagesLaw
saved_pages = record {
  keeps_on = pages_keep_on;
  later_serials = λ next later kept m page h k.
      kept_grow page_after way_back (TakesEdit next) (TakesEdit later) (taken_later next later h) kept m page k;
  undo_leads = undo_leads;
  redo_leads = redo_leads;
  of_pages = says_of_edits;
}
