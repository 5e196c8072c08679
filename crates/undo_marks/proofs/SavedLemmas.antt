-- Where the edits of a tree and the splices of sheets keep the three laws, edits of either do.
use Rattle.std.proofs.Common.{◌≡◌, List, ap}
use Rattle.node_tree.specs.Nodes.{Branch}
use Rattle.page_tree.specs.Pages.{PageRow}
use Rattle.page_tree.specs.declared.edits.TreeEdit.{TreeEdit}
use Rattle.style_edits.specs.declared.splice.Splice.{Splice}
use Rattle.undo_marks.specs.declared.inverse_lists.Inverse.{Inverse}
use Rattle.undo_marks.specs.declared.inverse_lists.Inverse.TheVariants.{Tree, Sheet}
use Rattle.undo_marks.specs.Saved.{SavedSheet, Saved, after_either, back_either, TakesEither}
use Rattle.undo_marks.specs.Changes.{AreBacks}

module _
    (after : TreeEdit → Branch PageRow → Branch PageRow) (back : TreeEdit → Branch PageRow → TreeEdit)
    (Takes : TreeEdit → Branch PageRow → Type 0)
    (spliced : Splice → List SavedSheet → List SavedSheet) (unspliced : Splice → List SavedSheet → Splice)
    (TakesSplice : Splice → List SavedSheet → Type 0)
    (tree : AreBacks after back Takes) (sheets : AreBacks spliced unspliced TakesSplice)
  where
    takes_back : (e : Inverse) (page : Saved) → TakesEither Takes TakesSplice e page
        → TakesEither Takes TakesSplice (back_either back unspliced e page) (after_either after spliced e page)
    takes_back (Tree e) page t = tree.takes_back e page.tree t
    takes_back (Sheet s) page t = sheets.takes_back s page.sheets t

    leads_back : (e : Inverse) (page : Saved) → TakesEither Takes TakesSplice e page
        → after_either after spliced (back_either back unspliced e page) (after_either after spliced e page) ≡ page
    leads_back (Tree e) page t = λ i. record { tree = tree.leads_back e page.tree t i; sheets = page.sheets }
    leads_back (Sheet s) page t = λ i. record { tree = page.tree; sheets = sheets.leads_back s page.sheets t i }

    back_back : (e : Inverse) (page : Saved) → TakesEither Takes TakesSplice e page
        → back_either back unspliced (back_either back unspliced e page) (after_either after spliced e page) ≡ e
    back_back (Tree e) page t = ap (λ x. Tree x) (tree.back_back e page.tree t)
    back_back (Sheet s) page t = ap (λ x. Sheet x) (sheets.back_back s page.sheets t)

    pub either_are_backs : AreBacks (after_either after spliced) (back_either back unspliced) (TakesEither Takes TakesSplice)
    either_are_backs = record { takes_back = takes_back; leads_back = leads_back; back_back = back_back }
