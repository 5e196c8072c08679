-- Facts that have one proof at most, and so hold where it is known only that there is a proof.
use Rattle.std.proofs.Common.{◌≡◌, ℕ, ◌<◌, ◌≤◌, ◌^◌, true, List, length, Option, Some, None, refl, ap}
use Rattle.std.specs.Prelude.{is_none, IsSomeAnd}
use Rattle.std.specs.Str.{IsCharBoundary}
use Rattle.std.proofs.Math.Logic.{∥∥₁_map, ∥∥₁_elim}
use Rattle.std.proofs.Props.{props}
use Rattle.node_tree.specs.Nodes.{Branch, map_branch}
use Rattle.page_tree.specs.Pages.{PageRow, row_label, times_in}
use Rattle.page_tree.specs.EditFaults.{CanInsert, CanAttach, IsReady, CanApply, first_fault}
use Rattle.page_tree.specs.declared.edits.TreeEdit.{TreeEdit}
use Rattle.page_tree.specs.declared.edits.TreeEdit.TheVariants.{SetAttr, DropAttr, SetText, Attach, Detach}
use Rattle.page_tree.specs.declared.edit_faults.EditFault.{EditFault}
use Rattle.selectors.specs.Ranges.{IsRangeOf}
use Rattle.css_tokens.specs.declared.token.Range.{Range}
use Rattle.sheet_reader.specs.Forms.{range}
use Rattle.sheet_reader.specs.declared.book.SheetEntry.{SheetEntry}
use Rattle.sheet_reader.specs.Books.{entry_of}
use Rattle.style_edits.specs.declared.splice.Splice.{Splice}
use Rattle.style_edits.specs.Splices.{FitsIn, FitsSplice, spliced}

-- ---- an edit of the tree

CanAttach-prop : (next : ℕ) (w tree : Branch PageRow) → IsProp (CanAttach next w tree)
CanAttach-prop next w tree x y =
    let formed_prop : IsProp (CanInsert (map_branch row_label w)) = hlevel props in
    let distinct_prop : IsProp ((serial : ℕ) → times_in serial w ≤ 1) = hlevel props in
    let least_prop : IsProp ((serial : ℕ) → 0 < times_in serial w → 1 ≤ serial) = hlevel props in
    let below_prop : IsProp ((serial : ℕ) → 0 < times_in serial w → serial < next) = hlevel props in
    let apart_prop : IsProp ((serial : ℕ) → 0 < times_in serial w → times_in serial tree ≡ 0) = hlevel props in
    λ i. record {
      formed = formed_prop x.formed y.formed i;
      distinct = distinct_prop x.distinct y.distinct i;
      least = least_prop x.least y.least i;
      below_next = below_prop x.below_next y.below_next i;
      apart = apart_prop x.apart y.apart i;
    }

ready : (next : ℕ) (e : TreeEdit) (tree : Branch PageRow) → ∥ IsReady next e tree ∥₁ → IsReady next e tree
ready next (SetAttr serial name value) tree h = tt
ready next (DropAttr serial name) tree h = tt
ready next (SetText serial value) tree h = tt
ready next (Attach parent before w) tree h = ∥∥₁_elim h (CanAttach-prop next w tree) (λ t. t)
ready next (Detach serial) tree h = tt

no-fault : (o : Option EditFault) → is_none o ≡ true → o ≡ None
no-fault None e = refl
no-fault (Some f) e = absurd cc

pub can-apply : (next : ℕ) (e : TreeEdit) (tree : Branch PageRow) → ∥ CanApply next e tree ∥₁ → CanApply next e tree
can-apply next e tree h =
    let fits_prop : IsProp (is_none (first_fault e tree) ≡ true) = hlevel props in
    record {
      fits = no-fault (first_fault e tree) (∥∥₁_elim h fits_prop (λ (t : CanApply next e tree). ap is_none t.fits));
      ready = ready next e tree (∥∥₁_map h (λ (t : CanApply next e tree). t.ready));
    }

-- ---- a splice

IsRangeOf-prop : (text : List ℕ) (r : Range) → IsProp (IsRangeOf text r)
IsRangeOf-prop text r x y =
    let order_prop : IsProp (r.start ≤ r.end) = hlevel props in
    let front_prop : IsProp (IsCharBoundary text r.start) = hlevel props in
    let back_prop : IsProp (IsCharBoundary text r.end) = hlevel props in
    λ i. record {
      order = order_prop x.order y.order i;
      front = front_prop x.front y.front i;
      back = back_prop x.back y.back i;
    }

FitsIn-prop : (s : Splice) (e : SheetEntry) → IsProp (FitsIn s e)
FitsIn-prop s e x y =
    let short_prop : IsProp (length (spliced e.text s.start s.end s.text) ≤ 2 ^ 24) = hlevel props in
    λ i. record { is = IsRangeOf-prop e.text (range s.start s.end) x.is y.is i; short = short_prop x.short y.short i }

pub fits-splice : (s : Splice) (book : List SheetEntry) → ∥ FitsSplice s book ∥₁ → FitsSplice s book
fits-splice s book h = at (entry_of s.sheet book) h where
  at : (o : Option SheetEntry) → ∥ IsSomeAnd o (FitsIn s) ∥₁ → IsSomeAnd o (FitsIn s)
  at None k = ∥∥₁_elim k (hlevel props) (λ t. t)
  at (Some e) k = ∥∥₁_elim k (FitsIn-prop s e) (λ t. t)
