-- A client's edits are noted by the edits that lead back, and these are kept for the state after them.
use Rattle.std.proofs.Common.{◌≡◌, ◌≤◌, ℕ, List, [], ◌∷◌, map, Option, Some, None, Ok, refl, sym, ap, ◌∙◌, subst, arith}
use Rattle.node_tree.specs.Nodes.{Branch, alone}
use Rattle.page_tree.specs.Pages.{PageRow, PageValue, IsValid}
use Rattle.page_tree.specs.Edits.{after, form_at}
use Rattle.page_tree.specs.EditFaults.{CanApplyAll}
use Rattle.page_tree.specs.declared.edits.TreeEdit.{TreeEdit}
use Rattle.page_tree.specs.declared.edit_faults.EditFault.{EditFault}
use Rattle.page_tree.proofs.EditLemmas.{valid-after}
use Rattle.page_tree.proofs.InsertLemmas.{next-stays, copy-leads}
use Rattle.page_tree.proofs.MoveLemmas.{move-leads}
use Rattle.sheet_reader.specs.declared.book.SheetEntry.{SheetEntry}
use Rattle.style_edits.specs.declared.splice.Splice.{Splice}
use Rattle.style_edits.specs.Splices.{after_splice, back_splice, after_splices}
use Rattle.css_agent.specs.EditLaws.{AllTake, back_splices}
use Rattle.dom_agent.specs.Laws.{RowsHaveUtf8}
use Rattle.undo_marks.specs.Marks.{Marks, noted_singly}
use Rattle.undo_marks.specs.Changes.{after_all, back_all, AllTaken}
use Rattle.undo_marks.specs.Saved.{Saved}
use Rattle.undo_marks.specs.SavedEdits.{saved_of, page_after, way_back}
use Rattle.undo_marks.specs.declared.inverse_lists.Inverse.{Inverse}
use Rattle.undo_marks.specs.declared.inverse_lists.Inverse.TheVariants.{Tree, Sheet}
use Rattle.undo_marks.proofs.SheetLemmas.{after-saved, back-saved, taken-saved}
use Rattle.back_end.specs.declared.desk.Desk.{Desk}
use Rattle.back_end.specs.declared.side.PageSide.{PageSide}
use Rattle.back_end.specs.declared.node_edits.TreeWish.{TreeWish}
use Rattle.back_end.specs.declared.node_edits.TreeWish.TheVariants.{One, MoveNode, CopyNode}
use Rattle.back_end.specs.Plans.{Plan, node_edit_fault, node_edit_plan, node_put}
use Rattle.back_end.specs.States.{State, page_nodes, book_in, HoldsNow, TakesWell, saved_now, Keeps}
use Rattle.back_end.specs.Steps.{Step, idle, with_page, with_marks, keeping, edit_step, edit_steps, splice_steps, plan_step}
use Rattle.back_end.specs.Steps.{planned_by_client, put_answer, unless_fault, node_edit_step}
use Rattle.back_end.specs.Texts.{IsPlainEdit}
use Rattle.back_end.specs.Seats.{DeskStandsFor, BothStandFor}
use Rattle.back_end.proofs.TextLemmas.{node_at-texts, branch-texts, form-texts, after-texts}
use Rattle.back_end.proofs.StepLemmas.{EditsHaveTexts, drawn-valid}
use Rattle.back_end.proofs.HistoryLemmas.{keeps-same, keeps-edited}
use Rattle.back_end.proofs.SpliceSteps.{restyled}
use Rattle.back_end.proofs.SeatLemmas.{marks-stands}
use Rattle.back_end.proofs.TreeSeats.{fault-here, put-state}

-- ---- edits of the tree

abbrev trees : List TreeEdit → List Inverse
trees es = map (λ e. Tree e) es

-- the page takes these edits, one after the other, and they lead to the page after them; the next serial stays
record Taken (es : List TreeEdit) (state : State) : Type 0 where
  taken : AllTaken page_after (TakesWell state.side.page.next) (trees es) (saved_now state)
  saved : saved_now (edit_steps es state).state ≡ after_all page_after (trees es) (saved_now state)
  next : (edit_steps es state).state.side.page.next ≡ state.side.page.next
  marks : (edit_steps es state).state.client.marks ≡ state.client.marks

taken-all : (es : List TreeEdit) (state : State) → IsValid state.side.page → RowsHaveUtf8 (page_nodes state)
    → CanApplyAll es state.side.page → EditsHaveTexts es → Taken es state
taken-all [] state valid texts can own = record { taken = tt; saved = refl; next = refl; marks = refl }
taken-all (e ∷ es) state valid texts can own =
    let page = state.side.page in
    let stays : (after e page).next ≡ page.next = next-stays page e can.0 in
    let later = taken-all es (edit_step e state).state (valid-after page e valid can.0) (after-texts e page.tree own.0 texts) can.1 own.1 in
    record {
      taken = (
        record { taken = record { valid = valid; taken = can.0 }; texts = texts; own = own.0 },
        subst (λ (n : ℕ). AllTaken page_after (TakesWell n) (trees es) (saved_now (edit_step e state).state)) stays later.taken,
      );
      saved = later.saved;
      next = later.next ∙ stays;
      marks = later.marks;
    }

-- what a client's edit of known nodes begins with, and that its edits are taken
record Begins (state : State) (plan : Plan) : Type 0 where
  page : IsValid plan.page
  same : plan.page.tree ≡ state.side.page.tree
  serials : state.side.page.next ≤ plan.page.next
  can : CanApplyAll plan.edits plan.page
  texts : EditsHaveTexts plan.edits

begins : (state : State) (e : TreeWish) → HoldsNow state → IsPlainEdit e → node_edit_fault e state.side.page ≡ None
    → Begins state (node_edit_plan e state.side.page)
begins state (One e) is plain fits = record {
  page = is.page;
  same = refl;
  serials = omega arith;
  can = (record { fits = fits; ready = plain.1 state.side.page.next state.side.page.tree }, tt);
  texts = (plain.0, tt);
}
begins state (MoveNode serial parent before) is plain fits = record {
  page = is.page;
  same = refl;
  serials = omega arith;
  can = move-leads state.side.page serial parent before is.page fits;
  texts = (tt, (node_at-texts serial state.side.page.tree is.texts, tt));
}
begins state (CopyNode serial parent before) is plain fits = record {
  page = drawn-valid (form_at serial state.side.page.tree) state.side.page is.page;
  same = refl;
  serials = omega arith;
  can = (copy-leads state.side.page serial parent before is.page fits).taken;
  texts = (branch-texts state.side.page.next (form_at serial state.side.page.tree) (form-texts serial state.side.page.tree is.texts), tt);
}

-- the answer by a node's id keeps the history
put-kept : (h : Marks Inverse) (id : ℕ) (put : Option ℕ) (done : Step) → Keeps h done.state → Keeps h (put_answer id put done).state
put-kept h id None done k = k
put-kept h id (Some node) done k = keeps-same h done.state (put_answer id (Some node) done).state k refl refl (omega arith)

-- and knows nothing of it
put-marks : (id : ℕ) (put : Option ℕ) (es : List Inverse) (state : State) (done : Step)
    → with_marks (keeping es state done).state.client.marks (put_answer id put done).state
    ≡ (put_answer id put (keeping es state done)).state
put-marks id None es state done = refl
put-marks id (Some node) es state done = refl

abbrev plan_of : TreeWish → State → Plan
plan_of e state = node_edit_plan e state.side.page

-- what is noted of an edit that was carried out is kept
planned-kept : (h : Marks Inverse) (state : State) (e : TreeWish) → Keeps h state → HoldsNow state → IsPlainEdit e
    → node_edit_fault e state.side.page ≡ None
    → Keeps (noted_singly (back_all page_after way_back (trees (plan_of e state).edits) (saved_now state)) h)
    (planned_by_client (plan_of e state) state).state
planned-kept h state e k is plain fits =
    let plan = plan_of e state in
    let b = begins state e is plain fits in
    let first = with_page plan.page state in
    let texts : RowsHaveUtf8 (page_nodes first) = subst (λ (tree : Branch PageRow). RowsHaveUtf8 (alone tree)) (sym b.same) is.texts in
    let t = taken-all plan.edits first b.page texts b.can b.texts in
    let same : saved_now first ≡ saved_now state = ap (λ (tree : Branch PageRow). saved_of tree (book_in state)) b.same in
    let last : plan.page.next ≡ (plan_step plan state).state.side.page.next = sym t.next in
    keeps-edited h (trees plan.edits) state (plan_step plan state) k
    (subst (λ (n : ℕ). AllTaken page_after (TakesWell n) (trees plan.edits) (saved_now state)) last
    (subst (λ (page : Saved). AllTaken page_after (TakesWell plan.page.next) (trees plan.edits) page) same t.taken))
    (t.saved ∙ ap (λ (page : Saved). after_all page_after (trees plan.edits) page) same)
    (omega (arith, b.serials, last))

-- the page at the desk is the state's
saved-here : (d : Desk) (s : PageSide) (state : State) → DeskStandsFor d s state → saved_of s.page.tree s.sheets.entries ≡ saved_now state
saved-here d s state stands = ap (λ (p : PageValue). saved_of p.tree s.sheets.entries) stands.page_is ∙ ap
    (saved_of state.side.page.tree) stands.sheets_are

-- an edit that was carried out, noted and answered
pub edited-both : (d d1 : Desk) (h h1 : Marks Inverse) (s s1 : PageSide) (state : State) (id : ℕ) (e : TreeWish) (put : Option ℕ)
    → BothStandFor d h s state → IsPlainEdit e
    → node_edit_fault e s.page ≡ None → put ≡ node_put e s.page
    → h1 ≡ noted_singly (back_all page_after way_back (trees (node_edit_plan e s.page).edits) (saved_of s.page.tree s.sheets.entries)) h
    → DeskStandsFor d1 s1 (put_answer id put (idle (plan_step (plan_of e state) state).state)).state
    → BothStandFor d1 h1 s1 (node_edit_step id (Ok e) state).state
edited-both d d1 h h1 s s1 state id e put both plain fits put_is noted stands =
    let plan = plan_of e state in
    let es = trees plan.edits in
    let done = plan_step plan state in
    let here : put ≡ node_put e state.side.page = put_is ∙ ap (λ (p : PageValue). node_put e p) both.stands.page_is in
    let none : node_edit_fault e state.side.page ≡ None = fault-here s state e None both.stands.page_is fits in
    let last : h1 ≡ noted_singly (back_all page_after way_back es (saved_now state)) h =
    noted ∙ ap (λ (p : PageValue). noted_singly
    (back_all page_after way_back (trees (node_edit_plan e p).edits) (saved_of s.page.tree s.sheets.entries)) h) both.stands.page_is
    ∙ ap (λ (page : Saved). noted_singly (back_all page_after way_back es page) h) (saved-here d s state both.stands) in
    let kept : Keeps h1 (planned_by_client plan state).state = subst (λ (x : Marks Inverse). Keeps x (planned_by_client plan state).state)
    (sym last) (planned-kept h state e both.kept both.stands.now plain none) in
    let desk : DeskStandsFor d1 s1 (put_answer id put (planned_by_client plan state)).state =
    subst (λ (z : State). DeskStandsFor d1 s1 z) (put-marks id put es state done)
    (marks-stands (planned_by_client plan state).state.client.marks d1 s1 (put_answer id put done).state
    (subst (λ (z : State). DeskStandsFor d1 s1 z) (put-state id put done) stands)) in
    subst (λ (o : Option EditFault). BothStandFor d1 h1 s1 (unless_fault id o e state).state) (sym none)
    (subst (λ (o : Option ℕ). BothStandFor d1 h1 s1 (put_answer id o (planned_by_client plan state)).state) here
    (record { stands = desk; kept = put-kept h1 id put (planned_by_client plan state) kept }))

-- ---- edits of sheets

abbrev sheets : List Splice → List Inverse
sheets ss = map (λ s. Sheet s) ss

after-book : (s : Splice) (tree : Branch PageRow) (book : List SheetEntry)
    → page_after (Sheet s) (saved_of tree book) ≡ saved_of tree (after_splice s book)
after-book s tree book = λ i. record { tree = tree; sheets = after-saved s book i }

-- the splices that lead back are those of the saved page
backs-saved : (ss : List Splice) (tree : Branch PageRow) (book : List SheetEntry)
    → back_all page_after way_back (sheets ss) (saved_of tree book) ≡ sheets (back_splices ss book)
backs-saved [] tree book = refl
backs-saved (s ∷ ss) tree book =
    ap (λ (x : Splice). Sheet x ∷ back_all page_after way_back (sheets ss) (page_after (Sheet s) (saved_of tree book))) (back-saved s book)
    ∙ ap (λ (page : Saved). Sheet (back_splice s book) ∷ back_all page_after way_back (sheets ss) page) (after-book s tree book)
    ∙ ap (λ (l : List Inverse). Sheet (back_splice s book) ∷ l) (backs-saved ss tree (after_splice s book))

afters-saved : (ss : List Splice) (tree : Branch PageRow) (book : List SheetEntry)
    → after_all page_after (sheets ss) (saved_of tree book) ≡ saved_of tree (after_splices ss book)
afters-saved [] tree book = refl
afters-saved (s ∷ ss) tree book =
    ap (λ (page : Saved). after_all page_after (sheets ss) page) (after-book s tree book) ∙ afters-saved ss tree (after_splice s book)

splices-taken : (next : ℕ) (ss : List Splice) (tree : Branch PageRow) (book : List SheetEntry) → RowsHaveUtf8 (alone tree) → AllTake ss book
    → AllTaken page_after (TakesWell next) (sheets ss) (saved_of tree book)
splices-taken next [] tree book texts all = tt
splices-taken next (s ∷ ss) tree book texts all = (
  record { taken = taken-saved s book all.0; texts = texts; own = all.0.text },
  subst (λ (page : Saved). AllTaken page_after (TakesWell next) (sheets ss) page) (sym (after-book s tree book))
      (splices-taken next ss tree (after_splice s book) texts all.1),
)

-- what is noted of splices that were made is kept
pub restyled-kept : (h h1 : Marks Inverse) (state : State) (ss backs : List Splice) → Keeps h state → HoldsNow state
    → AllTake ss (book_in state) → backs ≡ back_splices ss (book_in state)
    → h1 ≡ noted_singly (sheets backs) h → Keeps h1 (keeping (sheets ss) state (splice_steps ss state)).state
restyled-kept h h1 state ss backs k is all backs_is noted =
    let tree = state.side.page.tree in
    let r = restyled ss state is all in
    let last : h1 ≡ noted_singly (back_all page_after way_back (sheets ss) (saved_now state)) h =
    noted ∙ ap (λ (l : List Splice). noted_singly (sheets l) h) backs_is ∙ ap (λ (l : List Inverse). noted_singly l h)
    (sym (backs-saved ss tree (book_in state))) in
    let next : (splice_steps ss state).state.side.page.next ≡ state.side.page.next = ap (λ (p : PageValue). p.next) r.page in
    let saved : saved_now (splice_steps ss state).state ≡ after_all page_after (sheets ss) (saved_now state) =
    ap (λ (p : PageValue). saved_of p.tree (book_in (splice_steps ss state).state)) r.page ∙ ap (saved_of tree) r.book ∙ sym
    (afters-saved ss tree (book_in state)) in
    subst (λ (x : Marks Inverse). Keeps x (keeping (sheets ss) state (splice_steps ss state)).state) (sym last)
    (keeps-edited h (sheets ss) state (splice_steps ss state) k
    (splices-taken (splice_steps ss state).state.side.page.next ss tree (book_in state) is.texts all) saved (omega (arith, next)))
