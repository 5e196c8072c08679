-- A client's edit of sheets: each splice leads to a state, the sheets after it are the book after it, and its moves lead on; and the
-- command is answered once.
use Rattle.std.proofs.Common.{◌≡◌, ℕ, ◌+◌, ◌^◌, ◌<◌, ◌≤◌, ◌==◌, Bool, true, false, cond, List, [], ◌∷◌, ◌++◌, length, map, take, drop, suc}
use Rattle.std.proofs.Common.{Option, Some, Ok, Err, refl, sym, ap, ◌∙◌, subst, arith}
use Rattle.std.specs.Prelude.{unwrap_or, option_map}
use Rattle.std.specs.Str.{IsUtf8}
use Rattle.std.proofs.lemmas.List.{length-map}
use Rattle.std.proofs.lemmas.Str.{IsUtf8-append, IsUtf8-take, IsUtf8-drop}
use Rattle.cdp_json.specs.Kinds.{is_counted}
use Rattle.node_tree.specs.Nodes.{Branch, alone}
use Rattle.page_tree.specs.Pages.{PageRow, PageValue}
use Rattle.sheet_reader.specs.declared.book.SheetEntry.{SheetEntry}
use Rattle.sheet_reader.specs.Books.{entry_of, book_changed}
use Rattle.style_edits.specs.declared.splice.Splice.{Splice}
use Rattle.style_edits.specs.Splices.{spliced, with_text, after_by, after_splice, after_splices, TakesSplice}
use Rattle.style_edits.specs.declared.edits.StyleEdit.{StyleEdit}
use Rattle.style_edits.specs.Edits.{Found as SpliceFound, style_splice}
use Rattle.style_edits.proofs.BookForms.{entry_id}
use Rattle.page_forms.specs.Sheets.{max_sheet_bytes}
use Rattle.client_views.specs.declared.effects.Effect.TheVariants.{NothingElse}
use Rattle.client_views.specs.Effects.{effect_of_method}
use Rattle.client_views.specs.Views.{ShownSheet, shows_sheet, sheets_with_text}
use Rattle.client_views.specs.Moves.{Move, rewritten, replied}
use Rattle.cdp_messages.specs.declared.css_edit.CssEdit.{CssEdit}
use Rattle.cdp_messages.specs.declared.css_edit.CssEdit.TheVariants as edit
use Rattle.css_agent.specs.Edits.{CssDone, CssEdited, css_edited, style_edit, one_splice, splices_on, style_splices, css_splices}
use Rattle.css_agent.specs.Edits.{splice_moves, text_under}
use Rattle.css_agent.specs.EditLaws.{HasEditTexts, AllTake, IsDone, css_edit_name}
use Rattle.css_agent.proofs.EditResults.{edits-done}
use Rattle.css_agent.proofs.DoneLemmas.{all-stored}
use Rattle.back_end.specs.OwnMethods.{sheet_why}
use Rattle.back_end.specs.Sheets.{entry_of_sheet, as_book, AscendBetween, AreSheetTexts, AreSheetsBelow}
use Rattle.dom_agent.specs.Laws.{RowsHaveUtf8}
use Rattle.undo_marks.specs.Changes.{after_all, AllTaken}
use Rattle.undo_marks.specs.Saved.{SavedSheet, Saved}
use Rattle.undo_marks.specs.SavedEdits.{saved_sheet, saved_of, sheets_after, page_after}
use Rattle.undo_marks.specs.declared.inverse_lists.Inverse.{Inverse}
use Rattle.undo_marks.specs.declared.inverse_lists.Inverse.TheVariants.{Sheet}
use Rattle.undo_marks.proofs.SheetLemmas.{after-saved, taken-saved}
use Rattle.back_end.specs.States.{page_shown, Client, State, book_in, HoldsNow, saved_now, TakesWell, IsState}
use Rattle.back_end.specs.Steps.{Step, splice_step, splice_steps, keeping, restyled_step, sheet_edit_step}
use Rattle.back_end.specs.Laws.{HasRoom, most_splices}
use Rattle.back_end.proofs.SheetLemmas.{same-test, own-test, can-tell-sheets, below-none, book-stored, entry-stands}
use Rattle.back_end.proofs.SheetSteps.{change-course}
use Rattle.back_end.proofs.TurnAnswers.{AreEvents, events-append}
use Rattle.back_end.proofs.WellSteps.{Well, HasNumbers, room-numbers, told-with, stays, stays-with, then-well, more, well-marked}
use Rattle.back_end.proofs.GroupCounts.{trees_in}
use Rattle.back_end.proofs.KeptSteps.{Recalls, recalls-edited, recalls-more, steps-well}
use Rattle.back_end.proofs.AnsweredSteps.{Answered, reply-answered, refusal-answered}

-- ---- a sheet with another text

-- the book of sheets of which one has another text
record TextPut (n : ℕ) (text : List ℕ) (e : SheetEntry) (ss : List ShownSheet) : Type 0 where
  book : book_changed (with_text e text) (as_book ss) ≡ as_book (sheets_with_text n text ss)
  told : text_under n (as_book (sheets_with_text n text ss)) ≡ text

text-put : (n : ℕ) (text : List ℕ) (ss : List ShownSheet) (e : SheetEntry) → entry_of n (as_book ss) ≡ Some e → TextPut n text e ss
text-put n text [] e h = absurd cc
text-put n text (s ∷ ss) e h = at (n == s.number) refl h (λ k. text-put n text ss e k) where
  put : ShownSheet
  put = record s { text = text }

  text_in : Option SheetEntry → List ℕ
  text_in o = unwrap_or (option_map (λ x. x.text) o) []

  at : (b : Bool) → (n == s.number) ≡ b → cond b (Some (entry_of_sheet s)) (entry_of n (as_book ss)) ≡ Some e
      → (entry_of n (as_book ss) ≡ Some e → TextPut n text e ss)
      → TextPut n text e (s ∷ ss)
  at true t k later =
      let same : entry_of_sheet s ≡ e = cc in
      let test : (s.number == n) ≡ true = same-test s.number n ∙ t in
      let is : sheets_with_text n text (s ∷ ss) ≡ put ∷ ss = ap (λ (b : Bool). cond b (put ∷ ss) (s ∷ sheets_with_text n text ss)) test in
      let own : book_changed (with_text (entry_of_sheet s) text) (as_book (s ∷ ss)) ≡ as_book (put ∷ ss) =
      ap (λ (b : Bool). cond b (entry_of_sheet put ∷ as_book ss) (entry_of_sheet s ∷ book_changed (entry_of_sheet put) (as_book ss)))
      (own-test s.number) in
      record {
        book = ap (λ (x : SheetEntry). book_changed (with_text x text) (as_book (s ∷ ss))) (sym same) ∙ own ∙ ap
            (λ (xs : List ShownSheet). as_book xs) (sym is);
        told = ap (λ (xs : List ShownSheet). text_under n (as_book xs)) is ∙ ap
            (λ (b : Bool). text_in (cond b (Some (entry_of_sheet put)) (entry_of n (as_book ss)))) t;
      }
  at false t k later =
      let test : (s.number == n) ≡ false = same-test s.number n ∙ t in
      let rest = later k in
      let id : e.id ≡ n = entry_id n (as_book ss) e k in
      let is : sheets_with_text n text (s ∷ ss)
      ≡ s ∷ sheets_with_text n text ss = ap (λ (b : Bool). cond b (put ∷ ss) (s ∷ sheets_with_text n text ss)) test in
      record {
        book = ap (λ (m : ℕ). cond (m == s.number) (with_text e text ∷ as_book ss)
            (entry_of_sheet s ∷ book_changed (with_text e text) (as_book ss))) id
            ∙ ap (λ (b : Bool). cond b (with_text e text ∷ as_book ss) (entry_of_sheet s ∷ book_changed (with_text e text) (as_book ss))) t
            ∙ ap (λ (es : List SheetEntry). entry_of_sheet s ∷ es) rest.book
            ∙ ap (λ (xs : List ShownSheet). as_book xs) (sym is);
        told = ap (λ (xs : List ShownSheet). text_under n (as_book xs)) is
            ∙ ap (λ (b : Bool). text_in (cond b (Some (entry_of_sheet s)) (entry_of n (as_book (sheets_with_text n text ss))))) t
            ∙ rest.told;
      }

ascend-put : (n : ℕ) (text : List ℕ) (least next : ℕ) (ss : List ShownSheet) → AscendBetween least next ss
    → AscendBetween least next (sheets_with_text n text ss)
ascend-put n text least next [] all = all
ascend-put n text least next (s ∷ ss) all = at (s.number == n) (ascend-put n text (s.number + 1) next ss all.1) where
  at : (b : Bool) → AscendBetween (s.number + 1) next (sheets_with_text n text ss)
      → AscendBetween least next (cond b (record s { text = text } ∷ ss) (s ∷ sheets_with_text n text ss))
  at true later = (all.0, all.1)
  at false later = (all.0, later)

texts-put : (n : ℕ) (text : List ℕ) (ss : List ShownSheet) → IsUtf8 text → length text ≤ max_sheet_bytes → AreSheetTexts ss
    → AreSheetTexts (sheets_with_text n text ss)
texts-put n text [] utf8 short all = tt
texts-put n text (s ∷ ss) utf8 short all = at (s.number == n) (texts-put n text ss utf8 short all.2) where
  at : (b : Bool) → AreSheetTexts (sheets_with_text n text ss)
      → AreSheetTexts (cond b (record s { text = text } ∷ ss) (s ∷ sheets_with_text n text ss))
  at true later = (utf8, short, all.2)
  at false later = (all.0, all.1, later)

count-put : (n : ℕ) (text : List ℕ) (ss : List ShownSheet) → length (sheets_with_text n text ss) ≡ length ss
count-put n text [] = refl
count-put n text (s ∷ ss) = at (s.number == n) (count-put n text ss) where
  at : (b : Bool) → length (sheets_with_text n text ss) ≡ length ss
      → length (cond b (record s { text = text } ∷ ss) (s ∷ sheets_with_text n text ss)) ≡ length (s ∷ ss)
  at true later = refl
  at false later = ap (λ m. suc m) later

sheets-put : (next n : ℕ) (text : List ℕ) (ss : List ShownSheet) → IsUtf8 text → length text ≤ max_sheet_bytes → AreSheetsBelow next ss
    → AreSheetsBelow next (sheets_with_text n text ss)
sheets-put next n text ss utf8 short is =
    let count = count-put n text ss in
    record {
      numbers = ascend-put n text 1 next ss is.numbers;
      few = omega (arith, count, is.few);
      texts = texts-put n text ss utf8 short is.texts;
    }

-- ---- one splice

-- the text that the splice makes, which the sheet has from then on
record Puts (s : Splice) (ss : List ShownSheet) : Type 0 where
  book : after_splice s (as_book ss) ≡ as_book (sheets_with_text s.sheet (text_under s.sheet (after_splice s (as_book ss))) ss)
  utf8 : IsUtf8 (text_under s.sheet (after_splice s (as_book ss)))
  short : length (text_under s.sheet (after_splice s (as_book ss))) ≤ max_sheet_bytes
  shows : shows_sheet s.sheet ss ≡ true

splice-puts : (s : Splice) (ss : List ShownSheet) → TakesSplice s (as_book ss) → Puts s ss
splice-puts s ss t =
    let e = t.sheet in
    let new : List ℕ = spliced e.text s.start s.end s.text in
    let p = text-put s.sheet new ss e t.found in
    let whole : after_splice s (as_book ss)
    ≡ as_book (sheets_with_text s.sheet new ss) = ap (λ (o : Option SheetEntry). after_by s (as_book ss) o) t.found ∙ p.book in
    let text : text_under s.sheet (after_splice s (as_book ss))
    ≡ new = ap (λ (es : List SheetEntry). text_under s.sheet es) whole ∙ p.told in
    let front = IsUtf8-take e.text s.start t.stored.utf8 t.fits.is.front in
    let behind = IsUtf8-append s.text (drop s.end e.text) t.text (IsUtf8-drop e.text s.end t.stored.utf8 t.fits.is.back) in
    let utf8 : IsUtf8 new = IsUtf8-append (take s.start e.text) (s.text ++ drop s.end e.text) front behind in
    record {
      book = whole ∙ ap (λ (x : List ℕ). as_book (sheets_with_text s.sheet x ss)) (sym text);
      utf8 = subst IsUtf8 (sym text) utf8;
      short = subst (λ (x : List ℕ). length x ≤ max_sheet_bytes) (sym text) t.fits.short;
      shows = (entry-stands s.sheet ss e t.found).shows;
    }

splice-below : (s : Splice) (state : State) → HoldsNow state → TakesSplice s (book_in state)
    → AreSheetsBelow state.side.next_sheet (splice_step s state).state.side.sheets
splice-below s state is t =
    let p = splice-puts s state.side.sheets t in
    sheets-put state.side.next_sheet s.sheet
    (text_under s.sheet (after_splice s (book_in state))) state.side.sheets p.utf8 p.short is.sheets

pub splice-is : (s : Splice) (state : State) → HoldsNow state → TakesSplice s (book_in state) → HoldsNow (splice_step s state).state
splice-is s state is t = record {
  page = is.page;
  texts = is.texts;
  sheets = splice-below s state is t;
  session = is.session;
  off = is.off;
  css_off = is.css_off;
  all_shown = is.all_shown;
  watched = is.watched;
  none_watched = is.none_watched;
}

-- the sheets after a splice are the book after it
pub splice-book : (s : Splice) (state : State) → TakesSplice s (book_in state)
    → after_splice s (book_in state) ≡ book_in (splice_step s state).state
splice-book s state t = (splice-puts s state.side.sheets t).book

pub splice-well : (s : Splice) (state : State) → HoldsNow state → HasNumbers state → TakesSplice s (book_in state)
    → Well state (splice_step s state) 0 0 0
splice-well s state is low t =
    let p = splice-puts s state.side.sheets t in
    let next = state.side.next_sheet in
    let text = text_under s.sheet (after_splice s (book_in state)) in
    let old = can-tell-sheets next state.side.sheets (omega (arith, low.sheets)) is.sheets in
    let new = can-tell-sheets next (splice_step s state).state.side.sheets (omega (arith, low.sheets)) (splice-below s state is t) in
    let nothing = can-tell-sheets next [] (omega (arith, low.sheets)) (below-none next state.side.sheets is.sheets) in
    record {
      now = splice-is s state is t;
      course = change-course state.client.session (page_shown state) state.side.sheets (splice_step s state).state.side.sheets
          (rewritten s.sheet text) state.client.css_on
          (λ sheets k. told-with state sheets is low k) old new nothing (λ tree. (refl, p.shows));
      few_ids = omega arith;
      few_serials = omega arith;
      few_sheets = omega arith;
      given = refl;
    }

-- ---- splices, one after the other

-- each can be made where the ones before it led
taken-on : (s : Splice) (ss : List Splice) (state : State) → AllTake (s ∷ ss) (book_in state)
    → AllTake ss (book_in (splice_step s state).state)
taken-on s ss state all = subst (λ (book : List SheetEntry). AllTake ss book) (splice-book s state all.0) all.1

-- what becomes of a state by splices
pub record Restyled (ss : List Splice) (state : State) : Type 0 where
  pub now : HoldsNow (splice_steps ss state).state
  pub client : (splice_steps ss state).state.client ≡ state.client
  pub page : (splice_steps ss state).state.side.page ≡ state.side.page
  pub next : (splice_steps ss state).state.side.next_sheet ≡ state.side.next_sheet
  pub medium : (splice_steps ss state).state.side.medium ≡ state.side.medium
  pub book : book_in (splice_steps ss state).state ≡ after_splices ss (book_in state)

pub restyled : (ss : List Splice) (state : State) → HoldsNow state → AllTake ss (book_in state) → Restyled ss state
restyled [] state is all = record { now = is; client = refl; page = refl; next = refl; medium = refl; book = refl }
restyled (s ∷ ss) state is all =
    let later = restyled ss (splice_step s state).state (splice-is s state is all.0) (taken-on s ss state all) in
    record {
      now = later.now;
      client = later.client;
      page = later.page;
      next = later.next;
      medium = later.medium;
      book = later.book ∙ ap (λ (book : List SheetEntry). after_splices ss book) (sym (splice-book s state all.0));
    }

splices-well : (ss : List Splice) (state : State) → HoldsNow state → HasNumbers state → AllTake ss (book_in state)
    → Well state (splice_steps ss state) 0 0 0
splices-well [] state is low all = stays state is low
splices-well (s ∷ ss) state is low all =
    let next : HasNumbers (splice_step s state).state = record { ids = low.ids; serials = low.serials; sheets = low.sheets } in
    then-well (splice-well s state is low all.0)
    (splices-well ss (splice_step s state).state (splice-is s state is all.0) next (taken-on s ss state all))

pub splice-events : (s : Splice) (state : State) → AreEvents (splice_step s state).moves
splice-events s state = at state.client.css_on where
  at : (b : Bool) → AreEvents (cond b (rewritten s.sheet (text_under s.sheet (after_splice s (book_in state))) ∷ []) [])
  at true = (tt, tt)
  at false = tt

splices-events : (ss : List Splice) (state : State) → AreEvents (splice_steps ss state).moves
splices-events [] state = tt
splices-events (s ∷ ss) state =
    events-append (splice_step s state).moves (splice_steps ss (splice_step s state).state).moves (splice-events s state)
    (splices-events ss (splice_step s state).state)

-- while the domain CSS is on, they are told by the moves of these splices
pub splices-told : (ss : List Splice) (state : State) → state.client.css_on ≡ true → AllTake ss (book_in state)
    → (splice_steps ss state).moves ≡ splice_moves ss (book_in state)
splices-told [] state on all = refl
splices-told (s ∷ ss) state on all =
    let text = text_under s.sheet (after_splice s (book_in state)) in
    let later = splices-told ss (splice_step s state).state on (taken-on s ss state all) in
    ap (λ (b : Bool). cond b (rewritten s.sheet text ∷ []) [] ++ (splice_steps ss (splice_step s state).state).moves) on
    ∙ ap (λ (ms : List Move). rewritten s.sheet text ∷ ms)
    (later ∙ ap (λ (book : List SheetEntry). splice_moves ss book) (sym (splice-book s state all.0)))

-- ---- splices are kept

-- a splice makes of the saved page what the book says
pub splice-saved : (s : Splice) (state : State) → TakesSplice s (book_in state)
    → saved_now (splice_step s state).state ≡ page_after (Sheet s) (saved_now state)
splice-saved s state t =
    let book : after_splice s (book_in state) ≡ book_in (splice_step s state).state = splice-book s state t in
    let sheets : map saved_sheet (book_in (splice_step s state).state) ≡ sheets_after s (map saved_sheet (book_in state)) =
    ap (λ (b : List SheetEntry). map saved_sheet b) (sym book) ∙ sym (after-saved s (book_in state)) in
    λ i. record { tree = state.side.page.tree; sheets = sheets i }

-- splices as they are kept
abbrev pub as_kept : List Splice → List Inverse
as_kept ss = map (λ s. Sheet s) ss

pub splices-saved : (ss : List Splice) (state : State) → AllTake ss (book_in state)
    → saved_now (splice_steps ss state).state ≡ after_all page_after (as_kept ss) (saved_now state)
splices-saved [] state all = refl
splices-saved (s ∷ ss) state all =
    splices-saved ss (splice_step s state).state (taken-on s ss state all) ∙ ap (λ (p : Saved). after_all page_after (as_kept ss) p)
    (splice-saved s state all.0)

-- and each is taken by the saved page
pub splices-taken : (next : ℕ) (tree : Branch PageRow) (ss : List Splice) (book : List SheetEntry) → RowsHaveUtf8 (alone tree)
    → AllTake ss book
    → AllTaken page_after (TakesWell next) (as_kept ss) (saved_of tree book)
splices-taken next tree [] book texts all = tt
splices-taken next tree (s ∷ ss) book texts all =
    let rest : AllTaken page_after (TakesWell next) (as_kept ss) (saved_of tree (after_splice s book)) = splices-taken next tree ss
    (after_splice s book) texts all.1 in (
      record { taken = taken-saved s book all.0; texts = texts; own = all.0.text },
      subst (λ (sheets : List SavedSheet). AllTaken page_after (TakesWell next) (as_kept ss) (record { tree = tree; sheets = sheets }))
          (sym (after-saved s book)) rest,
    )

no-trees : (ss : List Splice) → trees_in (as_kept ss) ≡ 0
no-trees [] = refl
no-trees (s ∷ ss) = omega (arith, no-trees ss)

-- a command comes to no more splices than it may
one-few : (r : SpliceFound) → length (one_splice r) ≤ 1
one-few (Ok s) = omega arith
one-few (Err f) = omega arith

on-few : (r : SpliceFound) (n : ℕ) (book : List SheetEntry) (rest : List SheetEntry → List Splice)
    → ((next : List SheetEntry) → length (rest next) ≤ n) → length (splices_on r book rest) ≤ suc n
on-few (Ok s) n book rest few = omega (arith, few (after_splice s book))
on-few (Err f) n book rest few = omega arith

styles-few : (xs : List StyleEdit) (book : List SheetEntry) → length (style_splices xs book) ≤ length xs
unfolding style_splices
styles-few [] book = omega arith
styles-few (x ∷ xs) book = on-few (style_splice x book) (length xs) book (λ next. style_splices xs next) (λ next. styles-few xs next)

pub splices-few : (x : CssEdit) (book : List SheetEntry) → length (css_splices book x) ≤ most_splices x
splices-few (edit.SetStyleTexts edits) book = omega (arith, styles-few (map style_edit edits) book, length-map edits style_edit)
splices-few (edit.SetRuleSelector sheet range selector) book = one-few _
splices-few (edit.SetStyleSheetText sheet text) book = one-few _
splices-few (edit.AddRule sheet rule_text location) book = one-few _
splices-few (edit.SetMediaText sheet range text) book = one-few _

-- ---- an edit

pub edit-done : (x : CssEdit) (d : CssDone) (state : State) → HoldsNow state → state.side.next_sheet ≤ 2 ^ 53 → HasEditTexts x
    → css_edited (book_in state) x ≡ Ok d
    → IsDone (book_in state) x d
edit-done x d state is low texts e = edits-done (book_in state) x d
    (all-stored (book_in state) (book-stored state.side.next_sheet state.side.sheets low is.sheets)) texts e

-- the client's step by these splices
abbrev pub spliced_by_client : List Splice → State → Step
spliced_by_client ss state = keeping (as_kept ss) state (splice_steps ss state)

-- the history is kept on
pub splices-recall : (ss : List Splice) (state : State) → IsState state → AllTake ss (book_in state)
    → Recalls state (spliced_by_client ss state).state 0 (length ss)
splices-recall ss state is all =
    let done : Step = splice_steps ss state in
    let after = restyled ss state is.now all in
    let same : state.side.page.next ≡ done.state.side.page.next = ap (λ (p : PageValue). p.next) (sym after.page) in
    let taken : AllTaken page_after (TakesWell done.state.side.page.next) (as_kept ss) (saved_now state) =
    splices-taken done.state.side.page.next state.side.page.tree ss (book_in state) is.now.texts all in
    let recalls = recalls-edited (as_kept ss) state done is.history taken (splices-saved ss state all) (omega (arith, same)) in
    recalls-more (omega (arith, no-trees ss)) (omega (arith, length-map ss (λ (s : Splice). Sheet s))) recalls

plain-effect : (x : CssEdit) → effect_of_method (css_edit_name x) ≡ NothingElse
plain-effect (edit.SetStyleTexts edits) = refl
plain-effect (edit.SetRuleSelector sheet range selector) = refl
plain-effect (edit.SetStyleSheetText sheet text) = refl
plain-effect (edit.AddRule sheet rule_text location) = refl
plain-effect (edit.SetMediaText sheet range text) = refl

-- it is answered once, by a result of its method
pub sheet-edit-answered : (id : ℕ) (x : CssEdit) (state : State) (sheet : Option ℕ) → IsState state → HasRoom state → HasEditTexts x
    → is_counted id ≡ true
    → Answered (css_edit_name x) sheet id (most_splices x) state (sheet_edit_step id x state)
sheet-edit-answered id x state sheet is room texts small = at (css_edited (book_in state) x) refl where
  ss : List Splice
  ss = css_splices (book_in state) x

  low : HasNumbers state
  low = room-numbers state room

  at : (r : CssEdited) → css_edited (book_in state) x ≡ r
      → Answered (css_edit_name x) sheet id (most_splices x) state (restyled_step id r ss state)
  at (Err f) e = refusal-answered (css_edit_name x) sheet id (most_splices x) (sheet_why f) state is room small
  at (Ok d) e =
      let done = edit-done x d state is.now (omega (arith, low.sheets)) texts e in
      let after = restyled ss state is.now done.taken in
      let kept : Step = spliced_by_client ss state in
      let next : HasNumbers kept.state = record {
        ids = subst (λ (c : Client). length c.session.pushed < 2 ^ 52) (sym after.client) low.ids;
        serials = subst (λ (p : PageValue). p.next ≤ 2 ^ 52) (sym after.page) low.serials;
        sheets = subst (λ (n : ℕ). n ≤ 2 ^ 52) (sym after.next) low.sheets;
      } in
      let made : Well state kept 0 0 0 = well-marked kept.state.client.marks (splices-well ss state is.now low done.taken) in
      let well = then-well made (stays-with (replied id d.body) kept.state made.now next (refl, done.plain id small)) in
      let recalls : Recalls state kept.state 0 (most_splices x) = recalls-more (omega arith) (splices-few x (book_in state))
      (splices-recall ss state is done.taken) in
      reply-answered (css_edit_name x) sheet id (most_splices x) d.body state kept (done.answers, plain-effect x) (splices-events ss state)
      (steps-well {ids = 0} (omega arith) (omega arith) (more (omega arith) (omega arith) (omega arith) well) recalls) recalls.few_edits
