-- What a seat does on a client's edit of sheets is the step of the state.
use Rattle.std.proofs.Common.{◌≡◌, ℕ, ◌^◌, ◌<◌, ◌==◌, Bool, true, false, cond, List, [], ◌∷◌, ◌++◌, map, All, Option, Some, None, Result}
use Rattle.std.proofs.Common.{Ok, Err, refl, sym, ap, ◌∙◌, subst, arith}
use Rattle.std.specs.List.{AllByRecursion}
use Rattle.std.specs.Result.{OnOk, OnErr}
use Rattle.std.proofs.lemmas.Bool.Decides.{nat_tests}
use Rattle.node_binding.specs.Bindings.{Stands}
use Rattle.page_tree.specs.Pages.{PageValue}
use Rattle.node_tree.specs.Nodes.{alone}
use Rattle.sheet_reader.specs.declared.book.SheetEntry.{SheetEntry}
use Rattle.sheet_reader.specs.Books.{IsStored, entry_of, book_changed}
use Rattle.style_edits.specs.declared.faults.SheetErr.{SheetErr}
use Rattle.style_edits.specs.declared.faults.SheetErr.TheVariants.{Fault}
use Rattle.style_edits.specs.declared.faults.SheetFault.{SheetFault}
use Rattle.style_edits.specs.Edits.{IfFault}
use Rattle.style_edits.specs.declared.splice.Splice.{Splice}
use Rattle.style_edits.specs.Splices.{spliced_entry, after_by, after_splice, after_splices}
use Rattle.cdp_messages.specs.declared.command.Why.{Why}
use Rattle.client_views.specs.Moves.{Move, replied, frames_of_moves}
use Rattle.cdp_messages.specs.declared.css_edit.CssEdit.{CssEdit}
use Rattle.css_agent.specs.Edits.{CssDone, CssEdited, css_edited, css_splices, splice_moves, moves_with_reply, edit_moves, edit_splices}
use Rattle.css_agent.specs.EditLaws.{HasEditTexts, AllTake, back_splices}
use Rattle.css_agent.proofs.DoneLemmas.{css-leads, stored-all}
use Rattle.back_end.specs.declared.desk.Desk.{Desk}
use Rattle.back_end.specs.declared.side.PageSide.{PageSide}
use Rattle.back_end.specs.OwnMethods.{sheet_why}
use Rattle.back_end.specs.Sheets.{AreBelow}
use Rattle.shown_pages.specs.ShownPages.{shown_page}
use Rattle.back_end.specs.States.{Client, State, book_in}
use Rattle.cdp_messages.specs.declared.command.Command.TheVariants.{EditCss}
use Rattle.back_end.specs.Steps.{Step, refusing, keeping, splice_steps, restyled_step, sheet_edit_step, command_step}
use Rattle.back_end.specs.Seats.{DeskStandsFor, BothStandFor, HasNumbersLeft}
use Rattle.undo_marks.specs.Marks.{Marks, noted_singly}
use Rattle.undo_marks.specs.declared.inverse_lists.Inverse.{Inverse}
use Rattle.undo_marks.specs.declared.inverse_lists.Inverse.TheVariants.{Sheet}
use Rattle.back_end.proofs.ScriptLemmas.{stayed-stands}
use Rattle.back_end.proofs.NoteSeats.{restyled-kept}
use Rattle.back_end.proofs.SeatLemmas.{marks-stands, on-is}
use Rattle.back_end.proofs.SheetSeats.{dom-on, css-taken}
use Rattle.back_end.proofs.SpliceSteps.{edit-done, restyled, splices-told}

-- ---- what was answered

-- what an edit without a fault did
record Did (book : List SheetEntry) (x : CssEdit) (new : List SheetEntry) (backs : List Splice) : Type 0 where
  done : CssDone
  is : css_edited book x ≡ Ok done
  leads : done.book ≡ new
  answers : done.backs ≡ backs

did : (book : List SheetEntry) (x : CssEdit) (new : List SheetEntry) (backs : List Splice)
    → edit_splices (css_edited book x) ≡ Ok (new, backs) → Did book x new backs
did book x new backs h = at (css_edited book x) refl h where
  at : (r : CssEdited) → css_edited book x ≡ r → edit_splices r ≡ Ok (new, backs) → Did book x new backs
  at (Err f) e k = absurd cc
  at (Ok d) e k =
      let same : ◌≡◌ {A = List SheetEntry × List Splice} (d.book, d.backs) (new, backs) = cc in
      record {
        done = d;
        is = e;
        leads = ap (λ (p : List SheetEntry × List Splice). p.0) same;
        answers = ap (λ (p : List SheetEntry × List Splice). p.1) same;
      }

-- what holds of a fault holds of the one that was answered
pub in_fault : {A : Type 0} (result : Result A SheetErr) (f : SheetFault) (P : SheetFault → Type 0) → result ≡ Err (Fault f)
    → IfFault result P → P f
in_fault {A = A} result f P is holds = subst (λ (r : Result A SheetErr). IfFault r P) is holds

-- ---- numbers in code

below-changed : (new : SheetEntry) (next : ℕ) (es : List SheetEntry) → AreBelow next es → AreBelow next (book_changed new es)
below-changed new next [] all = tt
below-changed new next (e ∷ es) all = at (new.id == e.id) refl (below-changed new next es all.1) where
  own : (new.id == e.id) ≡ true → new.id ≡ e.id
  own t = grind (arith, nat_tests)

  at : (b : Bool) → (new.id == e.id) ≡ b → AreBelow next (book_changed new es) → AreBelow next (cond b (new ∷ es) (e ∷ book_changed new es))
  at true t later = let is = own t in (omega (arith, is, all.0), all.1)
  at false t later = (all.0, later)

below-splice : (s : Splice) (next : ℕ) (es : List SheetEntry) → AreBelow next es → AreBelow next (after_splice s es)
below-splice s next es all = at (entry_of s.sheet es) where
  at : (o : Option SheetEntry) → AreBelow next (after_by s es o)
  at None = all
  at (Some e) = below-changed (spliced_entry s e) next es all

below-splices : (ss : List Splice) (next : ℕ) (es : List SheetEntry) → AreBelow next es → AreBelow next (after_splices ss es)
below-splices [] next es all = all
below-splices (s ∷ ss) next es all = below-splices ss next (after_splice s es) (below-splice s next es all)

-- by one splice, or none
pub put-below : {T E : Type 0} (result : Result T E) (x : Splice) (next : ℕ) (old new : List SheetEntry) → (0 < next) × AreBelow next old
    → OnOk result (new ≡ after_splice x old) → OnErr result (new ≡ old) → (0 < next) × AreBelow next new
put-below (Ok value) x next old new is done kept =
    (is.0, subst (λ (es : List SheetEntry). AreBelow next es) (sym done) (below-splice x next old is.1))
put-below (Err fault) x next old new is done kept = (is.0, subst (λ (es : List SheetEntry). AreBelow next es) (sym kept) is.1)

-- the numbers are those of before
pub edited-below : (x : CssEdit) (next : ℕ) (old new : List SheetEntry) (backs : List Splice)
    → edit_splices (css_edited old x) ≡ Ok (new, backs) → AreBelow next old → AreBelow next new
edited-below x next old new backs h all =
    let d = did old x new backs h in
    let led = css-leads x old d.done d.is in
    subst (λ (es : List SheetEntry). AreBelow next es) (sym led.there ∙ d.leads) (below-splices (css_splices old x) next old all)

-- the number of each sheet of a book is below the last
pub stored-below : (es : List SheetEntry) → All IsStored es → AreBelow (2 ^ 53) es
stored-below es all = at es (stored-all es all) where
  at : (es : List SheetEntry) → AllByRecursion IsStored es → AreBelow (2 ^ 53) es
  at [] all = tt
  at (e ∷ es) all = (all.0.entry.id, at es all.1)

-- ---- the step

-- what the command comes to, while both domains are on
step-is : (d : Desk) (s : PageSide) (state : State) (id : ℕ) (x : CssEdit) → DeskStandsFor d s state → d.is_on ≡ true → d.css ≡ true
    → command_step id (EditCss x) state ≡ sheet_edit_step id x state
step-is d s state id x stands on css = on-is id (EditCss x) state (dom-on (EditCss x) d s state stands on)
    (css-taken (EditCss x) d s state stands css)

edited-here : (s : PageSide) (book : List SheetEntry) (x : CssEdit) (r : CssEdited) → s.sheets.entries ≡ book
    → css_edited s.sheets.entries x ≡ r → css_edited book x ≡ r
edited-here s book x r same is = ap (λ (es : List SheetEntry). css_edited es x) (sym same) ∙ is

-- what becomes of a state by an edit of sheets that was carried out
pub record Restyles (x : CssEdit) (s1 : PageSide) (state : State) (backs : List Splice) (d : Desk) : Type 0 where
  pub done : CssDone
  pub is : css_edited (book_in state) x ≡ Ok done
  pub taken : AllTake (css_splices (book_in state) x) (book_in state)
  pub backs_are : backs ≡ back_splices (css_splices (book_in state) x) (book_in state)
  pub stands : DeskStandsFor d s1 (splice_steps (css_splices (book_in state) x) state).state

-- a desk stands for the state after the splices
pub restyled-desk : (d : Desk) (s s1 : PageSide) (state : State) (x : CssEdit) (backs : List Splice) → DeskStandsFor d s state
    → s.sheets.next < 2 ^ 50 → HasEditTexts x → edit_splices (css_edited s.sheets.entries x) ≡ Ok (s1.sheets.entries, backs)
    → s1.page ≡ s.page → s1.sheets.next ≡ s.sheets.next → s1.sheets.medium ≡ s.sheets.medium
    → Restyles x s1 state backs d
restyled-desk d s s1 state x backs stands room texts edited page_is next_is medium_is =
    let made = did s.sheets.entries x s1.sheets.entries backs edited in
    let here : css_edited (book_in state) x ≡ Ok made.done = edited-here s (book_in state) x (Ok made.done) stands.sheets_are made.is in
    let ss = css_splices (book_in state) x in
    let low : state.side.next_sheet < 2 ^ 50 = subst (λ (n : ℕ). n < 2 ^ 50) stands.next_is room in
    let done = edit-done x made.done state stands.now (omega (arith, low)) texts here in
    let after = restyled ss state stands.now done.taken in
    record {
      done = made.done;
      is = here;
      taken = done.taken;
      backs_are = sym made.answers ∙ done.backs;
      stands = record {
        now = after.now;
        page_is = page_is ∙ stands.page_is ∙ sym after.page;
        sheets_are = sym made.leads ∙ done.leads ∙ sym after.book;
        next_is = next_is ∙ stands.next_is ∙ sym after.next;
        medium_is = medium_is ∙ stands.medium_is ∙ sym after.medium;
        on_is = stands.on_is ∙ ap (λ (c : Client). c.dom_on) (sym after.client);
        css_is = stands.css_is ∙ ap (λ (c : Client). c.css_on) (sym after.client);
        mode_is = stands.mode_is ∙ ap (λ (c : Client). c.mode) (sym after.client);
        stands = subst (λ (p : PageValue). Stands (alone (shown_page (splice_steps ss state).state.client.mode p).tree)
            (splice_steps ss state).state.client.session d.agent) (sym after.page)
            (subst (λ (c : Client). Stands (alone (shown_page c.mode state.side.page).tree) c.session d.agent)
            (sym after.client) stands.stands);
        watches_are = stands.watches_are ∙ ap (λ (c : Client). c.watched) (sym after.client);
        searches_are = stands.searches_are ∙ ap (λ (c : Client). c.searches) (sym after.client);
      };
    }

pub restyled-both : (d : Desk) (h h1 : Marks Inverse) (s s1 : PageSide) (state : State) (id : ℕ) (x : CssEdit) (backs : List Splice)
    → BothStandFor d h s state → HasNumbersLeft d s → HasEditTexts x
    → d.is_on ≡ true → d.css ≡ true → edit_splices (css_edited s.sheets.entries x) ≡ Ok (s1.sheets.entries, backs) → s1.page ≡ s.page
    → s1.sheets.next ≡ s.sheets.next → s1.sheets.medium ≡ s.sheets.medium
    → h1 ≡ noted_singly (map (λ s. Sheet s) backs) h → BothStandFor d h1 s1 (command_step id (EditCss x) state).state
restyled-both d h h1 s s1 state id x backs both room texts on css edited page_is next_is medium_is noted =
    let stands = both.stands in
    let r = restyled-desk d s s1 state x backs stands room.sheets texts edited page_is next_is medium_is in
    let ss = css_splices (book_in state) x in
    let kept = restyled-kept h h1 state ss backs both.kept stands.now r.taken r.backs_are noted in
    let all = keeping (map (λ s. Sheet s) ss) state (splice_steps ss state) in
    subst (λ (x : Step). BothStandFor d h1 s1 x.state)
    (sym (step-is d s state id x stands on css ∙ ap (λ (r : CssEdited). restyled_step id r ss state) r.is))
    (record { stands = marks-stands all.state.client.marks d s1 (splice_steps ss state).state r.stands; kept = kept })

pub restyled-sent : (d : Desk) (s : PageSide) (state : State) (id : ℕ) (x : CssEdit) (new : List SheetEntry) (backs : List Splice)
    (before after : List ℕ)
    → DeskStandsFor d s state → HasNumbersLeft d s → HasEditTexts x → d.is_on ≡ true → d.css ≡ true
    → edit_splices (css_edited s.sheets.entries x) ≡ Ok (new, backs)
    → after ≡ before ++ frames_of_moves (edit_moves id s.sheets.entries x)
    → after ≡ before ++ frames_of_moves (command_step id (EditCss x) state).moves
restyled-sent d s state id x new backs before after stands room texts on css h sent =
    let made = did s.sheets.entries x new backs h in
    let here : css_edited (book_in state) x ≡ Ok made.done = edited-here s (book_in state) x (Ok made.done) stands.sheets_are made.is in
    let ss = css_splices (book_in state) x in
    let low : state.side.next_sheet < 2 ^ 50 = subst (λ (n : ℕ). n < 2 ^ 50) stands.next_is room.sheets in
    let done = edit-done x made.done state stands.now (omega (arith, low)) texts here in
    let told = splices-told ss state (sym stands.css_is ∙ css) done.taken in
    sent
    ∙ ap (λ (es : List SheetEntry). before ++ frames_of_moves (edit_moves id es x)) stands.sheets_are
    ∙ ap (λ (r : CssEdited). before ++ frames_of_moves (moves_with_reply id (splice_moves ss (book_in state)) r)) here
    ∙ ap (λ (ms : List Move). before ++ frames_of_moves (ms ++ replied id made.done.body ∷ [])) (sym told)
    ∙ ap (λ (done : Step). before ++ frames_of_moves done.moves)
    (sym (step-is d s state id x stands on css ∙ ap (λ (r : CssEdited). restyled_step id r ss state) here))

-- ---- a fault

fault-is : (d : Desk) (s : PageSide) (state : State) (id : ℕ) (x : CssEdit) (f : SheetFault) → DeskStandsFor d s state → d.is_on ≡ true
    → d.css ≡ true
    → css_edited s.sheets.entries x ≡ Err f → command_step id (EditCss x) state ≡ refusing (Some id) (sheet_why f) state
fault-is d s state id x f stands on css h =
    step-is d s state id x stands on css
    ∙ ap (λ (r : CssEdited). restyled_step id r (css_splices (book_in state) x) state)
    (edited-here s (book_in state) x (Err f) stands.sheets_are h)

pub unrestyled-both : (d : Desk) (h : Marks Inverse) (s s1 : PageSide) (state : State) (id : ℕ) (x : CssEdit) (f : SheetFault)
    → BothStandFor d h s state → d.is_on ≡ true → d.css ≡ true
    → css_edited s.sheets.entries x ≡ Err f → s1.page ≡ s.page → s1.sheets ≡ s.sheets
    → BothStandFor d h s1 (command_step id (EditCss x) state).state
unrestyled-both d h s s1 state id x f both on css is page_is sheets_is =
    subst (λ (done : Step). BothStandFor d h s1 done.state) (sym (fault-is d s state id x f both.stands on css is))
    (record { stands = stayed-stands d d s s1 state refl refl refl refl refl page_is sheets_is both.stands; kept = both.kept })

pub unrestyled-sent : (d : Desk) (s : PageSide) (state : State) (id : ℕ) (x : CssEdit) (f : SheetFault) (before after : List ℕ)
    → DeskStandsFor d s state → d.is_on ≡ true → d.css ≡ true
    → css_edited s.sheets.entries x ≡ Err f → after ≡ before ++ frames_of_moves (refusing (Some id) (sheet_why f) state).moves
    → after ≡ before ++ frames_of_moves (command_step id (EditCss x) state).moves
unrestyled-sent d s state id x f before after stands on css h sent =
    sent ∙ ap (λ (done : Step). before ++ frames_of_moves done.moves) (sym (fault-is d s state id x f stands on css h))

-- the refusal is written behind what was there before
pub why-sent : (id : ℕ) (state : State) (why : Why) (f : SheetFault) (kept before after : List ℕ) → why ≡ sheet_why f → kept ≡ before
    → after ≡ kept ++ frames_of_moves (refusing (Some id) why state).moves
    → after ≡ before ++ frames_of_moves (refusing (Some id) (sheet_why f) state).moves
why-sent id state why f kept before after is same sent =
    sent ∙ ap (λ (bs : List ℕ). bs ++ frames_of_moves (refusing (Some id) why state).moves) same
    ∙ ap (λ (w : Why). before ++ frames_of_moves (refusing (Some id) w state).moves) is
