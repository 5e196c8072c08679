-- What a frame of one client is for another one: its step is well, and leads the page to the same.
use Rattle.std.proofs.Common.{◌≡◌, ℕ, ◌+◌, ◌*◌, ◌^◌, ◌<◌, ◌≤◌, Bool, true, false, not, ◌&&◌, cond, List, [], ◌∷◌, map, length}
use Rattle.std.proofs.Common.{Option, Some, None, Result, Ok, Err, refl, sym, ◌∙◌, ap, subst, arith}
use Rattle.std.specs.List.{flat_map}
use Rattle.page_tree.specs.Pages.{PageValue, IsValid}
use Rattle.page_tree.specs.declared.edits.TreeEdit.{TreeEdit}
use Rattle.page_tree.specs.declared.edit_faults.EditFault.{EditFault}
use Rattle.cdp_messages.specs.declared.command.Why.{Why}
use Rattle.cdp_messages.specs.declared.command.Asked.{Asked}
use Rattle.cdp_messages.specs.declared.command.Refused.{Refused}
use Rattle.cdp_messages.specs.declared.command.Command.{Command}
use Rattle.cdp_messages.specs.declared.command.Command.TheVariants.{DomEnable, DomDisable, CssEnable, CssDisable, AskDom, AskCss, EditDom}
use Rattle.cdp_messages.specs.declared.command.Command.TheVariants.{EditCss, MarkUndoableState, Undo, Redo, SetBreakpoint, RemoveBreakpoint}
use Rattle.cdp_messages.specs.declared.command.Command.TheVariants.{ReplayLoad, ReplayAct, AskSearch}
use Rattle.cdp_messages.specs.declared.dom_edit.DomEdit.{DomEdit}
use Rattle.cdp_messages.specs.declared.css_edit.CssEdit.{CssEdit}
use Rattle.cdp_messages.specs.Asked.{asked, method_name}
use Rattle.client_views.specs.Moves.{Course}
use Rattle.css_agent.specs.Edits.{CssEdited, css_edited, css_splices}
use Rattle.css_agent.specs.EditLaws.{HasEditTexts}
use Rattle.style_edits.specs.declared.splice.Splice.{Splice}
use Rattle.dom_breakpoints.specs.declared.pauses.Pause.{Pause}
use Rattle.dom_breakpoints.specs.Pauses.{pause_of}
use Rattle.dom_breakpoints.specs.Watched.{Watched}
use Rattle.undo_marks.specs.Marks.{Marks, group_moved}
use Rattle.undo_marks.specs.declared.histories.Direction.{Direction}
use Rattle.undo_marks.specs.declared.histories.Direction.TheVariants as directions
use Rattle.undo_marks.specs.Changes.{HistoryEntry as Entry, AllTaken}
use Rattle.undo_marks.specs.Saved.{Saved}
use Rattle.undo_marks.specs.SavedEdits.{page_after, saved_of}
use Rattle.undo_marks.specs.declared.inverse_lists.Inverse.{Inverse}
use Rattle.undo_marks.specs.declared.inverse_lists.Inverse.TheVariants.{Tree, Sheet}
use Rattle.back_end.specs.declared.faults.ActFault.{ActFault}
use Rattle.back_end.specs.declared.node_edits.TreeWish.{TreeWish}
use Rattle.back_end.specs.Sheets.{as_book, SheetChange}
use Rattle.back_end.specs.States.{Side, Client, State, book_in, view_of, saved_now, HoldsNow, HasHistory, IsState, TakesWell}
use Rattle.back_end.specs.Plans.{Plan, node_edit_fault, node_edit_plan, node_put, Deed, edits, restyles, shows_on, act_fault, act_plan}
use Rattle.back_end.specs.OwnMethods.{load_asked, act_asked}
use Rattle.back_end.specs.Steps.{Step, with_page, pause_step, push_step, push_steps, script_step, script_steps}
use Rattle.back_end.specs.Steps.{edit_step, edit_steps, splice_step, splice_steps, kept_step, kept_steps, taken_edits}
use Rattle.back_end.specs.Steps.{taken_step, edit_named, lowered, serial_now, put_answer, unless_fault, node_edit_step}
use Rattle.back_end.specs.Steps.{restyled_step, watch_step, own_step, planned_step, sheet_steps, sheet_step}
use Rattle.back_end.specs.Steps.{Turn, acts, loads, turn_step, needs_on, needs_css, served_step, command_step, asked_step}
use Rattle.back_end.specs.Steps.{refusing}
use Rattle.page_tree.specs.Edits.{after}
use Rattle.css_agent.specs.Edits.{text_under}
use Rattle.style_edits.specs.Splices.{after_splice}
use Rattle.client_views.specs.Views.{sheets_with_text}
use Rattle.dom_breakpoints.specs.Watched.{with_watch, without_watch}
use Rattle.back_end.specs.Laws.{HasRoom, StepsWell, IsTurn, reply_ids}
use Rattle.back_end.specs.Texts.{HasServedTexts, HasTreeTexts}
use Rattle.back_end.specs.Outside.{Outward, made, turned, unchanged, plan_outward, tree_outward, sheet_outward, taken_outward, own_outward}
use Rattle.back_end.specs.Outside.{served_outward, command_outward, asked_outward, outside_one, outside_all, crossing_by}
use Rattle.back_end.specs.Outside.{outside_step, IsOutside, OutsideStepsWell, TurnsLeadAlike}
use Rattle.back_end.proofs.OwnTexts.{AskedTexts, frame-texts}
use Rattle.back_end.proofs.OwnLemmas.{load-turn, act-turn}
use Rattle.back_end.proofs.GroupCounts.{trees_in, FewEdits, few-taken}
use Rattle.back_end.proofs.WellSteps.{Well, HasNumbers, stays, then-well, more}
use Rattle.back_end.proofs.KeptSteps.{recalls-same, recalls-crossed}
use Rattle.back_end.proofs.SpliceSteps.{splice-well, splice-events, splices-taken, edit-done}
use Rattle.back_end.proofs.UndoSteps.{takes-splice, AllTakenIn, TakenIn, taken-rest, taken-either, none-taken}
use Rattle.back_end.proofs.TreeSteps.{AsksFor, lowered-texts, lowered-asks, named-is, node-edit-planned, trees-taken, asks-for}
use Rattle.back_end.proofs.TurnAnswers.{AreEvents, events-append, events-answer, script-events, turn-events}
use Rattle.back_end.proofs.StepLemmas.{Planned, script-well, with-page-is, same-view, crossed-is, turn-steps-well}
use Rattle.cdp_messages.specs.declared.command.Why.TheVariants.{DomOff, CssOff}
use Rattle.back_end.proofs.FrameLemmas.{searches-stay}

-- ---- where the page's side is led

-- the page's side after an edit
abbrev pub side_after : Inverse → Side → Side
side_after (Tree e) side = record side { page = after e side.page }
side_after (Sheet s) side = record side {
  sheets = sheets_with_text s.sheet (text_under s.sheet (after_splice s (as_book side.sheets))) side.sheets;
}

-- after edits, one after the other
abbrev pub side_after_all : List Inverse → Side → Side
side_after_all [] side = side
side_after_all (e ∷ es) side = side_after_all es (side_after e side)

-- the side with another page
abbrev pub side_with : PageValue → Side → Side
side_with page side = record side { page = page }

-- edits that a page takes, one after the other, from the page with drawn serials on; few of them are edits of the tree
pub record CanMake (side : Side) (page : PageValue) (es : List Inverse) : Type 0 where
  pub page_is : IsValid page
  pub same : page.tree ≡ side.page.tree
  pub low : side.page.next ≤ page.next
  pub serials : page.next ≤ side.page.next + 100000
  pub taken : AllTaken page_after (TakesWell page.next) es (saved_of page.tree (as_book side.sheets))
  pub few : trees_in es < 2 ^ 30

-- that the side may be led so
abbrev pub CanBe : Side → Outward → Type 0
CanBe side (made page es) = CanMake side page es
CanBe side (turned x) = IsTurn x

-- where it is led
abbrev pub LedTo : Side → Outward → Side → Type 0
LedTo side (made page es) after = after ≡ side_after_all es (side_with page side)
LedTo side (turned x) after = (state : State) → state.side ≡ side → (turn_step x state).state.side ≡ after

-- ---- the page's side

-- a pause leaves it as it is
pushes-side : (o : Option ℕ) (state : State) → (push_steps o state).state.side ≡ state.side
pushes-side None state = refl
pushes-side (Some serial) state = refl

pause-side : (o : Option Pause) (state : State) → (pause_step o state).state.side ≡ state.side
pause-side None state = refl
pause-side (Some p) state = pushes-side p.target (push_step p.node state).state

-- an edit leads it on, whoever made it
outside-side-one : (e : Inverse) (state : State) → (outside_one e state).state.side ≡ side_after e state.side
outside-side-one (Tree e) state =
    ap (side_after (Tree e)) (pause-side (pause_of state.client.watched state.side.page.tree e) state)
outside-side-one (Sheet s) state = refl

outside-side : (es : List Inverse) (state : State) → (outside_all es state).state.side ≡ side_after_all es state.side
outside-side [] state = refl
outside-side (e ∷ es) state =
    outside-side es (outside_one e state).state ∙ ap (side_after_all es) (outside-side-one e state)

kept-side-one : (e : Inverse) (state : State) → (kept_step e state).state.side ≡ side_after e state.side
kept-side-one (Tree e) state = refl
kept-side-one (Sheet s) state = refl

kept-side : (es : List Inverse) (state : State) → (kept_steps es state).state.side ≡ side_after_all es state.side
kept-side [] state = refl
kept-side (e ∷ es) state = kept-side es (kept_step e state).state ∙ ap (side_after_all es) (kept-side-one e state)

trees-side : (es : List TreeEdit) (state : State)
    → (edit_steps es state).state.side ≡ side_after_all (map (λ e. Tree e) es) state.side
trees-side [] state = refl
trees-side (e ∷ es) state = trees-side es (edit_step e state).state

splices-side : (ss : List Splice) (state : State)
    → (splice_steps ss state).state.side ≡ side_after_all (map (λ s. Sheet s) ss) state.side
splices-side [] state = refl
splices-side (s ∷ ss) state = splices-side ss (splice_step s state).state

-- ---- edits of another client are well

outside-one-well : (e : Inverse) (state : State) → HoldsNow state → HasNumbers state
    → 200001 * trees_in (e ∷ []) + length state.client.session.pushed < 2 ^ 52 → TakenIn e state
    → Well state (outside_one e state) (200001 * trees_in (e ∷ [])) 0 0
outside-one-well (Tree e) state is low ids t =
    more (omega arith) (omega arith) (omega arith) (script-well state e is low (omega (arith, ids)) t.taken.taken t.own).0
outside-one-well (Sheet s) state is low ids t = splice-well s state is low (takes-splice s state.side.sheets t.taken)

-- the others are taken where it led
outside-rest : (e : Inverse) (es : List Inverse) (state : State) → HoldsNow state → AllTakenIn (e ∷ es) state
    → AllTakenIn es (outside_one e state).state
outside-rest e es state is all =
    let kept : AllTakenIn es (kept_step e state).state = taken-rest e es state is all in
    subst (λ (side : Side). AllTaken page_after (TakesWell side.page.next) es (saved_of side.page.tree (as_book side.sheets)))
    (kept-side-one e state ∙ sym (outside-side-one e state)) kept

-- edits of another client are well, one after the other
pub outside-well : (es : List Inverse) (state : State) → HoldsNow state → HasNumbers state
    → 200001 * trees_in es + length state.client.session.pushed < 2 ^ 52 → AllTakenIn es state
    → Well state (outside_all es state) (200001 * trees_in es) 0 0
outside-well [] state is low ids all = stays state is low
outside-well (e ∷ es) state is low ids all =
    let first : Well state (outside_one e state) (200001 * trees_in (e ∷ [])) 0 0 =
    outside-one-well e state is low (omega (arith, ids)) all.0 in
    let next : HasNumbers (outside_one e state).state = record {
      ids = omega (arith, ids, first.few_ids);
      serials = omega (arith, low.serials, first.few_serials);
      sheets = omega (arith, low.sheets, first.few_sheets);
    } in
    more (omega arith) (omega arith) (omega arith)
    (then-well first (outside-well es (outside_one e state).state first.now next (omega (arith, ids, first.few_ids))
    (outside-rest e es state is all)))

one-events : (e : Inverse) (state : State) → AreEvents (outside_one e state).moves
one-events (Tree e) state = script-events e state
one-events (Sheet s) state = splice-events s state

outside-events : (es : List Inverse) (state : State) → AreEvents (outside_all es state).moves
outside-events [] state = tt
outside-events (e ∷ es) state =
    events-append (outside_one e state).moves (outside_all es (outside_one e state).state).moves (one-events e state)
    (outside-events es (outside_one e state).state)

-- ---- the step

-- the history is empty then, or is as it was where there was no edit
by-edits : (es : List Inverse) (before : State) (done : Step) → HoldsNow done.state
    → (es ≡ [] → HasHistory done.state) → Course done.moves (view_of before) (view_of done.state) → flat_map reply_ids done.moves ≡ []
    → IsOutside done.state.side before (crossing_by es done)
by-edits [] before done now history course quiet = record {
  is_state = record { now = now; history = history refl };
  side_is = refl;
  course = course;
  quiet = quiet;
}
by-edits (e ∷ es) before done now history course quiet = record {
  is_state = record { now = crossed-is done.state now; history = (recalls-crossed before done.state).history };
  side_is = refl;
  course = course;
  quiet = quiet;
}

none-history : (page : PageValue) (es : List Inverse) (state : State) → HasHistory state → CanMake state.side page es → es ≡ []
    → HasHistory (outside_all es (with_page page state)).state
none-history page es state history can none =
    let first : State = with_page page state in
    let saved : saved_now first ≡ saved_now state = λ i. record { tree = can.same i; sheets = (saved_now state).sheets } in
    let here : HasHistory first = (recalls-same state first history refl saved can.low).history in
    subst (λ (xs : List Inverse). HasHistory (outside_all xs first).state) (sym none) here

-- edits that the page takes
made-outside : (page : PageValue) (es : List Inverse) (state : State) → IsState state → HasRoom state → CanMake state.side page es
    → IsOutside (side_after_all es (side_with page state.side)) state (outside_step (made page es) state)
made-outside page es state is room can =
    let first : State = with_page page state in
    let begun : HoldsNow first = with-page-is state page is.now can.page_is can.same in
    let low : HasNumbers first = record {
      ids = omega (arith, room.ids);
      serials = omega (arith, room.serials, can.serials);
      sheets = omega (arith, room.sheets);
    } in
    let well : Well first (outside_all es first) (200001 * trees_in es) 0 0 =
    outside-well es first begun low (omega (arith, room.ids, can.few)) can.taken in
    let course : Course (outside_all es first).moves (view_of state) (view_of (outside_all es first).state) =
    subst (λ v. Course (outside_all es first).moves v (view_of (outside_all es first).state)) (same-view state page can.same) well.course in
    subst (λ (side : Side). IsOutside side state (outside_step (made page es) state)) (outside-side es first)
    (by-edits es state (outside_all es first) well.now (none-history page es state is.history can) course
    (events-answer (outside_all es first).moves (outside-events es first)))

-- a step of a script
turned-outside : (x : Turn) (state : State) → IsState state → HasRoom state → IsTurn x
    → IsOutside (turn_step x state).state.side state (outside_step (turned x) state)
turned-outside x state is room can =
    let well : StepsWell state (turn_step x state) = (turn-steps-well state x is room can).0 in
    record {
      is_state = well.is_state;
      side_is = refl;
      course = well.course;
      quiet = events-answer (turn_step x state).moves (turn-events x state);
    }

-- ---- a script's step leads the page to the same, whoever is its client

scripts-side : (es : List TreeEdit) (state : State)
    → (script_steps es state).state.side ≡ side_after_all (map (λ e. Tree e) es) state.side
scripts-side [] state = refl
scripts-side (e ∷ es) state =
    scripts-side es (script_step e state).state ∙ ap (side_after_all (map (λ e. Tree e) es)) (outside-side-one (Tree e) state)

changes-side : (cs : List SheetChange) (side : Side) (c d : Client)
    → (sheet_steps cs (record { side = side; client = c })).state.side ≡ (sheet_steps cs (record { side = side; client = d })).state.side
changes-side [] side c d = refl
changes-side (x ∷ cs) side c d = changes-side cs (sheet_step x (record { side = side; client = c })).state.side c d

deed-side : (fault : Option ActFault) (deed : Deed) (side : Side) (c d : Client)
    → (planned_step fault deed (record { side = side; client = c })).state.side
    ≡ (planned_step fault deed (record { side = side; client = d })).state.side
deed-side (Some f) deed side c d = refl
deed-side None (edits plan) side c d =
    scripts-side plan.edits (with_page plan.page (record { side = side; client = c }))
    ∙ sym (scripts-side plan.edits (with_page plan.page (record { side = side; client = d })))
deed-side None (restyles changes) side c d = changes-side changes side c d
deed-side None (shows_on medium) side c d = refl

turn-side : (x : Turn) (side : Side) (c d : Client)
    → (turn_step x (record { side = side; client = c })).state.side ≡ (turn_step x (record { side = side; client = d })).state.side
turn-side (acts act) side c d =
    deed-side (act_fault act side.page (as_book side.sheets)) (act_plan act side.page (as_book side.sheets)) side c d
turn-side (loads page) side c d = refl

pub turn-sides : TurnsLeadAlike
turn-sides x first other same =
    turn-side x other.side other.client first.client
    ∙ ap (λ (side : Side). (turn_step x (record { side = side; client = first.client })).state.side) same

-- ---- what a frame is to the page

-- that it can be, and where it leads
pub record IsDone (state : State) (d : Outward) (after : Side) : Type 0 where
  pub can : CanBe state.side d
  pub led : LedTo state.side d after

done-none : (state : State) (after : Side) → IsState state → after ≡ state.side → IsDone state (unchanged state) after
done-none state after is same = record {
  can = record {
    page_is = is.now.page;
    same = refl;
    low = omega arith;
    serials = omega arith;
    taken = tt;
    few = omega arith;
  };
  led = same;
}

-- edits of the tree are as many as their list is long
pub trees-few : (es : List TreeEdit) → trees_in (map (λ e. Tree e) es) ≤ length es
trees-few [] = omega arith
trees-few (e ∷ es) = omega (arith, trees-few es)

-- an edit of the tree
put-side : (id : ℕ) (put : Option ℕ) (done : Step) → (put_answer id put done).state.side ≡ done.state.side
put-side id None done = refl
put-side id (Some node) done = refl

planned-done : (id : ℕ) (fault : Option EditFault) (e : TreeWish) (state : State) → IsState state
    → (fault ≡ None → Planned state (node_edit_plan e state.side.page))
    → IsDone state (plan_outward fault e state) (unless_fault id fault e state).state.side
planned-done id (Some f) e state is planned = done-none state state.side is refl
planned-done id None e state is planned =
    let plan : Plan = node_edit_plan e state.side.page in
    let p : Planned state plan = planned refl in
    let begun : HoldsNow (with_page plan.page state) = with-page-is state plan.page is.now p.page p.same in
    record {
      can = record {
        page_is = p.page;
        same = p.same;
        low = p.low;
        serials = p.serials;
        taken = trees-taken plan.edits plan.page (book_in state) p.page begun.texts p.taken p.texts;
        few = omega (arith, trees-few plan.edits, p.short);
      };
      led = put-side id (node_put e state.side.page) _ ∙ trees-side plan.edits (with_page plan.page state);
    }

tree-done : (method : List ℕ) (id : ℕ) (edit : DomEdit) (state : State) → HasTreeTexts edit → AsksFor method edit → IsState state
    → IsDone state (tree_outward (edit_named (serial_now state) (lowered edit)) state)
    (node_edit_step id (edit_named (serial_now state) (lowered edit)) state).state.side
tree-done method id edit state texts asks is = at (edit_named (serial_now state) (lowered edit)) refl where
  at : (r : Result TreeWish Why) → edit_named (serial_now state) (lowered edit) ≡ r
      → IsDone state (tree_outward r state) (node_edit_step id r state).state.side
  at (Err why) h = done-none state state.side is refl
  at (Ok e) h =
      let named = named-is method (serial_now state) (lowered edit) e (lowered-texts edit texts) (lowered-asks method edit asks) h in
      planned-done id (node_edit_fault e state.side.page) e state is (λ fits. node-edit-planned method state e is.now named.0 fits)

-- edits of sheets are none of the tree
pub no-trees-among : (ss : List Splice) → trees_in (map (λ s. Sheet s) ss) ≡ 0
no-trees-among [] = refl
no-trees-among (s ∷ ss) = omega (arith, no-trees-among ss)

-- an edit of sheets
sheet-done : (id : ℕ) (x : CssEdit) (state : State) → HasEditTexts x → IsState state → HasRoom state
    → IsDone state (sheet_outward (css_edited (book_in state) x) (css_splices (book_in state) x) state)
    (restyled_step id (css_edited (book_in state) x) (css_splices (book_in state) x) state).state.side
sheet-done id x state texts is room = at (css_edited (book_in state) x) refl where
  at : (r : CssEdited) → css_edited (book_in state) x ≡ r
      → IsDone state (sheet_outward r (css_splices (book_in state) x) state)
      (restyled_step id r (css_splices (book_in state) x) state).state.side
  at (Err f) e = done-none state state.side is refl
  at (Ok d) e =
      let ss = css_splices (book_in state) x in
      let done = edit-done x d state is.now (omega (arith, room.sheets)) texts e in
      record {
        can = record {
          page_is = is.now.page;
          same = refl;
          low = omega arith;
          serials = omega arith;
          taken = splices-taken state.side.page.next state.side.page.tree ss (book_in state) is.now.texts done.taken;
          few = omega (arith, no-trees-among ss);
        };
        led = splices-side ss state;
      }

-- an undo or a redo
among-length : (es : List Inverse) → trees_in es ≤ length es
among-length [] = omega arith
among-length (Tree e ∷ es) = omega (arith, among-length es)
among-length (Sheet s ∷ es) = omega (arith, among-length es)

taken-done : (id : ℕ) (es : List Inverse) (marks : Marks (Entry Saved Inverse)) (state : State) → IsState state → HasRoom state
    → AllTakenIn es state → FewEdits es state.client.marks
    → IsDone state (taken_outward (Some es) state) (taken_step id (Some es) marks state).state.side
taken-done id es marks state is room taken few = record {
  can = record {
    page_is = is.now.page;
    same = refl;
    low = omega arith;
    serials = omega arith;
    taken = taken;
    few = omega (arith, room.edits, few.count, among-length es);
  };
  led = kept-side es state;
}

nothing-done : (id : ℕ) (marks : Marks (Entry Saved Inverse)) (state : State) → IsState state
    → IsDone state (taken_outward None state) (taken_step id None marks state).state.side
nothing-done id marks state is =
    done-none state (taken_step id None marks state).state.side is (ap (λ (after : State). after.side) (none-taken id marks state))

group-done : (way : Direction) (id : ℕ) (state : State) → IsState state → HasRoom state
    → IsDone state (taken_outward (taken_edits way state.client.marks) state)
    (taken_step id (taken_edits way state.client.marks) (group_moved way state.client.marks) state).state.side
group-done way id state is room =
    let marks = group_moved way state.client.marks in
    taken-either way (λ o. IsDone state (taken_outward o state) (taken_step id o marks state).state.side) state is.history
    (λ u. nothing-done id marks state is)
    (λ es u. taken-done id es marks state is room u.taken (few-taken way state.client.marks es u.edits))

-- a watch
watch-side : (id : ℕ) (change : ℕ → Watched → Watched) (o : Option ℕ) (state : State)
    → (watch_step id change o state).state.side ≡ state.side
watch-side id change None state = refl
watch-side id change (Some node) state = refl

-- one of our own two methods
own-done : {A : Type 0} (turn_of : A → Turn) (id : ℕ) (r : Result A Why) (state : State) → IsState state
    → ((a : A) → r ≡ Ok a → IsTurn (turn_of a))
    → IsDone state (own_outward turn_of r state) (own_step turn_of id r state).state.side
own-done turn_of id (Err why) state is can = done-none state state.side is refl
own-done turn_of id (Ok a) state is can = record {
  can = can a refl;
  led = λ other same. turn-sides (turn_of a) state other same;
}

served-done : (id : ℕ) (c : Command) (state : State) → HasServedTexts c → IsState state → HasRoom state
    → IsDone state (served_outward c state) (served_step id c state).state.side
served-done id (DomEnable word) state texts is room = done-none state state.side is refl
served-done id DomDisable state texts is room = done-none state state.side is refl
served-done id (AskDom ask) state texts is room = done-none state state.side is refl
served-done id (EditDom edit) state texts is room = tree-done (method_name (EditDom edit)) id edit state texts (asks-for edit) is
served-done id (AskSearch ask) state texts is room = done-none state _ is (searches-stay id ask state).side
served-done id MarkUndoableState state texts is room = done-none state state.side is refl
served-done id Undo state texts is room = group-done directions.Undo id state is room
served-done id Redo state texts is room = group-done directions.Redo id state is room
served-done id CssEnable state texts is room = done-none state state.side is refl
served-done id CssDisable state texts is room = done-none state state.side is refl
served-done id (AskCss ask) state texts is room = done-none state state.side is refl
served-done id (EditCss edit) state texts is room = sheet-done id edit state texts is room
served-done id (SetBreakpoint node word) state texts is room =
    done-none state _ is (watch-side id (with_watch word) (serial_now state node) state)
served-done id (RemoveBreakpoint node word) state texts is room =
    done-none state _ is (watch-side id (without_watch word) (serial_now state node) state)
served-done id (ReplayLoad params) state texts is room =
    own-done loads id (load_asked params) state is (λ page e. load-turn params page texts e)
served-done id (ReplayAct params) state texts is room =
    own-done acts id (act_asked params state.side.page (book_in state)) state is
    (λ act e. act-turn params state.side.page (book_in state) act texts e)

command-done : (id : ℕ) (c : Command) (state : State) → HasServedTexts c → IsState state → HasRoom state
    → IsDone state (command_outward c state) (command_step id c state).state.side
command-done id c state texts is room =
    at (needs_on c && not state.client.dom_on) (needs_css c && not state.client.css_on) where
      at : (a b : Bool) → IsDone state (cond a (unchanged state) (cond b (unchanged state) (served_outward c state)))
          (cond a (refusing (Some id) DomOff state) (cond b (refusing (Some id) CssOff state) (served_step id c state))).state.side
      at true b = done-none state state.side is refl
      at false true = done-none state state.side is refl
      at false false = served-done id c state texts is room

pub asked-done : (r : Result Asked Refused) (state : State) → AskedTexts r → IsState state → HasRoom state
    → IsDone state (asked_outward r state) (asked_step r state).state.side
asked-done (Ok a) state texts is room = command-done a.id a.command state texts is room
asked-done (Err r) state texts is room = done-none state state.side is refl

-- ---- for another client

pub outside-done : (d : Outward) (first other : State) (after : Side) → IsDone first d after → IsState other → HasRoom other
    → other.side ≡ first.side → IsOutside after other (outside_step d other)
outside-done (made page es) first other after done is room same =
    let can : CanMake other.side page es = subst (λ (side : Side). CanMake side page es) (sym same) done.can in
    subst (λ (side : Side). IsOutside side other (outside_step (made page es) other))
    (ap (λ (side : Side). side_after_all es (side_with page side)) same ∙ sym done.led) (made-outside page es other is room can)
outside-done (turned x) first other after done is room same =
    subst (λ (side : Side). IsOutside side other (outside_step (turned x) other)) (done.led other same)
    (turned-outside x other is room done.can)

-- what was asked, however it was read
pub asked-outside : (r : Result Asked Refused) (first other : State) → AskedTexts r → IsState first → HasRoom first → IsState other
    → HasRoom other → other.side ≡ first.side
    → IsOutside (asked_step r first).state.side other (outside_step (asked_outward r first) other)
asked-outside r first other texts is room is2 room2 same =
    outside-done (asked_outward r first) first other (asked_step r first).state.side (asked-done r first texts is room) is2 room2 same

pub outside-steps-well : OutsideStepsWell
outside-steps-well own frame first other is room is2 room2 same =
    asked-outside (asked frame own) first other (frame-texts own frame) is room is2 room2 same
