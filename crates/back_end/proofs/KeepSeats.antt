-- A desk and a history that stand for a state do so after each command, of what edits nothing, and of a script's changes.
use Rattle.std.proofs.Common.{◌≡◌, ℕ, Bool, true, false, cond, not, ◌&&◌, List, [], ◌∷◌, ◌++◌, Option, Some, None, Result, refl}
use Rattle.std.proofs.Common.{sym, ap}
use Rattle.std.proofs.Common.{◌∙◌, subst, arith}
use Rattle.page_tree.specs.declared.edits.TreeEdit.{TreeEdit}
use Rattle.cdp_messages.specs.declared.command.Why.TheVariants.{DomOff, CssOff}
use Rattle.cdp_messages.specs.declared.search_ask.SearchAsk.{SearchAsk}
use Rattle.cdp_messages.specs.declared.dom_ask.DomAsk.{DomAsk}
use Rattle.client_views.specs.Moves.{frames_of_moves}
use Rattle.cdp_messages.specs.declared.css_ask.CssAsk.{CssAsk}
use Rattle.std.specs.Result.{OnOk}
use Rattle.dom_agent.specs.Laws.{session_outcome}
use Rattle.dom_breakpoints.specs.declared.pauses.Pause.{Pause}
use Rattle.dom_breakpoints.specs.Pauses.{pause_of}
use Rattle.dom_breakpoints.specs.Watched.{Watched, with_watch, without_watch}
use Rattle.page_forms.specs.declared.acts.Act.{Act}
use Rattle.page_forms.specs.Pages.{LoadedPage}
use Rattle.undo_marks.specs.Marks.{Marks, no_marks, crossed_over}
use Rattle.undo_marks.specs.SavedEdits.{saved_of}
use Rattle.undo_marks.specs.declared.inverse_lists.Inverse.{Inverse}
use Rattle.back_end.specs.declared.desk.Desk.{Desk}
use Rattle.back_end.specs.declared.side.PageSide.{PageSide}
use Rattle.back_end.specs.declared.faults.ActFault.{ActFault}
use Rattle.back_end.specs.Sheets.{as_book, SheetChange}
use Rattle.back_end.specs.Steps.{on_medium}
use Rattle.back_end.specs.States.{page_shown, Side, State, book_in, Keeps}
use Rattle.back_end.specs.Plans.{Deed, edits, restyles, shows_on, act_fault, act_plan}
use Rattle.cdp_messages.specs.declared.command.WhitespaceWord.{WhitespaceWord}
use Rattle.cdp_messages.specs.declared.command.Command.{Command}
use Rattle.cdp_messages.specs.declared.command.Command.TheVariants.{DomEnable, DomDisable, CssEnable, CssDisable, AskDom, AskCss}
use Rattle.cdp_messages.specs.declared.command.Command.TheVariants.{SetBreakpoint, RemoveBreakpoint, AskSearch}
use Rattle.back_end.specs.Steps.{Step, refusing, with_page, push_step, push_steps, pause_step, script_step, script_steps}
use Rattle.back_end.specs.Steps.{sheet_step, sheet_steps, deed_step, planned_step, act_step, load_step, watch_step, serial_now}
use Rattle.back_end.specs.Steps.{needs_on, needs_css, served_step, command_step}
use Rattle.node_tree.specs.declared.watches.WatchKind.{WatchKind}
use Rattle.back_end.specs.Seats.{DeskStandsFor, BothStandFor}
use Rattle.back_end.proofs.FrameLemmas.{Stays, stayed, served-marks, searches-stay}
use Rattle.back_end.proofs.HistoryLemmas.{keeps-same, keeps-crossed, keeps-cleared}
use Rattle.back_end.proofs.SeatLemmas.{on_ok, on-is}
use Rattle.back_end.proofs.SheetSeats.{dom-on}

-- ---- steps that leave the history alone

-- what is kept for the state before is kept for the state after
pub stays-kept : (h : Marks Inverse) (before after : State) → Stays before after → Keeps h before → Keeps h after
stays-kept h before after stays k =
    let same : after.side.page.next ≡ before.side.page.next = ap (λ (side : Side). side.page.next) stays.side in
    keeps-same h before after k stays.marks (ap (λ (side : Side). saved_of side.page.tree (as_book side.sheets)) stays.side)
    (omega (arith, same))

-- a command that may be refused before
command-stays : (id : ℕ) (command : Command) (state : State) → Stays state (served_step id command state).state
    → Stays state (command_step id command state).state
command-stays id command state stays = at (needs_on command && not state.client.dom_on) (needs_css command && not state.client.css_on) where
  at : (a b : Bool) → Stays state
      (cond a (refusing (Some id) DomOff state) (cond b (refusing (Some id) CssOff state) (served_step id command state))).state
  at true b = stayed state
  at false true = stayed state
  at false false = stays

stays-both : (d d1 : Desk) (s s1 : PageSide) (h : Marks Inverse) (state : State) (id : ℕ) (command : Command)
    → Stays state (served_step id command state).state → BothStandFor d h s state
    → DeskStandsFor d1 s1 (command_step id command state).state → BothStandFor d1 h s1 (command_step id command state).state
stays-both d d1 s s1 h state id command stays both stands = record {
  stands = stands;
  kept = stays-kept h state (command_step id command state).state (command-stays id command state stays) both.kept;
}

agent-stays : (id : ℕ) (ask : DomAsk) (state : State) → Stays state (served_step id (AskDom ask) state).state
agent-stays id ask state = record {
  marks = served-marks ask (session_outcome (page_shown state) state.side.page.tree ask state.client.session) state;
  side = refl;
}

watch-stays : (id : ℕ) (change : ℕ → Watched → Watched) (found : Option ℕ) (state : State)
    → Stays state (watch_step id change found state).state
watch-stays id change None state = stayed state
watch-stays id change (Some node) state = record { marks = refl; side = refl }

watches-stay : (id node : ℕ) (word : WatchKind) (state : State) → Stays state (served_step id (SetBreakpoint node word) state).state
watches-stay id node word state = watch-stays id (with_watch word) (serial_now state node) state

unwatches-stay : (id node : ℕ) (word : WatchKind) (state : State) → Stays state (served_step id (RemoveBreakpoint node word) state).state
unwatches-stay id node word state = watch-stays id (without_watch word) (serial_now state node) state

-- a command that leaves the history alone
abbrev pub LeavesAlone : Command → Type 0
LeavesAlone c = (id : ℕ) (state : State) → Stays state (served_step id c state).state

pub enables-alone : (word : Option WhitespaceWord) → LeavesAlone (DomEnable word)
enables-alone word id state = record { marks = refl; side = refl }

pub css-enables-alone : LeavesAlone CssEnable
css-enables-alone id state = record { marks = refl; side = refl }

pub css-disables-alone : LeavesAlone CssDisable
css-disables-alone id state = record { marks = refl; side = refl }

pub styles-alone : (ask : CssAsk) → LeavesAlone (AskCss ask)
styles-alone ask id state = stayed state

pub watches-alone : (node : ℕ) (word : WatchKind) → LeavesAlone (SetBreakpoint node word)
watches-alone node word id state = watches-stay id node word state

pub unwatches-alone : (node : ℕ) (word : WatchKind) → LeavesAlone (RemoveBreakpoint node word)
unwatches-alone node word id state = unwatches-stay id node word state

pub agent-alone : (ask : DomAsk) → LeavesAlone (AskDom ask)
agent-alone ask id state = agent-stays id ask state

pub searches-alone : (a : SearchAsk) → LeavesAlone (AskSearch a)
searches-alone a id state = searches-stay id a state

pub plain-both : {T E : Type 0} (result : Result T E) (d d1 : Desk) (s s1 : PageSide) (h : Marks Inverse) (state : State) (id : ℕ)
    (p q : Command) → p ≡ q → LeavesAlone p → BothStandFor d h s state
    → OnOk result (DeskStandsFor d1 s1 (command_step id p state).state)
    → OnOk result (BothStandFor d1 h s1 (command_step id q state).state)
plain-both result d d1 s s1 h state id p q is alone both done =
    subst (λ (x : Command). OnOk result (BothStandFor d1 h s1 (command_step id x state).state)) is
    (on_ok result _ _ done (stays-both d d1 s s1 h state id p (alone id state) both))

pub part-both : {T E : Type 0} (result : Result T E) (d1 : Desk) (s1 : PageSide) (h1 : Marks Inverse) (state : State) (id : ℕ)
    (p q : Command) → p ≡ q
    → OnOk result (BothStandFor d1 h1 s1 (command_step id p state).state)
    → OnOk result (BothStandFor d1 h1 s1 (command_step id q state).state)
part-both result d1 s1 h1 state id p q is done = subst
    (λ (x : Command). OnOk result (BothStandFor d1 h1 s1 (command_step id x state).state)) is done

pub part-sent : {T E : Type 0} (result : Result T E) (state : State) (id : ℕ) (p q : Command) (old new : List ℕ) → p ≡ q
    → OnOk result (new ≡ old ++ frames_of_moves (command_step id p state).moves)
    → OnOk result (new ≡ old ++ frames_of_moves (command_step id q state).moves)
part-sent result state id p q old new is done = subst
    (λ (x : Command). OnOk result (new ≡ old ++ frames_of_moves (command_step id x state).moves)) is done

-- ---- `DOM.disable`

pub disabled-both : (d d1 : Desk) (h1 : Marks Inverse) (s s1 : PageSide) (state : State) (id : ℕ) → DeskStandsFor d s state
    → d.is_on ≡ true → h1 ≡ no_marks → DeskStandsFor d1 s1 (command_step id DomDisable state).state
    → BothStandFor d1 h1 s1 (command_step id DomDisable state).state
disabled-both d d1 h1 s s1 state id before on none stands =
    let after = (command_step id DomDisable state).state in
    record {
      stands = stands;
      kept = subst (λ (h : Marks Inverse). Keeps h after) (sym none)
          (keeps-cleared after (ap (λ (done : Step). done.state.client.marks)
          (on-is id DomDisable state (dom-on DomDisable d s state before on) refl)));
    }

-- ---- a script's changes

-- the history is as before them
push-marks : (target : Option ℕ) (state : State) → (push_steps target state).state.client.marks ≡ state.client.marks
push-marks None state = refl
push-marks (Some serial) state = refl

pause-marks : (p : Option Pause) (state : State) → (pause_step p state).state.client.marks ≡ state.client.marks
pause-marks None state = refl
pause-marks (Some p) state = push-marks p.target (push_step p.node state).state

scripts-marks : (es : List TreeEdit) (state : State) → (script_steps es state).state.client.marks ≡ state.client.marks
scripts-marks [] state = refl
scripts-marks (e ∷ es) state = scripts-marks es (script_step e state).state ∙ pause-marks
    (pause_of state.client.watched state.side.page.tree e) state

sheets-marks : (cs : List SheetChange) (state : State) → (sheet_steps cs state).state.client.marks ≡ state.client.marks
sheets-marks [] state = refl
sheets-marks (c ∷ cs) state = sheets-marks cs (sheet_step c state).state

deed-kept : (h : Marks Inverse) (deed : Deed) (state : State) → Keeps h state → Keeps (crossed_over h) (deed_step deed state).state
deed-kept h (edits plan) state k =
    keeps-crossed h state (script_steps plan.edits (with_page plan.page state)).state k
    (scripts-marks plan.edits (with_page plan.page state))
deed-kept h (restyles changes) state k = keeps-crossed h state (sheet_steps changes state).state k (sheets-marks changes state)
deed-kept h (shows_on medium) state k = keeps-crossed h state (on_medium medium state) k refl

-- an act that is carried out empties the history
pub acted-kept : (h : Marks Inverse) (state : State) (act : Act) → act_fault act state.side.page (book_in state) ≡ None → Keeps h state
    → Keeps (crossed_over h) (act_step act state).state
acted-kept h state act none k =
    subst (λ (o : Option ActFault). Keeps (crossed_over h) (planned_step o (act_plan act state.side.page (book_in state)) state).state)
    (sym none)
    (deed-kept h (act_plan act state.side.page (book_in state)) state k)

-- one that is refused leaves it
pub unacted-kept : (h : Marks Inverse) (state : State) (act : Act) (f : ActFault) → act_fault act state.side.page (book_in state) ≡ Some f
    → Keeps h state → Keeps h (act_step act state).state
unacted-kept h state act f some k =
    subst (λ (o : Option ActFault). Keeps h (planned_step o (act_plan act state.side.page (book_in state)) state).state) (sym some) k

-- a load clears it
pub loaded-kept : (page : LoadedPage) (state : State) → Keeps no_marks (load_step page state).state
loaded-kept page state = keeps-cleared (load_step page state).state refl
