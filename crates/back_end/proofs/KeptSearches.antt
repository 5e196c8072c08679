-- What a search found stays as it is, step by step.
use Rattle.std.proofs.Common.{◌≡◌, ℕ, Bool, true, false, cond, List, [], ◌∷◌, Option, Some, None, Result, Ok, Err, refl, ◌∙◌}
use Rattle.page_tree.specs.declared.edits.TreeEdit.{TreeEdit}
use Rattle.page_tree.specs.declared.edit_faults.EditFault.{EditFault}
use Rattle.node_binding.specs.Sessions.{Session}
use Rattle.dom_agent.specs.Requests.{Outcome, shows_root, served, refused}
use Rattle.dom_agent.specs.Laws.{session_outcome}
use Rattle.dom_breakpoints.specs.declared.pauses.Pause.{Pause}
use Rattle.dom_breakpoints.specs.Pauses.{pause_of}
use Rattle.cdp_messages.specs.declared.command.Why.{Why}
use Rattle.cdp_messages.specs.declared.command.Why.TheVariants.{Crossed}
use Rattle.cdp_messages.specs.declared.dom_ask.DomAsk.{DomAsk}
use Rattle.css_agent.specs.Edits.{CssEdited, css_edited, css_splices}
use Rattle.style_edits.specs.declared.splice.Splice.{Splice}
use Rattle.undo_marks.specs.Marks.{Marks, undone, redone}
use Rattle.undo_marks.specs.Changes.{HistoryEntry as Entry}
use Rattle.undo_marks.specs.Saved.{Saved}
use Rattle.undo_marks.specs.declared.inverse_lists.Inverse.{Inverse}
use Rattle.undo_marks.specs.declared.inverse_lists.Inverse.TheVariants as kept
use Rattle.back_end.specs.declared.faults.ActFault.{ActFault}
use Rattle.back_end.specs.declared.node_edits.TreeWish.{TreeWish}
use Rattle.back_end.specs.Sheets.{SheetChange}
use Rattle.back_end.specs.States.{State, page_shown, book_in}
use Rattle.back_end.specs.Plans.{Deed, edits, restyles, shows_on, act_fault, act_plan, node_edit_fault, node_edit_plan, node_put}
use Rattle.back_end.specs.Steps.{Step, refusing, idle, answering, with_page, edit_step, edit_steps, push_step, push_steps, pause_step}
use Rattle.back_end.specs.Steps.{script_step, script_steps, sheet_step, sheet_steps, splice_step, splice_steps, kept_step, kept_steps}
use Rattle.back_end.specs.Steps.{taken_step, undo_edits, redo_edits, deed_step, planned_step}
use Rattle.back_end.specs.Steps.{put_answer, planned_by_client, unless_fault, node_edit_step, edit_named, serial_now, lowered}
use Rattle.back_end.specs.Steps.{restyled_step, client_served}
use Rattle.back_end.specs.SearchLaws.{KeepsFound, EditsKeepFound, AsksKeepFound, FoundIsForgotten}

edits-keep : (es : List TreeEdit) (state : State) → KeepsFound state (edit_steps es state)
edits-keep [] state = refl
edits-keep (e ∷ es) state = edits-keep es (edit_step e state).state

pushes-keep : (o : Option ℕ) (state : State) → KeepsFound state (push_steps o state)
pushes-keep None state = refl
pushes-keep (Some serial) state = refl

pause-keeps : (o : Option Pause) (state : State) → KeepsFound state (pause_step o state)
pause-keeps None state = refl
pause-keeps (Some p) state = pushes-keep p.target (push_step p.node state).state

script-keeps : (e : TreeEdit) (state : State) → KeepsFound state (script_step e state)
script-keeps e state = pause-keeps (pause_of state.client.watched state.side.page.tree e) state

scripts-keep : (es : List TreeEdit) (state : State) → KeepsFound state (script_steps es state)
scripts-keep [] state = refl
scripts-keep (e ∷ es) state = scripts-keep es (script_step e state).state ∙ script-keeps e state

sheets-keep : (cs : List SheetChange) (state : State) → KeepsFound state (sheet_steps cs state)
sheets-keep [] state = refl
sheets-keep (c ∷ cs) state = sheets-keep cs (sheet_step c state).state

splices-keep : (ss : List Splice) (state : State) → KeepsFound state (splice_steps ss state)
splices-keep [] state = refl
splices-keep (s ∷ ss) state = splices-keep ss (splice_step s state).state

kept-keeps : (e : Inverse) (state : State) → KeepsFound state (kept_step e state)
kept-keeps (kept.Tree e) state = refl
kept-keeps (kept.Sheet s) state = refl

kepts-keep : (es : List Inverse) (state : State) → KeepsFound state (kept_steps es state)
kepts-keep [] state = refl
kepts-keep (e ∷ es) state = kepts-keep es (kept_step e state).state ∙ kept-keeps e state

crossed-keeps : (id : ℕ) (state : State) (crossed : Bool)
    → KeepsFound state (cond crossed (refusing (Some id) Crossed state) (answering id (idle state)))
crossed-keeps id state true = refl
crossed-keeps id state false = refl

taken-keeps : (id : ℕ) (o : Option (List Inverse)) (marks : Marks (Entry Saved Inverse)) (state : State)
    → KeepsFound state (taken_step id o marks state)
taken-keeps id None marks state = crossed-keeps id state state.client.marks.crossed
taken-keeps id (Some es) marks state = kepts-keep es state

deed-keeps : (deed : Deed) (state : State) → KeepsFound state (deed_step deed state)
deed-keeps (edits plan) state = scripts-keep plan.edits (with_page plan.page state)
deed-keeps (restyles changes) state = sheets-keep changes state
deed-keeps (shows_on medium) state = refl

planned-keeps : (o : Option ActFault) (deed : Deed) (state : State) → KeepsFound state (planned_step o deed state)
planned-keeps None deed state = deed-keeps deed state
planned-keeps (Some f) deed state = refl

put-keeps : (id : ℕ) (o : Option ℕ) (done : Step) (state : State) → KeepsFound state done → KeepsFound state (put_answer id o done)
put-keeps id None done state keeps = keeps
put-keeps id (Some node) done state keeps = keeps

unless-keeps : (id : ℕ) (o : Option EditFault) (wish : TreeWish) (state : State) → KeepsFound state (unless_fault id o wish state)
unless-keeps id (Some f) wish state = refl
unless-keeps id None wish state =
    let plan = node_edit_plan wish state.side.page in
    put-keeps id (node_put wish state.side.page) (planned_by_client plan state) state (edits-keep plan.edits (with_page plan.page state))

wish-keeps : (id : ℕ) (r : Result TreeWish Why) (state : State) → KeepsFound state (node_edit_step id r state)
wish-keeps id (Err why) state = refl
wish-keeps id (Ok wish) state = unless-keeps id (node_edit_fault wish state.side.page) wish state

restyled-keeps : (id : ℕ) (r : CssEdited) (splices : List Splice) (state : State) → KeepsFound state (restyled_step id r splices state)
restyled-keeps id (Err f) splices state = refl
restyled-keeps id (Ok done) splices state = splices-keep splices state

-- no edit changes what a search found
pub edits-keep-found : EditsKeepFound
edits-keep-found = record {
  tree = λ id edit state. wish-keeps id (edit_named (serial_now state) (lowered edit)) state;
  sheets = λ id edit state. restyled-keeps id (css_edited (book_in state) edit) (css_splices (book_in state) edit) state;
  undo = λ id state. taken-keeps id (undo_edits state.client.marks) (undone state.client.marks) state;
  redo = λ id state. taken-keeps id (redo_edits state.client.marks) (redone state.client.marks) state;
  acts = λ act state.
      planned-keeps (act_fault act state.side.page (book_in state)) (act_plan act state.side.page (book_in state)) state;
}

served-keeps : (ask : DomAsk) (o : Outcome Session) (state : State) → (client_served ask o state.client).searches ≡ state.client.searches
served-keeps ask (shows_root b p) state = refl
served-keeps ask (served p body) state = refl
served-keeps ask (refused why) state = refl

-- nor does what is asked of nodes
pub asks-keep-found : AsksKeepFound
asks-keep-found id ask state =
    served-keeps ask (session_outcome (page_shown state) state.side.page.tree ask state.client.session) state

-- it is forgotten with a load, and with DOM
pub found-forgotten : FoundIsForgotten
found-forgotten = record { loads = λ page state. refl; turned_off = λ id state. refl }
