-- What a frame of one client is to the page, and the step that it is for another client of the same page.
use Rattle.std.specs.Prelude.{◌≡◌, ℕ, Bool, not, ◌&&◌, cond, List, [], ◌∷◌, map, Option, Some, None, Result, Ok, Err}
use Rattle.std.specs.List.{flat_map}
use Rattle.page_tree.specs.Pages.{PageValue}
use Rattle.page_tree.specs.declared.edit_faults.EditFault.{EditFault}
use Rattle.cdp_messages.specs.declared.command.Why.{Why}
use Rattle.cdp_messages.specs.declared.command.Asked.{Asked}
use Rattle.cdp_messages.specs.declared.command.Refused.{Refused}
use Rattle.cdp_messages.specs.declared.command.Command.{Command}
use Rattle.cdp_messages.specs.declared.command.Command.TheVariants.{DomEnable, DomDisable, CssEnable, CssDisable, AskDom, AskCss, EditDom}
use Rattle.cdp_messages.specs.declared.command.Command.TheVariants.{EditCss, MarkUndoableState, Undo, Redo, SetBreakpoint, RemoveBreakpoint}
use Rattle.cdp_messages.specs.declared.command.Command.TheVariants.{ReplayLoad, ReplayAct, AskSearch}
use Rattle.cdp_messages.specs.Asked.{asked}
use Rattle.client_views.specs.Moves.{Course}
use Rattle.css_agent.specs.Edits.{CssEdited, css_edited, css_splices}
use Rattle.style_edits.specs.declared.splice.Splice.{Splice}
use Rattle.undo_marks.specs.declared.inverse_lists.Inverse.{Inverse}
use Rattle.undo_marks.specs.declared.inverse_lists.Inverse.TheVariants as kept
use Rattle.back_end.specs.declared.node_edits.TreeWish.{TreeWish}
use Rattle.back_end.specs.States.{Side, State, book_in, view_of, IsState}
use Rattle.back_end.specs.Plans.{node_edit_fault, node_edit_plan}
use Rattle.back_end.specs.OwnMethods.{load_asked, act_asked}
use Rattle.back_end.specs.Steps.{Step, idle, followed_by, with_page, script_step, splice_step, crossing, undo_edits, redo_edits, edit_named}
use Rattle.back_end.specs.Steps.{lowered, serial_now, Turn, acts, loads, turn_step, needs_on, needs_css, frame_step}
use Rattle.back_end.specs.Laws.{HasRoom, reply_ids}

-- ---- what a frame is to the page

-- Edits, from the page with the drawn serials on; or a step of a script.
pub data Outward : Type 0 where
  made : PageValue → List Inverse → Outward
  turned : Turn → Outward

-- nothing
abbrev pub unchanged : State → Outward
unchanged state = made state.side.page []

-- an edit of the tree, where the page takes it
abbrev pub plan_outward : Option EditFault → TreeWish → State → Outward
plan_outward (Some f) edit state = unchanged state
plan_outward None edit state =
    let plan = node_edit_plan edit state.side.page in made plan.page (map (λ e. kept.Tree e) plan.edits)

-- the same of one whose nodes are known
abbrev pub tree_outward : Result TreeWish Why → State → Outward
tree_outward (Err why) state = unchanged state
tree_outward (Ok edit) state = plan_outward (node_edit_fault edit state.side.page) edit state

-- an edit of sheets
abbrev pub sheet_outward : CssEdited → List Splice → State → Outward
sheet_outward (Err f) splices state = unchanged state
sheet_outward (Ok done) splices state = made state.side.page (map (λ s. kept.Sheet s) splices)

-- an undo or a redo
abbrev pub taken_outward : Option (List Inverse) → State → Outward
taken_outward None state = unchanged state
taken_outward (Some es) state = made state.side.page es

-- one of our own two methods
abbrev pub own_outward : {A : Type 0} → (A → Turn) → Result A Why → State → Outward
own_outward turn_of (Err why) state = unchanged state
own_outward turn_of (Ok a) state = turned (turn_of a)

-- a command, where the domains are on that it needs
abbrev pub served_outward : Command → State → Outward
served_outward (DomEnable word) state = unchanged state
served_outward DomDisable state = unchanged state
served_outward (AskDom ask) state = unchanged state
served_outward (EditDom edit) state = tree_outward (edit_named (serial_now state) (lowered edit)) state
served_outward (AskSearch ask) state = unchanged state
served_outward MarkUndoableState state = unchanged state
served_outward Undo state = taken_outward (undo_edits state.client.marks) state
served_outward Redo state = taken_outward (redo_edits state.client.marks) state
served_outward CssEnable state = unchanged state
served_outward CssDisable state = unchanged state
served_outward (AskCss ask) state = unchanged state
served_outward (EditCss edit) state = sheet_outward (css_edited (book_in state) edit) (css_splices (book_in state) edit) state
served_outward (SetBreakpoint node word) state = unchanged state
served_outward (RemoveBreakpoint node word) state = unchanged state
served_outward (ReplayLoad params) state = own_outward loads (load_asked params) state
served_outward (ReplayAct params) state = own_outward acts (act_asked params state.side.page (book_in state)) state

-- a command
abbrev pub command_outward : Command → State → Outward
command_outward command state =
    cond (needs_on command && not state.client.dom_on) (unchanged state)
    (cond (needs_css command && not state.client.css_on) (unchanged state) (served_outward command state))

-- what was asked
abbrev pub asked_outward : Result Asked Refused → State → Outward
asked_outward (Ok a) state = command_outward a.command state
asked_outward (Err r) state = unchanged state

-- a frame
abbrev pub frame_outward : Bool → List ℕ → State → Outward
frame_outward own frame state = asked_outward (asked frame own) state

-- ---- what that is for another client

-- An edit: of the tree its pause and its events, as of a script's edit; of a sheet that it was edited, while CSS is on.
abbrev pub outside_one : Inverse → State → Step
outside_one (kept.Tree e) state = script_step e state
outside_one (kept.Sheet s) state = splice_step s state

-- edits, one after the other
abbrev pub outside_all : List Inverse → State → Step
outside_all [] state = idle state
outside_all (e ∷ es) state = followed_by (outside_one e state) (outside_all es)

-- edits that are not the client's empty its history; none leave it as it is
abbrev pub crossing_by : List Inverse → Step → Step
crossing_by [] done = done
crossing_by (e ∷ es) done = crossing done

-- the step
abbrev pub outside_step : Outward → State → Step
outside_step (made page es) state = crossing_by es (outside_all es (with_page page state))
outside_step (turned x) state = turn_step x state

-- ---- what holds of it

-- For another client of the same page, which is valid and has room, what a frame was to the page is a step of its own: the state after it
-- is valid, the page's side is the same for both, the moves lead from what this client saw to what it sees then, and answer nothing.
pub record IsOutside (side : Side) (before : State) (done : Step) : Type 0 where
  pub is_state : IsState done.state
  pub side_is : done.state.side ≡ side
  pub course : Course done.moves (view_of before) (view_of done.state)
  pub quiet : flat_map reply_ids done.moves ≡ []

abbrev pub OutsideStepsWell : Type 0
OutsideStepsWell =
    (own : Bool) (frame : List ℕ) (first other : State) → IsState first → HasRoom first → IsState other → HasRoom other
    → other.side ≡ first.side
    → IsOutside (frame_step own frame first).state.side other (outside_step (frame_outward own frame first) other)

-- What a script does by itself leads the page to the same, whoever is its client.
abbrev pub TurnsLeadAlike : Type 0
TurnsLeadAlike =
    (x : Turn) (first other : State) → other.side ≡ first.side → (turn_step x other).state.side ≡ (turn_step x first).state.side
