-- What holds of each step.
use Rattle.std.specs.Prelude.{◌≡◌, ℕ, ◌+◌, ◌*◌, ◌≤◌, ◌<◌, Bool, true, List, [], ◌∷◌, length, codes, ⊤, Option, Some, None, IfSome}
use Rattle.std.specs.Prelude.{option_and_then, Result, Ok, Err}
use Rattle.std.specs.List.{flat_map}
use Rattle.node_tree.specs.Numbers.{drawn_before_step, kept_before_step}
use Rattle.page_tree.specs.Forms.{max_nodes}
use Rattle.page_forms.specs.Acts.{IsInsertable}
use Rattle.cdp_messages.specs.declared.command.Asked.{Asked}
use Rattle.cdp_messages.specs.declared.command.Refused.{Refused}
use Rattle.cdp_messages.specs.Asked.{asked, method_name}
use Rattle.cdp_messages.specs.Laws.{answers}
use Rattle.client_views.specs.declared.effects.Effect.TheVariants.{NothingElse}
use Rattle.client_views.specs.Effects.{effect_of_method}
use Rattle.client_views.specs.Moves.{Move, change, clear, met, added, dropped, rewritten, root, texted, replied, all_off, sheets_off}
use Rattle.client_views.specs.Moves.{failed, Course}
use Rattle.css_objects.specs.Sheets.{sheet_in}
use Rattle.cdp_messages.specs.declared.command.Command.{Command}
use Rattle.cdp_messages.specs.declared.css_ask.CssAsk.{CssAsk}
use Rattle.cdp_messages.specs.declared.css_ask.CssAsk.TheVariants as css
use Rattle.css_agent.specs.Asks.{css_ask_in}
use Rattle.cdp_messages.specs.declared.css_edit.CssEdit.{CssEdit}
use Rattle.cdp_messages.specs.declared.css_edit.CssEdit.TheVariants as style
use Rattle.undo_marks.specs.Marks.{entry_count, undone, redone}
use Rattle.undo_marks.specs.Changes.{HistoryEntry as Entry, AllTaken, page_undone, page_redone}
use Rattle.undo_marks.specs.SavedEdits.{page_after, MeetsNoFault}
use Rattle.undo_marks.specs.Saved.{Saved}
use Rattle.undo_marks.specs.declared.inverse_lists.Inverse.{Inverse}
use Rattle.undo_marks.specs.declared.inverse_lists.Inverse.TheVariants.{Tree, Sheet}
use Rattle.dom_search.specs.Searches.{next_search}
use Rattle.page_forms.specs.Sheets.{max_sheets}
use Rattle.page_forms.specs.Pages.{CanLoadPage}
use Rattle.back_end.specs.States.{State, IsState, view_of, saved_now}
use Rattle.back_end.specs.Steps.{Step, Turn, acts, loads, frame_step, turn_step, undo_step, redo_step, undo_edits, redo_edits}
use Rattle.cdp_messages.specs.declared.command.Command.TheVariants.{DomEnable, DomDisable, CssEnable, CssDisable, AskDom, AskCss, EditDom}
use Rattle.cdp_messages.specs.declared.command.Command.TheVariants.{EditCss, MarkUndoableState, Undo, Redo, SetBreakpoint, RemoveBreakpoint}
use Rattle.cdp_messages.specs.declared.command.Command.TheVariants.{ReplayLoad, ReplayAct, AskSearch}
use Rattle.back_end.specs.Texts.{PageHasTexts, ActHasTexts}

-- ---- how many edits a history has

-- one for an edit of the tree, none for a splice
abbrev pub tree_edit : Inverse → ℕ
tree_edit (Tree e) = 1
tree_edit (Sheet s) = 0

-- the edits of the tree in a group
abbrev pub tree_edits_in : List (Entry Saved Inverse) → ℕ
tree_edits_in [] = 0
tree_edits_in (e ∷ es) = tree_edit e.edit + tree_edits_in es

-- the edits of the tree in groups
abbrev pub tree_edits_among : List (List (Entry Saved Inverse)) → ℕ
tree_edits_among [] = 0
tree_edits_among (g ∷ gs) = tree_edits_in g + tree_edits_among gs

-- all edits of the tree that the history has
abbrev pub tree_edits : State → ℕ
tree_edits state = tree_edits_among state.client.marks.past + tree_edits_among state.client.marks.future

-- all its edits
abbrev pub edits_kept : State → ℕ
edits_kept state = entry_count state.client.marks.past + entry_count state.client.marks.future

-- how many edits a client's edit of sheets comes to at most
abbrev pub most_splices : CssEdit → ℕ
most_splices (style.SetStyleTexts edits) = length edits
most_splices (style.SetRuleSelector sheet range selector) = 1
most_splices (style.SetStyleSheetText sheet text) = 1
most_splices (style.AddRule sheet rule_text location) = 1
most_splices (style.SetMediaText sheet range text) = 1

-- how many edits a command comes to at most
abbrev pub most_edits : Command → ℕ
most_edits (DomEnable word) = 0
most_edits DomDisable = 0
most_edits (AskDom ask) = 0
most_edits (EditDom edit) = 2
most_edits (AskSearch ask) = 0
most_edits MarkUndoableState = 0
most_edits Undo = 0
most_edits Redo = 0
most_edits CssEnable = 0
most_edits CssDisable = 0
most_edits (AskCss ask) = 0
most_edits (EditCss edit) = most_splices edit
most_edits (SetBreakpoint node kind) = 0
most_edits (RemoveBreakpoint node kind) = 0
most_edits (ReplayLoad params) = 0
most_edits (ReplayAct params) = 0

-- how many a frame does
abbrev pub edits_asked : Result Asked Refused → ℕ
edits_asked (Ok a) = most_edits a.command
edits_asked (Err r) = 0

-- ---- room

-- ids, serials, numbers of sheets and searches, and places in the history are left for a step
pub record HasRoom (state : State) : Type 0 where
  pub ids : length state.client.session.pushed + 1 < drawn_before_step
  pub serials : state.side.page.next < drawn_before_step
  pub sheets : state.side.next_sheet < drawn_before_step
  pub edits : edits_kept state < kept_before_step
  pub searches : next_search state.client.searches < drawn_before_step

-- Ids that a step may draw beside those of the nodes that an undo puts back: an edit by a script makes two nodes known before it, each
-- with all that is beside it and above, and a move is two edits.
abbrev pub most_ids : ℕ
most_ids = 5 * max_nodes

-- The state after a step is valid; the moves lead the view to the view of it; and a step draws few ids, few serials and few numbers
-- of sheets, at most one number of a search, and keeps few edits of the tree: each of these may come to a new id when it is taken back
-- or done again.
pub record StepsWell (before : State) (done : Step) : Type 0 where
  pub is_state : IsState done.state
  pub course : Course done.moves (view_of before) (view_of done.state)
  pub ids : length done.state.client.session.pushed ≤ length before.client.session.pushed + (most_ids + tree_edits before)
  pub serials : done.state.side.page.next ≤ before.side.page.next + (max_nodes + 1)
  pub sheets : done.state.side.next_sheet ≤ before.side.next_sheet + max_sheets
  pub trees : tree_edits done.state ≤ tree_edits before + 2
  pub searches : done.state.client.searches.given ≤ before.client.searches.given + 1

-- a move that may answer a command of that method; an event answers none
abbrev pub MayAnswer : List ℕ → Move → Type 0
MayAnswer method (change id c) = ⊤
MayAnswer method clear = ⊤
MayAnswer method (met why) = ⊤
MayAnswer method (added s) = ⊤
MayAnswer method (dropped n) = ⊤
MayAnswer method (rewritten n text) = ⊤
MayAnswer method (root id b) = method ≡ codes "DOM.getDocument"
MayAnswer method (texted id n text) = method ≡ codes "CSS.getStyleSheetText"
MayAnswer method (replied id body) = (answers method body ≡ true) × (effect_of_method method ≡ NothingElse)
MayAnswer method (all_off id) = method ≡ codes "DOM.disable"
MayAnswer method (sheets_off id) = method ≡ codes "CSS.disable"
MayAnswer method (failed r) = ⊤

-- each of these moves may answer
abbrev pub MayAnswerAll : List ℕ → List Move → Type 0
MayAnswerAll method [] = ⊤
MayAnswerAll method (m ∷ ms) = MayAnswer method m × MayAnswerAll method ms

-- the sheet whose text an ask asks for
abbrev pub text_asked_by : CssAsk → Option ℕ
text_asked_by (css.GetMatchedStyles node) = None
text_asked_by (css.GetStyleSheetText sheet) = sheet_in sheet
text_asked_by (css.CollectClassNames sheet) = None

-- the sheet whose text a command asks for
abbrev pub text_asked : Command → Option ℕ
text_asked c = option_and_then text_asked_by (css_ask_in c)

-- a text that is told is that of this sheet
abbrev pub TellsTextOf : Option ℕ → Move → Type 0
TellsTextOf sheet (change id c) = ⊤
TellsTextOf sheet clear = ⊤
TellsTextOf sheet (met why) = ⊤
TellsTextOf sheet (added s) = ⊤
TellsTextOf sheet (dropped n) = ⊤
TellsTextOf sheet (rewritten n text) = ⊤
TellsTextOf sheet (root id b) = ⊤
TellsTextOf sheet (texted id n text) = sheet ≡ Some n
TellsTextOf sheet (replied id body) = ⊤
TellsTextOf sheet (all_off id) = ⊤
TellsTextOf sheet (sheets_off id) = ⊤
TellsTextOf sheet (failed r) = ⊤

-- each text that is told is
abbrev pub TellTextOf : Option ℕ → List Move → Type 0
TellTextOf sheet [] = ⊤
TellTextOf sheet (m ∷ ms) = TellsTextOf sheet m × TellTextOf sheet ms

-- the id of a move that is a reply; an error reply may have none
abbrev pub reply_ids : Move → List (Option ℕ)
reply_ids (change id c) = []
reply_ids clear = []
reply_ids (met why) = []
reply_ids (added s) = []
reply_ids (dropped n) = []
reply_ids (rewritten n text) = []
reply_ids (root id b) = Some id ∷ []
reply_ids (texted id n text) = Some id ∷ []
reply_ids (replied id body) = Some id ∷ []
reply_ids (all_off id) = Some id ∷ []
reply_ids (sheets_off id) = Some id ∷ []
reply_ids (failed r) = r.id ∷ []

-- A command is answered once, under its id, by what its method answers, and with the text of a sheet only where it asks for that;
-- what is refused as a frame is answered by that refusal.
abbrev pub IsAnswered : Result Asked Refused → List Move → Type 0
IsAnswered (Ok a) moves =
    (flat_map reply_ids moves ≡ Some a.id ∷ []) × MayAnswerAll (method_name a.command) moves × TellTextOf (text_asked a.command) moves
IsAnswered (Err r) moves = moves ≡ failed r ∷ []

-- No more edits are kept than before and so many.
abbrev pub KeepsAtMost : ℕ → State → State → Type 0
KeepsAtMost more before after = edits_kept after ≤ edits_kept before + more

-- the step on a frame, whether our own two methods are known or not
abbrev pub FramesStepWell : Type 0
FramesStepWell =
    (own : Bool) (state : State) (frame : List ℕ) → IsState state → HasRoom state
    → StepsWell state (frame_step own frame state) × IsAnswered (asked frame own) (frame_step own frame state).moves
    × KeepsAtMost (edits_asked (asked frame own)) state (frame_step own frame state).state

-- What an undo and a redo come to: the very tree and texts that were saved before the newest group, or after the group that was taken
-- back last, and no edit on the way meets a fault or a limit; where there is no such group, nothing changes.
pub record Restores (state : State) : Type 0 where
  pub undone_page : (id : ℕ) → saved_now (undo_step id state).state ≡ page_undone state.client.marks.past (saved_now state)
  pub undone_marks : (id : ℕ) → (undo_step id state).state.client.marks ≡ undone state.client.marks
  pub undo_faultless : IfSome (undo_edits state.client.marks) (λ es. AllTaken page_after MeetsNoFault es (saved_now state))
  pub redone_page : (id : ℕ) → saved_now (redo_step id state).state ≡ page_redone state.client.marks.future (saved_now state)
  pub redone_marks : (id : ℕ) → (redo_step id state).state.client.marks ≡ redone state.client.marks
  pub redo_faultless : IfSome (redo_edits state.client.marks) (λ es. AllTaken page_after MeetsNoFault es (saved_now state))

-- of each state that can be
abbrev pub UndoRestores : Type 0
UndoRestores = (state : State) → IsState state → Restores state

-- what a script may do: the page may be loaded, and new nodes have the form that an insert asks for; texts are UTF-8
abbrev pub IsTurn : Turn → Type 0
IsTurn (acts act) = IsInsertable act × ActHasTexts act
IsTurn (loads page) = CanLoadPage page × PageHasTexts page

-- the steps of what a script may do, which answer nothing
abbrev pub TurnsStepWell : Type 0
TurnsStepWell =
    (state : State) (x : Turn) → IsState state → HasRoom state → IsTurn x
    → StepsWell state (turn_step x state) × (flat_map reply_ids (turn_step x state).moves ≡ [])
    × KeepsAtMost 0 state (turn_step x state).state
