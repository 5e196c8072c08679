-- The steps of a state: on each frame that comes up, and those that a script makes itself. A step gives the state after it, and
-- the moves by which the client's view comes to what it is then.
use Rattle.std.specs.Prelude.{ℕ, ◌+◌, Bool, true, false, not, ◌&&◌, ◌||◌, cond, List, [], ◌∷◌, ◌++◌, map, reverse, Option, Some, None}
use Rattle.std.specs.Prelude.{length, filter, is_some}
use Rattle.std.specs.FinMap as table
use Rattle.std.specs.Prelude.{unwrap_or, option_map, Result, Ok, Err}
use Rattle.std.specs.Char.{to_ascii_lowercase}
use Rattle.node_tree.specs.Nodes.{Branch}
use Rattle.node_tree.specs.Labels.{is_element}
use Rattle.page_tree.specs.Pages.{PageRow, PageValue, find_in}
use Rattle.page_tree.specs.Edits.{after}
use Rattle.page_tree.specs.EditFaults.{first_fault}
use Rattle.page_tree.specs.declared.edit_faults.EditFault.{EditFault}
use Rattle.page_tree.specs.declared.edits.TreeEdit.{TreeEdit}
use Rattle.page_tree.specs.declared.edits.TreeEdit.TheVariants.{SetAttr, DropAttr, SetText, Attach, Detach}
use Rattle.page_forms.specs.declared.acts.Act.{Act}
use Rattle.page_forms.specs.Pages.{LoadedPage}
use Rattle.shown_pages.specs.declared.modes.Mode.{Mode}
use Rattle.shown_pages.specs.declared.modes.Mode.TheVariants.{All, NoBlank}
use Rattle.shown_pages.specs.declared.sights.TextSight.{TextSight}
use Rattle.shown_pages.specs.declared.sights.TextSight.TheVariants.{Unseen, Comes, Goes, Stays}
use Rattle.shown_pages.specs.ShownEdits.{sight_at}
use Rattle.node_binding.specs.Sessions.{Session, is_open, session_ids, serial_at, reset}
use Rattle.cdp_messages.specs.declared.command.WhitespaceWord.{WhitespaceWord}
use Rattle.cdp_messages.specs.declared.command.WhitespaceWord.TheVariants.{Hidden, Shown}
use Rattle.cdp_messages.specs.declared.command.Why.{Why}
use Rattle.cdp_messages.specs.declared.command.Why.TheVariants.{DomOff, CssOff, UnknownNode, NotElement, NoSheet, Crossed, NotPushed}
use Rattle.cdp_messages.specs.declared.command.Why.TheVariants.{NoSearch, BadSearchRange}
use Rattle.cdp_messages.specs.declared.command.Asked.{Asked}
use Rattle.cdp_messages.specs.declared.command.Refused.{Refused}
use Rattle.cdp_messages.specs.declared.dom_ask.DomAsk.{DomAsk}
use Rattle.cdp_messages.specs.declared.dom_ask.DomAsk.TheVariants.{PushBySerials}
use Rattle.cdp_messages.specs.declared.search_ask.SearchAsk.{SearchAsk}
use Rattle.cdp_messages.specs.declared.search_ask.SearchAsk.TheVariants as search
use Rattle.cdp_messages.specs.SearchIds.{search_in}
use Rattle.dom_search.specs.declared.searches.SearchFault.{SearchFault}
use Rattle.dom_search.specs.declared.searches.SearchFault.TheVariants as no
use Rattle.dom_search.specs.Found.{found_in}
use Rattle.dom_search.specs.Searches.{Kept as Searched, next_search, with_search, without_search, forgotten, slice_of}
use Rattle.cdp_messages.specs.declared.down.PauseData.{PauseData}
use Rattle.cdp_messages.specs.declared.down.PauseData.TheVariants as told_pause
use Rattle.cdp_messages.specs.declared.down.ReplyBody.{ReplyBody}
use Rattle.cdp_messages.specs.declared.down.ReplyBody.TheVariants.{Nothing, NodeId, Search}
use Rattle.cdp_messages.specs.Asked.{asked, method_of}
use Rattle.cdp_messages.specs.Methods.{domains_of, needs_dom, needs_both, turns_dom_on}
use Rattle.sheet_reader.specs.declared.book.SheetEntry.{SheetEntry}
use Rattle.client_views.specs.Views.{ShownSheet, sheets_without, sheets_with_text}
use Rattle.client_views.specs.Moves.{Move, clear, met, rewritten, added, dropped, texted, replied, all_off, sheets_off, failed}
use Rattle.cdp_messages.specs.declared.css_ask.CssAsk.{CssAsk}
use Rattle.cdp_messages.specs.declared.css_ask.CssAsk.TheVariants as css
use Rattle.css_agent.specs.Asks.{css_outcome, answer_move, sheet_named}
use Rattle.cdp_messages.specs.declared.css_edit.CssEdit.{CssEdit}
use Rattle.css_agent.specs.Edits.{CssEdited, css_edited, css_splices, text_under}
use Rattle.style_edits.specs.declared.splice.Splice.{Splice}
use Rattle.style_edits.specs.Splices.{after_splice}
use Rattle.dom_agent.specs.Keepers.{session_keeper}
use Rattle.dom_agent.specs.Requests.{pushed, opening_moves, Outcome, shows_root, served, refused, known_node, moves_of}
use Rattle.dom_agent.specs.Edits.{Edited}
use Rattle.dom_agent.specs.ModeEdits.{shown_session_edited}
use Rattle.dom_agent.specs.Laws.{session_outcome}
use Rattle.node_tree.specs.declared.watches.WatchKind.{WatchKind}
use Rattle.node_tree.specs.declared.watches.WatchKind.TheVariants as watch
use Rattle.dom_breakpoints.specs.declared.pauses.Pause.{Pause}
use Rattle.dom_breakpoints.specs.Pauses.{pause_of}
use Rattle.dom_breakpoints.specs.Watched.{Watched, with_watch, without_watch, without_subtree}
use Rattle.undo_marks.specs.Marks.{Marks, newest, edited, marked, crossed_over, undone, redone}
use Rattle.undo_marks.specs.Changes.{HistoryEntry as Entry, changes_on, backs_of}
use Rattle.undo_marks.specs.Saved.{Saved}
use Rattle.undo_marks.specs.SavedEdits.{page_after, way_back}
use Rattle.undo_marks.specs.declared.inverse_lists.Inverse.{Inverse}
use Rattle.undo_marks.specs.declared.inverse_lists.Inverse.TheVariants as kept
use Rattle.undo_marks.specs.declared.histories.Direction.{Direction}
use Rattle.undo_marks.specs.declared.histories.Direction.TheVariants as directions
use Rattle.back_end.specs.declared.faults.ActFault.{ActFault}
use Rattle.cdp_messages.specs.declared.dom_edit.DomEdit.{DomEdit}
use Rattle.cdp_messages.specs.declared.dom_edit.DomEdit.TheVariants as tree
use Rattle.back_end.specs.declared.node_edits.TreeWish.{TreeWish}
use Rattle.back_end.specs.declared.node_edits.TreeWish.TheVariants.{One, MoveNode, CopyNode}
use Rattle.back_end.specs.Sheets.{shown_sheet, SheetChange, leaves, comes}
use Rattle.media_rules.specs.declared.medium.Medium.{Medium}
use Rattle.back_end.specs.States.{Side, Client, State, page_shown, nodes_shown, book_in, styled_in, new_client, loaded_side, saved_now}
use Rattle.back_end.specs.Plans.{Plan, node_edit_fault, node_edit_plan, node_put, Deed, edits, restyles, shows_on, one_edit, edit_fault}
use Rattle.back_end.specs.Plans.{act_fault, act_plan}
use Rattle.back_end.specs.OwnMethods.{edit_why, sheet_why, load_asked, act_judged, act_asked}
use Rattle.cdp_messages.specs.declared.command.Command.{Command}
use Rattle.cdp_messages.specs.declared.command.Command.TheVariants.{DomEnable, DomDisable, CssEnable, CssDisable, AskDom, AskCss, EditDom}
use Rattle.cdp_messages.specs.declared.command.Command.TheVariants.{EditCss, MarkUndoableState, Undo, Redo, SetBreakpoint, RemoveBreakpoint}
use Rattle.cdp_messages.specs.declared.command.Command.TheVariants.{ReplayLoad, ReplayAct, AskSearch}

-- what a step makes: the state after it, and what it tells the client
pub record Step : Type 0 where
  pub state : State
  pub moves : List Move

-- a step that tells something first
abbrev pub telling_first : List Move → Step → Step
telling_first before later = record later { moves = before ++ later.moves }

-- a step that changes nothing, and tells a refusal
abbrev pub refusing : Option ℕ → Why → State → Step
refusing id why state = record { state = state; moves = failed (record { id = id; why = why }) ∷ [] }

-- the state with another client
abbrev pub with_client : Client → State → State
with_client client state = record state { client = client }

-- a step that changes nothing, and tells nothing
abbrev pub idle : State → Step
idle state = record { state = state; moves = [] }

-- a step that is answered at last by this result
abbrev pub replying : ℕ → ReplyBody → Step → Step
replying id body done = record done { moves = done.moves ++ replied id body ∷ [] }

-- a step that is answered at last by the empty result
abbrev pub answering : ℕ → Step → Step
answering id done = replying id Nothing done

-- ---- what becomes known

-- a node and all above it become known: each ancestor that is not opened yet is opened, from the top down; nothing becomes known where
-- the node is hidden
abbrev pub push_step : ℕ → State → Step
push_step serial state =
    let p = pushed (session_keeper (nodes_shown state)) (page_shown state).tree serial state.client.session in
    record { state = with_client (record state.client { session = p.state }) state; moves = opening_moves p.shown }

-- the client is shown a node of that serial
abbrev pub is_shown_now : State → ℕ → Bool
is_shown_now state serial = is_some (find_in serial (page_shown state).tree)

-- the node with that serial and all above it become known, where there is one
abbrev pub push_steps : Option ℕ → State → Step
push_steps None state = idle state
push_steps (Some serial) state = push_step serial state

-- the id of a known node
abbrev pub id_now : State → ℕ → ℕ
id_now state serial = session_ids state.client.session serial

-- the id that is told of a node: that of a known one; 0 where it is hidden
abbrev pub id_told : State → ℕ → ℕ
id_told state serial = cond (is_shown_now state serial) (id_now state serial) 0

-- the serial of the known node with that id
abbrev pub serial_now : State → ℕ → Option ℕ
serial_now state id = serial_at state.client.session (nodes_shown state) id

-- ---- edits of the page

-- the watches that are left after the setting of a text, by how it is seen: those of a text that hides itself are dropped
abbrev pub watches_of_text : TextSight → ℕ → Branch PageRow → Watched → Watched
watches_of_text Unseen node tree w = w
watches_of_text Comes node tree w = w
watches_of_text Goes node tree w = without_subtree node tree w
watches_of_text Stays node tree w = w

-- the watches that are left after an edit of that tree: those of a tree that goes are dropped, and those of a text that hides itself
abbrev pub watches_left : Mode → TreeEdit → Branch PageRow → Watched → Watched
watches_left mode (SetAttr node name value) tree w = w
watches_left mode (DropAttr node name) tree w = w
watches_left mode (SetText node value) tree w = watches_of_text (sight_at mode node value tree) node tree w
watches_left mode (Attach parent before attached) tree w = w
watches_left mode (Detach node) tree w = without_subtree node tree w

-- the watches of the state's client that are left after an edit of the page
abbrev pub watched_after : TreeEdit → State → Watched
watched_after e state = watches_left state.client.mode e state.side.page.tree state.client.watched

-- what an edit comes to for the state's session
abbrev pub edited_by : TreeEdit → State → Edited Session
edited_by e state = shown_session_edited state.client.mode e state.side.page state.client.session

-- the state with another page
abbrev pub with_page : PageValue → State → State
with_page page state = record state { side = record state.side { page = page } }

-- the client after an edit
abbrev pub client_edited : TreeEdit → State → Client
client_edited e state = record state.client { session = (edited_by e state).state; watched = watched_after e state }

-- one edit of the page, with its events
abbrev pub edit_step : TreeEdit → State → Step
edit_step e state = record {
  state = with_client (client_edited e state) (with_page (after e state.side.page) state);
  moves = (edited_by e state).moves;
}

-- a client's edits, one after the other
abbrev pub edit_steps : List TreeEdit → State → Step
edit_steps [] state = idle state
edit_steps (e ∷ es) state = let first = edit_step e state in telling_first first.moves (edit_steps es first.state)

-- ---- pauses

-- what is told of a pause; nodes are named by their ids
abbrev pub pause_data : WatchKind → Pause → (ℕ → ℕ) → PauseData
pause_data watch.Subtree p ids = told_pause.Subtree (ids p.node) (ids (unwrap_or p.target 0)) p.insertion
pause_data watch.Attribute p ids = told_pause.Attribute (ids p.node)
pause_data watch.Removed p ids = told_pause.Removed (ids p.node)

-- a pause is told, whose nodes are known; 0 is told of a target that is hidden
abbrev pub met_step : Pause → State → Step
met_step p state = record { state = state; moves = met (pause_data p.kind p (id_told state)) ∷ [] }

-- the step by another one, and then by this one
abbrev pub followed_by : Step → (State → Step) → Step
followed_by first later = telling_first first.moves (later first.state)

-- a pause: the watched node becomes known, then the target where it is shown, and then it is told
abbrev pub pause_step : Option Pause → State → Step
pause_step None state = idle state
pause_step (Some p) state = followed_by (followed_by (push_step p.node state) (push_steps p.target)) (met_step p)

-- the pause that an edit by a script comes to
abbrev pub pause_before : TreeEdit → State → Step
pause_before e state = pause_step (pause_of state.client.watched state.side.page.tree e) state

-- an edit by a script: its pause, and then its events
abbrev pub script_step : TreeEdit → State → Step
script_step e state = followed_by (pause_before e state) (edit_step e)

-- a script's edits, one after the other
abbrev pub script_steps : List TreeEdit → State → Step
script_steps [] state = idle state
script_steps (e ∷ es) state = followed_by (script_step e state) (script_steps es)

-- ---- changes of the sheets

-- the page's side after a change of its sheets
abbrev pub side_changed : SheetChange → Side → Side
side_changed (leaves number) side = record side { sheets = sheets_without number side.sheets }
side_changed (comes origin text) side = record side {
  sheets = side.sheets ++ shown_sheet side.next_sheet origin text ∷ [];
  next_sheet = side.next_sheet + 1;
}

-- the move that tells a change of the sheets
abbrev pub sheet_move : SheetChange → Side → Move
sheet_move (leaves number) side = dropped number
sheet_move (comes origin text) side = added (shown_sheet side.next_sheet origin text)

-- moves that are told while the domain CSS is on
abbrev pub while_css : State → List Move → List Move
while_css state moves = cond state.client.css_on moves []

-- one change of the sheets, with its event
abbrev pub sheet_step : SheetChange → State → Step
sheet_step change state = record {
  state = record state { side = side_changed change state.side };
  moves = while_css state (sheet_move change state.side ∷ []);
}

-- changes of the sheets, one after the other
abbrev pub sheet_steps : List SheetChange → State → Step
sheet_steps [] state = record { state = state; moves = [] }
sheet_steps (c ∷ cs) state = let first = sheet_step c state in telling_first first.moves (sheet_steps cs first.state)

-- ---- the medium

-- the state whose page is shown on that medium
abbrev pub on_medium : Medium → State → State
on_medium medium state = record state { side = record state.side { medium = medium } }

-- ---- edits of sheets' texts

-- a splice of a sheet's text, which is told while the domain CSS is on
abbrev pub splice_step : Splice → State → Step
splice_step s state =
    let text = text_under s.sheet (after_splice s (book_in state)) in
    record {
      state = record state { side = record state.side { sheets = sheets_with_text s.sheet text state.side.sheets } };
      moves = while_css state (rewritten s.sheet text ∷ []);
    }

-- splices of sheets' texts, one after the other
abbrev pub splice_steps : List Splice → State → Step
splice_steps [] state = idle state
splice_steps (s ∷ ss) state = followed_by (splice_step s state) (splice_steps ss)

-- ---- the history of a client's edits

-- the state with another history
abbrev pub with_marks : Marks (Entry Saved Inverse) → State → State
with_marks marks state = with_client (record state.client { marks = marks }) state

-- The step by which a client made these edits, from that state on: each is kept with the pages before and after it, all as one edit.
abbrev pub keeping : List Inverse → State → Step → Step
keeping es before done = record done {
  state = with_marks (edited (changes_on page_after es (saved_now before)) before.client.marks) done.state;
}

-- an edit out of a history: one of the tree, or a splice of a sheet's text
abbrev pub kept_step : Inverse → State → Step
kept_step (kept.Tree e) state = edit_step e state
kept_step (kept.Sheet s) state = splice_step s state

-- edits out of a history, one after the other
abbrev pub kept_steps : List Inverse → State → Step
kept_steps [] state = idle state
kept_steps (e ∷ es) state = followed_by (kept_step e state) (kept_steps es)

-- what takes the newest group back: of each entry the edit that leads back, the newest first
abbrev pub undo_edits : Marks (Entry Saved Inverse) → Option (List Inverse)
undo_edits m = option_map (λ g. reverse (backs_of way_back g)) (newest m.past)

-- what does the group again that was taken back last: of each entry the edit, the oldest first
abbrev pub redo_edits : Marks (Entry Saved Inverse) → Option (List Inverse)
redo_edits m = option_map (λ g. map (λ e. e.edit) g) (newest m.future)

-- what a group comes to that is taken back, or done again
abbrev pub taken_edits : Direction → Marks (Entry Saved Inverse) → Option (List Inverse)
taken_edits directions.Undo m = undo_edits m
taken_edits directions.Redo m = redo_edits m

-- the command that takes a group back, and the one that does it again
abbrev pub taking_command : Direction → Command
taking_command directions.Undo = Undo
taking_command directions.Redo = Redo

-- These edits are carried out, and the history is this one then. Where there are none, nothing changes; but where a change that is
-- not the client's has emptied the history, that is refused.
abbrev pub taken_step : ℕ → Option (List Inverse) → Marks (Entry Saved Inverse) → State → Step
taken_step id None marks state = cond state.client.marks.crossed (refusing (Some id) Crossed state) (answering id (idle state))
taken_step id (Some es) marks state =
    let done = kept_steps es state in
    answering id (record { state = with_marks marks done.state; moves = done.moves })

-- the newest group is taken back
abbrev pub undo_step : ℕ → State → Step
undo_step id state = taken_step id (undo_edits state.client.marks) (undone state.client.marks) state

-- the group that was taken back last is done again
abbrev pub redo_step : ℕ → State → Step
redo_step id state = taken_step id (redo_edits state.client.marks) (redone state.client.marks) state

-- the group that is going on is ended
abbrev pub mark_step : ℕ → State → Step
mark_step id state = answering id (idle (with_marks (marked state.client.marks) state))

-- ---- what a script does

-- a change that is not the client's empties the history
abbrev pub with_crossed : State → State
with_crossed state = with_marks (crossed_over state.client.marks) state

-- a step that is not the client's
abbrev pub crossing : Step → Step
crossing done = record done { state = with_crossed done.state }

-- edits of the page, from that with the drawn serials; or changes of its sheets
abbrev pub deed_step : Deed → State → Step
deed_step (edits plan) state = crossing (script_steps plan.edits (with_page plan.page state))
deed_step (restyles changes) state = crossing (sheet_steps changes state)
deed_step (shows_on medium) state = crossing (idle (on_medium medium state))

-- an act that is refused changes nothing, and tells nothing
abbrev pub planned_step : Option ActFault → Deed → State → Step
planned_step None deed state = deed_step deed state
planned_step (Some f) deed state = record { state = state; moves = [] }

-- the step of an act
abbrev pub act_step : Act → State → Step
act_step act state = planned_step (act_fault act state.side.page (book_in state)) (act_plan act state.side.page (book_in state)) state

-- the step of one edit by a script
abbrev pub lone_step : TreeEdit → State → Step
lone_step e state = planned_step (edit_fault (first_fault e state.side.page.tree)) (one_edit e state.side.page) state

-- the client of a page that goes: nothing is known, the ids are dead, no node is watched, and no edit and nothing found is kept; it
-- is shown what it was shown
abbrev pub client_reset : Bool → Client → Client
client_reset on client = record new_client {
  dom_on = on;
  css_on = client.css_on && on;
  mode = client.mode;
  session = reset client.session;
  searches = forgotten client.searches;
}

-- the moves that tell that sheets go, each by itself
abbrev pub moves_gone : List ShownSheet → List Move
moves_gone sheets = map (λ s. dropped s.number) sheets

-- the moves that tell that sheets come, each by itself
abbrev pub moves_come : List ShownSheet → List Move
moves_come sheets = map (λ s. added s) sheets

-- the side after a load: serials and numbers of sheets go on
abbrev pub side_loaded : LoadedPage → Side → Side
side_loaded page side = loaded_side side.page.next side.next_sheet page

-- A load puts a new page in the place of the old one. A client whose DOM is on is told, and then, where its CSS is on, that each old
-- sheet goes and that each new one comes.
abbrev pub load_step : LoadedPage → State → Step
load_step page state = record {
  state = record { side = side_loaded page state.side; client = client_reset state.client.dom_on state.client };
  moves = cond state.client.dom_on (clear ∷ []) []
      ++ while_css state (moves_gone state.side.sheets ++ moves_come (side_loaded page state.side).sheets);
}

-- what a script does by itself
pub data Turn : Type 0 where
  acts : Act → Turn
  loads : LoadedPage → Turn

-- the step of what a script does by itself
abbrev pub turn_step : Turn → State → Step
turn_step (acts act) state = act_step act state
turn_step (loads page) state = load_step page state

-- ---- commands

-- a command that is refused while DOM is off
abbrev pub needs_on : Command → Bool
needs_on c = needs_dom (domains_of (method_of c))

-- an ask that is refused while DOM is off
abbrev pub ask_needs_on : DomAsk → Bool
ask_needs_on ask = needs_on (AskDom ask)

-- a command that is refused while CSS is off
abbrev pub needs_css : Command → Bool
needs_css c = needs_both (domains_of (method_of c))

-- why a command is refused whatever it says, where DOM and CSS are on or off so: a domain that it needs is off
abbrev pub missing : Bool → Bool → Command → Option Why
missing dom_on css_on command =
    cond (needs_on command && not dom_on) (Some DomOff) (cond (needs_css command && not css_on) (Some CssOff) None)

-- an ask that turns DOM on
abbrev pub turns_on : DomAsk → Bool
turns_on ask = turns_dom_on (domains_of (method_of (AskDom ask)))

-- the client after what its DOM agent was asked: one whose ask was refused is as before
abbrev pub client_served : DomAsk → Outcome Session → Client → Client
client_served ask (shows_root b p) client = record client { dom_on = client.dom_on || turns_on ask; session = p.state }
client_served ask (served p body) client = record client { dom_on = client.dom_on || turns_on ask; session = p.state }
client_served ask (refused why) client = client

-- the step on what the DOM agent is asked; an ask that turns DOM on finds that all nodes are shown, as they are while it is off
abbrev pub agent_step : ℕ → DomAsk → State → Step
agent_step id ask state =
    let outcome = session_outcome (page_shown state) state.side.page.tree ask state.client.session in
    record { state = with_client (client_served ask outcome state.client) state; moves = moves_of id outcome }

-- ---- the commands of the domain CSS

-- the serial of a node that is to be an element, or why there is none
abbrev pub element_serial : Option (Branch PageRow) → Result ℕ Why
element_serial None = Err UnknownNode
element_serial (Some b) = cond (is_element b.row.label.kind) (Ok b.row.serial) (Err NotElement)

-- the serial of the known element that has the id, or why there is none
abbrev pub element_named : ℕ → State → Result ℕ Why
element_named node state =
    let w = state.client.session in
    let n = nodes_shown state in
    element_serial (known_node (session_keeper n) (page_shown state).tree w (serial_at w n node))

-- the move that answers an ask of the node that was named, or the refusal
abbrev pub node_answer : ℕ → CssAsk → Result ℕ Why → State → Move
node_answer id ask (Err why) state = failed (record { id = Some id; why = why })
node_answer id ask (Ok serial) state = answer_move id (css_outcome (styled_in state) serial ask)

-- the move that answers an ask for the text of a sheet
abbrev pub text_answer : ℕ → Option SheetEntry → Move
text_answer id None = failed (record { id = Some id; why = NoSheet })
text_answer id (Some e) = texted id e.id e.text

-- the move that answers what the CSS agent is asked
abbrev pub css_answer : ℕ → CssAsk → State → Move
css_answer id (css.GetMatchedStyles node) state = node_answer id (css.GetMatchedStyles node) (element_named node state) state
css_answer id (css.GetStyleSheetText sheet) state = text_answer id (sheet_named sheet (book_in state))
css_answer id (css.CollectClassNames sheet) state =
    answer_move id (css_outcome (styled_in state) 0 (css.CollectClassNames sheet))

-- the step on what the CSS agent is asked
abbrev pub css_step : ℕ → CssAsk → State → Step
css_step id ask state = record { state = state; moves = css_answer id ask state ∷ [] }

-- the step that turns the domain CSS on: each sheet comes, where it was off
abbrev pub css_on_step : ℕ → State → Step
css_on_step id state = record {
  state = with_client (record state.client { css_on = true }) state;
  moves = cond state.client.css_on [] (moves_come state.side.sheets) ++ replied id Nothing ∷ [];
}

-- the step that turns the domain CSS off
abbrev pub css_off_step : ℕ → State → Step
css_off_step id state = record { state = with_client (record state.client { css_on = false }) state; moves = sheets_off id ∷ [] }

-- ---- a client's edits of the tree

-- an edit of one known node
abbrev pub of_node : (ℕ → TreeWish) → Option ℕ → Result TreeWish Why
of_node edit None = Err UnknownNode
of_node edit (Some node) = Ok (edit node)

-- an edit that puts a node before a known one
abbrev pub put_before_known : (ℕ → ℕ → ℕ → TreeWish) → ℕ → ℕ → Option ℕ → Result TreeWish Why
put_before_known edit node parent None = Err UnknownNode
put_before_known edit node parent (Some before) = Ok (edit node parent before)

-- an edit that puts a node below a known one, before a known one or last
abbrev pub put_below : (ℕ → ℕ → ℕ → TreeWish) → ℕ → Option ℕ → Option ℕ → Result TreeWish Why
put_below edit node None before = Err UnknownNode
put_below edit node (Some parent) before = put_before_known edit node parent before

-- an edit that puts a known node below a known one, before a known one or last
abbrev pub put_node : (ℕ → ℕ → ℕ → TreeWish) → Option ℕ → Option ℕ → Option ℕ → Result TreeWish Why
put_node edit None parent before = Err UnknownNode
put_node edit (Some node) parent before = put_below edit node parent before

-- the serial of the known node before which another is put, by the serials of known nodes; 0, which no node has, for the last place
abbrev pub before_by : (ℕ → Option ℕ) → Option ℕ → Option ℕ
before_by serials None = Some 0
before_by serials (Some id) = serials id

-- an edit with names of attributes in ASCII lower case
abbrev pub lowered : DomEdit → DomEdit
lowered (tree.SetAttributeValue node name value) = tree.SetAttributeValue node (map to_ascii_lowercase name) value
lowered (tree.RemoveAttribute node name) = tree.RemoveAttribute node (map to_ascii_lowercase name)
lowered (tree.SetNodeValue node value) = tree.SetNodeValue node value
lowered (tree.RemoveNode node) = tree.RemoveNode node
lowered (tree.MoveTo node target before) = tree.MoveTo node target before
lowered (tree.CopyTo node target before) = tree.CopyTo node target before

-- an edit with its nodes by their serials, where each is known
abbrev pub edit_named : (ℕ → Option ℕ) → DomEdit → Result TreeWish Why
edit_named serials (tree.SetAttributeValue node name value) = of_node (λ s. One (SetAttr s name value)) (serials node)
edit_named serials (tree.RemoveAttribute node name) = of_node (λ s. One (DropAttr s name)) (serials node)
edit_named serials (tree.SetNodeValue node value) = of_node (λ s. One (SetText s value)) (serials node)
edit_named serials (tree.RemoveNode node) = of_node (λ s. One (Detach s)) (serials node)
edit_named serials (tree.MoveTo node target before) = put_node MoveNode (serials node) (serials target) (before_by serials before)
edit_named serials (tree.CopyTo node target before) = put_node CopyNode (serials node) (serials target) (before_by serials before)

-- an edit is answered by the id of the node that was put, which becomes known, or by the empty result
abbrev pub put_answer : ℕ → Option ℕ → Step → Step
put_answer id None done = answering id done
put_answer id (Some node) done =
    let shown = followed_by done (push_step node) in
    replying id (NodeId (id_told shown.state node)) shown

-- the edits of a plan, the page first being the plan's
abbrev pub plan_step : Plan → State → Step
plan_step plan state = edit_steps plan.edits (with_page plan.page state)

-- the edits of a plan made by a client, which are kept
abbrev pub planned_by_client : Plan → State → Step
planned_by_client plan state = keeping (map (λ e. kept.Tree e) plan.edits) state (plan_step plan state)

-- the step of a client's edit of the tree, or of one that the page refuses
abbrev pub unless_fault : ℕ → Option EditFault → TreeWish → State → Step
unless_fault id (Some f) edit state = refusing (Some id) (edit_why f) state
unless_fault id None edit state = put_answer id (node_put edit state.side.page)
    (planned_by_client (node_edit_plan edit state.side.page) state)

-- the step of a client's edit whose nodes are known, or of one that names an unknown one
abbrev pub node_edit_step : ℕ → Result TreeWish Why → State → Step
node_edit_step id (Err why) state = refusing (Some id) why state
node_edit_step id (Ok edit) state = unless_fault id (node_edit_fault edit state.side.page) edit state

-- the step of a client's edit of the tree: no script made it, so that none pauses
abbrev pub tree_edit_step : ℕ → DomEdit → State → Step
tree_edit_step id edit state = node_edit_step id (edit_named (serial_now state) (lowered edit)) state

-- ---- a client's edits of sheets

-- the step of an edit of sheets that came to this
abbrev pub restyled_step : ℕ → CssEdited → List Splice → State → Step
restyled_step id (Err f) splices state = refusing (Some id) (sheet_why f) state
restyled_step id (Ok done) splices state = replying id done.body
    (keeping (map (λ s. kept.Sheet s) splices) state (splice_steps splices state))

-- the step of a client's edit of sheets
abbrev pub sheet_edit_step : ℕ → CssEdit → State → Step
sheet_edit_step id edit state = restyled_step id (css_edited (book_in state) edit) (css_splices (book_in state) edit) state

-- ---- watches

-- the command that sets a watch of a node, and the one that ends it
abbrev pub watch_command : Bool → ℕ → WatchKind → Command
watch_command true node kind = SetBreakpoint node kind
watch_command false node kind = RemoveBreakpoint node kind

-- what becomes of all watches where one is set, and where it ends
abbrev pub watch_change : Bool → WatchKind → ℕ → Watched → Watched
watch_change true kind = with_watch kind
watch_change false kind = without_watch kind

-- the watches of the client become others, by a command on a known node
abbrev pub watch_step : ℕ → (ℕ → Watched → Watched) → Option ℕ → State → Step
watch_step id change None state = refusing (Some id) UnknownNode state
watch_step id change (Some node) state =
    answering id (idle (with_client (record state.client { watched = change node state.client.watched }) state))

-- ---- searches

-- the state with what was found by others
abbrev pub with_searches : Searched → State → State
with_searches searches state = with_client (record state.client { searches = searches }) state

-- what a query finds in the page, of the nodes that the client is shown
abbrev pub found_now : List ℕ → State → List ℕ
found_now query state = filter (is_shown_now state) (found_in state.side.page.tree query)

-- what a query finds is kept; it is answered by the number of the search, and how many nodes were found
abbrev pub perform_step : ℕ → List ℕ → State → Step
perform_step id query state =
    let found = found_now query state in
    let searches = state.client.searches in
    replying id (Search (next_search searches) (length found)) (idle (with_searches (with_search found searches) state))

-- why nothing of a search is given
abbrev pub search_why : SearchFault → Why
search_why no.NoSearch = NoSearch
search_why no.SearchRange = BadSearchRange

-- of the search with that number, if its id is one: the serials in a range, or why there are none
abbrev pub results_in : ℕ → ℕ → Searched → Option ℕ → Result (List ℕ) SearchFault
results_in from to searches None = Err no.NoSearch
results_in from to searches (Some search) = slice_of search from to searches

-- the serials that are asked for, or the refusal
abbrev pub or_why : Result (List ℕ) SearchFault → Result (List ℕ) Why
or_why (Ok serials) = Ok serials
or_why (Err fault) = Err (search_why fault)

-- the serials in a range of what a search found, or the first refusal: the document is not opened, no such search, a bad range
abbrev pub results_asked : List ℕ → ℕ → ℕ → State → Result (List ℕ) Why
results_asked search from to state =
    cond (is_open state.client.session.opened state.side.page.tree.row.serial)
    (or_why (results_in from to state.client.searches (search_in search))) (Err NotPushed)

-- nodes that were found are answered as if the client asked for them by these serials: each becomes known, with all above it, and 0
-- stands for one that is gone
abbrev pub results_step : ℕ → Result (List ℕ) Why → State → Step
results_step id (Err why) state = refusing (Some id) why state
results_step id (Ok serials) state = agent_step id (PushBySerials serials) state

-- what the search found is kept no more, where it is kept
abbrev pub discard_step : ℕ → Option ℕ → State → Step
discard_step id None state = refusing (Some id) NoSearch state
discard_step id (Some search) state =
    let searches = state.client.searches in
    cond (is_some (table.get searches.lists search)) (answering id (idle (with_searches (without_search search searches) state)))
    (refusing (Some id) NoSearch state)

-- the step on what is asked of searches
abbrev pub search_step : ℕ → SearchAsk → State → Step
search_step id (search.PerformSearch query shadow) state = perform_step id query state
search_step id (search.GetSearchResults search from to) state = results_step id (results_asked search from to state) state
search_step id (search.DiscardSearchResults search) state = discard_step id (search_in search) state

-- ---- our own two methods

-- the step on one of our own two methods: the script's step that it comes to, and the reply; or the refusal
abbrev pub own_step : {A : Type 0} → (A → Turn) → ℕ → Result A Why → State → Step
own_step turn_of id (Ok a) state = answering id (turn_step (turn_of a) state)
own_step turn_of id (Err why) state = refusing (Some id) why state

-- the step on an act that was read
abbrev pub judged_step : ℕ → Act → State → Step
judged_step id act state = own_step acts id (act_judged state.side.page (book_in state) act) state

-- ---- which nodes are shown

-- the mode that a client asks for; an absent word counts as `all`
abbrev pub mode_asked : Option WhitespaceWord → Mode
mode_asked None = All
mode_asked (Some Shown) = All
mode_asked (Some Hidden) = NoBlank

-- the client whose DOM is on from now on: where it was off, the mode is the one asked for
abbrev pub client_on : Option WhitespaceWord → Client → Client
client_on word client = record client { dom_on = true; mode = cond client.dom_on client.mode (mode_asked word) }

-- the client whose DOM is off from now on: all nodes are shown
abbrev pub client_off : Client → Client
client_off client = record (client_reset false client) { mode = All }

-- ---- a command

-- the step on a command, where the domains are on that it needs
abbrev pub served_step : ℕ → Command → State → Step
served_step id (DomEnable word) state = record {
  state = with_client (client_on word state.client) state;
  moves = replied id Nothing ∷ [];
}
served_step id DomDisable state = record { state = with_client (client_off state.client) state; moves = all_off id ∷ [] }
served_step id (AskDom ask) state = agent_step id ask state
served_step id (EditDom edit) state = tree_edit_step id edit state
served_step id (AskSearch ask) state = search_step id ask state
served_step id MarkUndoableState state = mark_step id state
served_step id Undo state = undo_step id state
served_step id Redo state = redo_step id state
served_step id CssEnable state = css_on_step id state
served_step id CssDisable state = css_off_step id state
served_step id (AskCss ask) state = css_step id ask state
served_step id (EditCss edit) state = sheet_edit_step id edit state
served_step id (SetBreakpoint node word) state = watch_step id (with_watch word) (serial_now state node) state
served_step id (RemoveBreakpoint node word) state = watch_step id (without_watch word) (serial_now state node) state
served_step id (ReplayLoad params) state = own_step loads id (load_asked params) state
served_step id (ReplayAct params) state = own_step acts id (act_asked params state.side.page (book_in state)) state

-- the step on a command: a refusal while DOM is off, where it needs it; and then one while CSS is off, where it needs that
abbrev pub command_step : ℕ → Command → State → Step
command_step id command state =
    cond (needs_on command && not state.client.dom_on) (refusing (Some id) DomOff state)
    (cond (needs_css command && not state.client.css_on) (refusing (Some id) CssOff state) (served_step id command state))

-- a refused frame changes nothing, and gets one error reply
abbrev pub asked_step : Result Asked Refused → State → Step
asked_step (Ok a) state = command_step a.id a.command state
asked_step (Err r) state = record { state = state; moves = failed r ∷ [] }

-- the step on one frame; `own` says whether our own two methods are known
abbrev pub frame_step : Bool → List ℕ → State → Step
frame_step own frame state = asked_step (asked frame own) state
