-- The moves of a script's own step are events: they answer nothing, and may come before the reply to any command.
use Rattle.std.proofs.Common.{◌≡◌, ℕ, Bool, true, false, cond, List, [], ◌∷◌, ◌++◌, Option, Some, None, refl}
use Rattle.std.specs.Prelude.{⊤}
use Rattle.std.specs.List.{flat_map}
use Rattle.node_tree.specs.Nodes.{alone}
use Rattle.page_tree.specs.Pages.{PageValue, parent_at}
use Rattle.page_tree.specs.declared.edits.TreeEdit.{TreeEdit}
use Rattle.page_tree.specs.declared.edits.TreeEdit.TheVariants.{SetAttr, DropAttr, SetText, Attach, Detach}
use Rattle.page_forms.specs.declared.acts.Act.{Act}
use Rattle.node_binding.specs.Sessions.{Session, knows, is_open}
use Rattle.client_views.specs.Views.{ShownSheet}
use Rattle.client_views.specs.Moves.{Move, change, clear, met, added, dropped, rewritten, root, texted, replied, all_off, sheets_off}
use Rattle.client_views.specs.Moves.{failed}
use Rattle.dom_agent.specs.Keepers.{session_keeper}
use Rattle.dom_agent.specs.Requests.{Showing, pushed, opening_moves}
use Rattle.dom_agent.specs.Edits.{Edited}
use Rattle.shown_pages.specs.declared.modes.Mode.{Mode}
use Rattle.shown_pages.specs.ShownPages.{shown_page}
use Rattle.shown_pages.specs.ShownEdits.{shown_edit}
use Rattle.dom_agent.specs.EditLaws.{session_edited}
use Rattle.dom_agent.specs.ModeEdits.{edited_if, shown_session_edited}
use Rattle.dom_breakpoints.specs.declared.pauses.Pause.{Pause}
use Rattle.dom_breakpoints.specs.Pauses.{pause_of}
use Rattle.back_end.specs.declared.faults.ActFault.{ActFault}
use Rattle.back_end.specs.Sheets.{SheetChange, leaves, comes}
use Rattle.back_end.specs.States.{Side, State, page_shown, nodes_shown, book_in}
use Rattle.back_end.specs.Plans.{Deed, edits, restyles, shows_on, act_fault, act_plan}
use Rattle.back_end.specs.Steps.{edit_step, push_step, push_steps, met_step, followed_by, pause_step, script_step, script_steps, with_page}
use Rattle.back_end.specs.Steps.{sheet_move, sheet_step, sheet_steps, moves_gone, moves_come, deed_step, planned_step, act_step, load_step}
use Rattle.back_end.specs.Steps.{Turn, acts, loads, turn_step}
use Rattle.back_end.specs.Laws.{reply_ids, MayAnswerAll, TellTextOf}

-- a move that an event tells
abbrev pub IsEvent : Move → Type 0
IsEvent (change id c) = ⊤
IsEvent clear = ⊤
IsEvent (met why) = ⊤
IsEvent (added s) = ⊤
IsEvent (dropped n) = ⊤
IsEvent (rewritten n text) = ⊤
IsEvent (root id b) = ⊥
IsEvent (texted id n text) = ⊥
IsEvent (replied id body) = ⊥
IsEvent (all_off id) = ⊥
IsEvent (sheets_off id) = ⊥
IsEvent (failed r) = ⊥

abbrev pub AreEvents : List Move → Type 0
AreEvents [] = ⊤
AreEvents (m ∷ ms) = IsEvent m × AreEvents ms

-- ---- what holds of events

pub events-answer : (ms : List Move) → AreEvents ms → flat_map reply_ids ms ≡ []
events-answer [] are = refl
events-answer (change id c ∷ ms) are = events-answer ms are.1
events-answer (clear ∷ ms) are = events-answer ms are.1
events-answer (met why ∷ ms) are = events-answer ms are.1
events-answer (added s ∷ ms) are = events-answer ms are.1
events-answer (dropped n ∷ ms) are = events-answer ms are.1
events-answer (rewritten n text ∷ ms) are = events-answer ms are.1
events-answer (root id b ∷ ms) are = absurd are.0
events-answer (texted id n text ∷ ms) are = absurd are.0
events-answer (replied id body ∷ ms) are = absurd are.0
events-answer (all_off id ∷ ms) are = absurd are.0
events-answer (sheets_off id ∷ ms) are = absurd are.0
events-answer (failed r ∷ ms) are = absurd are.0

pub events-may : (method : List ℕ) (ms : List Move) → AreEvents ms → MayAnswerAll method ms
events-may method [] are = tt
events-may method (change id c ∷ ms) are = (tt, events-may method ms are.1)
events-may method (clear ∷ ms) are = (tt, events-may method ms are.1)
events-may method (met why ∷ ms) are = (tt, events-may method ms are.1)
events-may method (added s ∷ ms) are = (tt, events-may method ms are.1)
events-may method (dropped n ∷ ms) are = (tt, events-may method ms are.1)
events-may method (rewritten n text ∷ ms) are = (tt, events-may method ms are.1)
events-may method (root id b ∷ ms) are = absurd are.0
events-may method (texted id n text ∷ ms) are = absurd are.0
events-may method (replied id body ∷ ms) are = absurd are.0
events-may method (all_off id ∷ ms) are = absurd are.0
events-may method (sheets_off id ∷ ms) are = absurd are.0
events-may method (failed r ∷ ms) are = absurd are.0

pub events-text : (sheet : Option ℕ) (ms : List Move) → AreEvents ms → TellTextOf sheet ms
events-text sheet [] are = tt
events-text sheet (change id c ∷ ms) are = (tt, events-text sheet ms are.1)
events-text sheet (clear ∷ ms) are = (tt, events-text sheet ms are.1)
events-text sheet (met why ∷ ms) are = (tt, events-text sheet ms are.1)
events-text sheet (added s ∷ ms) are = (tt, events-text sheet ms are.1)
events-text sheet (dropped n ∷ ms) are = (tt, events-text sheet ms are.1)
events-text sheet (rewritten n text ∷ ms) are = (tt, events-text sheet ms are.1)
events-text sheet (root id b ∷ ms) are = absurd are.0
events-text sheet (texted id n text ∷ ms) are = absurd are.0
events-text sheet (replied id body ∷ ms) are = absurd are.0
events-text sheet (all_off id ∷ ms) are = absurd are.0
events-text sheet (sheets_off id ∷ ms) are = absurd are.0
events-text sheet (failed r ∷ ms) are = absurd are.0

pub events-append : (ms ks : List Move) → AreEvents ms → AreEvents ks → AreEvents (ms ++ ks)
events-append [] ks left right = right
events-append (m ∷ ms) ks left right = (left.0, events-append ms ks left.1 right)

pub may-append : (method : List ℕ) (ms ks : List Move) → MayAnswerAll method ms → MayAnswerAll method ks → MayAnswerAll method (ms ++ ks)
may-append method [] ks h k = k
may-append method (m ∷ ms) ks h k = (h.0, may-append method ms ks h.1 k)

pub texts-append : (sheet : Option ℕ) (ms ks : List Move) → TellTextOf sheet ms → TellTextOf sheet ks → TellTextOf sheet (ms ++ ks)
texts-append sheet [] ks h k = k
texts-append sheet (m ∷ ms) ks h k = (h.0, texts-append sheet ms ks h.1 k)

-- ---- edits of the page

one-event : (b : Bool) (ms : List Move) → AreEvents ms → AreEvents (cond b ms [])
one-event true ms are = are
one-event false ms are = tt

came-events : (b d : Bool) (s z : Session) (m k : Move) → IsEvent m → IsEvent k
    → AreEvents (cond {A = Edited Session} b (record { state = s; moves = m ∷ [] })
    (record { state = z; moves = cond d (k ∷ []) [] })).moves
came-events true d s z m k h j = (h, tt)
came-events false d s z m k h j = one-event d (k ∷ []) (j, tt)

gone-events : (b d : Bool) (m k : Move) → IsEvent m → IsEvent k → AreEvents (cond b (m ∷ []) (cond d (k ∷ []) []))
gone-events true d m k h j = (h, tt)
gone-events false d m k h j = one-event d (k ∷ []) (j, tt)

edit-events : (e : TreeEdit) (page : PageValue) (w : Session) → AreEvents (session_edited e page w).moves
edit-events (SetAttr serial name value) page w = one-event (knows w (alone page.tree) serial) _ (tt, tt)
edit-events (DropAttr serial name) page w = one-event (knows w (alone page.tree) serial) _ (tt, tt)
edit-events (SetText serial value) page w = one-event (knows w (alone page.tree) serial) _ (tt, tt)
edit-events (Attach parent before x) page w = came-events (is_open w.opened parent) (knows w (alone page.tree) parent) _ _ _ _ tt tt
edit-events (Detach serial) page w =
    let parent = parent_at serial page.tree in
    gone-events (is_open w.opened parent) (knows w (alone page.tree) parent) _ _ tt tt

edit-if-events : (o : Option TreeEdit) (page : PageValue) (w : Session) → AreEvents (edited_if (λ f. session_edited f page) o w).moves
edit-if-events None page w = tt
edit-if-events (Some e) page w = edit-events e page w

pub shown-edit-events : (mode : Mode) (e : TreeEdit) (page : PageValue) (w : Session) → AreEvents (shown_session_edited mode e page w).moves
shown-edit-events mode e page w = edit-if-events (shown_edit mode e page.tree) (shown_page mode page) w

-- ---- pauses, and a script's edits

pub openings-events : (xs : List Showing) → AreEvents (opening_moves xs)
openings-events [] = tt
openings-events (x ∷ xs) = (tt, openings-events xs)

push-events : (serial : ℕ) (state : State) → AreEvents (push_step serial state).moves
push-events serial state = openings-events
    (pushed (session_keeper (nodes_shown state)) (page_shown state).tree serial state.client.session).shown

pushes-events : (serial : Option ℕ) (state : State) → AreEvents (push_steps serial state).moves
pushes-events None state = tt
pushes-events (Some serial) state = push-events serial state

pause-events : (o : Option Pause) (state : State) → AreEvents (pause_step o state).moves
pause-events None state = tt
pause-events (Some p) state =
    let first = push_step p.node state in
    let second = followed_by first (push_steps p.target) in
    events-append second.moves (met_step p second.state).moves
    (events-append first.moves (push_steps p.target first.state).moves (push-events p.node state) (pushes-events p.target first.state))
    (tt, tt)

pub script-events : (e : TreeEdit) (state : State) → AreEvents (script_step e state).moves
script-events e state =
    let pause : Option Pause = pause_of state.client.watched state.side.page.tree e in
    let paused = pause_step pause state in
    events-append paused.moves (edit_step e paused.state).moves (pause-events pause state)
    (shown-edit-events paused.state.client.mode e paused.state.side.page paused.state.client.session)

scripts-events : (es : List TreeEdit) (state : State) → AreEvents (script_steps es state).moves
scripts-events [] state = tt
scripts-events (e ∷ es) state =
    events-append (script_step e state).moves (script_steps es (script_step e state).state).moves
    (script-events e state) (scripts-events es (script_step e state).state)

-- ---- changes of the sheets

change-event : (c : SheetChange) (side : Side) → IsEvent (sheet_move c side)
change-event (leaves n) side = tt
change-event (comes origin text) side = tt

changes-events : (cs : List SheetChange) (state : State) → AreEvents (sheet_steps cs state).moves
changes-events [] state = tt
changes-events (c ∷ cs) state =
    events-append (sheet_step c state).moves (sheet_steps cs (sheet_step c state).state).moves
    (one-event state.client.css_on (sheet_move c state.side ∷ []) (change-event c state.side, tt))
    (changes-events cs (sheet_step c state).state)

pub gone-are-events : (ss : List ShownSheet) → AreEvents (moves_gone ss)
gone-are-events [] = tt
gone-are-events (s ∷ ss) = (tt, gone-are-events ss)

pub come-are-events : (ss : List ShownSheet) → AreEvents (moves_come ss)
come-are-events [] = tt
come-are-events (s ∷ ss) = (tt, come-are-events ss)

-- ---- a script's own step

deed-events : (deed : Deed) (state : State) → AreEvents (deed_step deed state).moves
deed-events (edits plan) state = scripts-events plan.edits (with_page plan.page state)
deed-events (restyles changes) state = changes-events changes state
deed-events (shows_on medium) state = tt

act-events : (act : Act) (state : State) → AreEvents (act_step act state).moves
act-events act state = at (act_fault act state.side.page (book_in state)) where
  at : (o : Option ActFault) → AreEvents (planned_step o (act_plan act state.side.page (book_in state)) state).moves
  at None = deed-events (act_plan act state.side.page (book_in state)) state
  at (Some f) = tt

pub turn-events : (x : Turn) (state : State) → AreEvents (turn_step x state).moves
turn-events (acts act) state = act-events act state
turn-events (loads page) state =
    let old = state.side.sheets in
    let new = (load_step page state).state.side.sheets in
    events-append (cond state.client.dom_on (clear ∷ []) []) (cond state.client.css_on (moves_gone old ++ moves_come new) [])
    (one-event state.client.dom_on (clear ∷ []) (tt, tt))
    (one-event state.client.css_on (moves_gone old ++ moves_come new)
    (events-append (moves_gone old) (moves_come new) (gone-are-events old) (come-are-events new)))
