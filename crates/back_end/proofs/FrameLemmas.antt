-- The step on a frame: the state after it is valid, its moves lead on, and it is answered once.
use Rattle.std.proofs.Common.{◌≡◌, codes, ℕ, ◌+◌, ◌≤◌, Bool, true, false, not, ◌&&◌, ◌||◌, cond, List, [], ◌∷◌, ◌++◌, length, Option, Some}
use Rattle.std.proofs.Common.{None, unwrap_or, ℤ, pos, Result, Ok, Err, refl, sym, ◌∙◌, ap, subst, arith}
use Rattle.std.specs.List.{flat_map}
use Rattle.std.specs.Prelude.{is_some}
use Rattle.std.specs.FinMap as table
use Rattle.cdp_json.specs.Kinds.{is_counted, holds_of_some}
use Rattle.node_tree.specs.Nodes.{Branch, Nodes, none, node_count, alone}
use Rattle.node_tree.specs.Levels.{most_told}
use Rattle.page_tree.specs.Pages.{PageRow, PageValue, IsValid}
use Rattle.node_binding.specs.Sessions.{Session, IsSession, is_open, reset, document_opened}
use Rattle.node_binding.specs.Openings.{levels_of, above}
use Rattle.node_binding.specs.Deals.{capped, dealt, more_told}
use Rattle.node_binding.proofs.StartLemmas.{count-alone}
use Rattle.cdp_messages.specs.declared.command.Command.{Command}
use Rattle.cdp_messages.specs.declared.command.Command.TheVariants.{DomEnable, DomDisable, CssEnable, CssDisable, AskDom, EditDom, AskCss}
use Rattle.cdp_messages.specs.declared.command.Command.TheVariants.{EditCss, MarkUndoableState, Undo, Redo, SetBreakpoint, RemoveBreakpoint}
use Rattle.undo_marks.specs.declared.histories.Direction.TheVariants as directions
use Rattle.cdp_messages.specs.declared.command.Command.TheVariants.{ReplayLoad, ReplayAct, AskSearch}
use Rattle.cdp_messages.specs.declared.command.Asked.{Asked}
use Rattle.cdp_messages.specs.declared.command.Refused.{Refused}
use Rattle.cdp_messages.specs.declared.command.Why.{Why}
use Rattle.cdp_messages.specs.declared.command.Why.TheVariants.{DomOff, CssOff, UnknownNode, NoSearch}
use Rattle.cdp_messages.specs.declared.dom_ask.DomAsk.{DomAsk}
use Rattle.cdp_messages.specs.declared.dom_ask.DomAsk.TheVariants as ask
use Rattle.cdp_messages.specs.declared.down.ReplyBody.TheVariants.{Nothing}
use Rattle.cdp_messages.specs.Asked.{asked, method_name, fits_command}
use Rattle.client_views.specs.Views.{ShownSheet}
use Rattle.client_views.specs.Moves.{replied, all_off, failed, CanBeTold, Course, ends, goes}
use Rattle.cdp_messages.specs.declared.search_ask.SearchAsk.{SearchAsk}
use Rattle.cdp_messages.specs.declared.search_ask.SearchAsk.TheVariants as search
use Rattle.cdp_messages.specs.SearchIds.{search_in}
use Rattle.dom_search.specs.Searches.{without_search}
use Rattle.cdp_messages.specs.declared.css_ask.CssAsk.{CssAsk}
use Rattle.dom_agent.specs.Laws.{session_outcome, CanTell, has_depth, IsReplyTo, session_view as seen_by}
use Rattle.dom_agent.specs.Keepers.{session_keeper}
use Rattle.dom_agent.specs.Requests.{Outcome, shows_root, served, refused, known_node, named_serial, state_after, moves_of}
use Rattle.dom_agent.proofs.KnownLemmas.{opened_after}
use Rattle.dom_agent.proofs.RepliedLemmas.{description-keeps}
use Rattle.dom_agent.proofs.OutcomeLemmas.{OutcomeGoes, root-opened, asks-go, depth-fits, stays_session, draws_few}
use Rattle.dom_agent.proofs.MoveLemmas.{steps_are_moves, replies_answer}
use Rattle.dom_breakpoints.specs.Watched.{Watched, with_watch, without_watch}
use Rattle.cdp_messages.specs.declared.method.Domains.{Domains}
use Rattle.cdp_messages.specs.Methods.{needs_dom, needs_both, turns_dom_on}
use Rattle.cdp_messages.proofs.Commands.{styles-need-both, either_ask, ask_by_need}
use Rattle.back_end.proofs.TreeSteps.{asks-for, tree-edit-answered}
use Rattle.shown_pages.specs.declared.modes.Mode.TheVariants.{All}
use Rattle.shown_pages.specs.ShownPages.{shown_page}
use Rattle.cdp_messages.specs.declared.command.WhitespaceWord.{WhitespaceWord}
use Rattle.dom_breakpoints.specs.Watched.{is_watched}
use Rattle.back_end.specs.States.{State, page_shown, nodes_shown, book_in, sheets_shown, view_of, HoldsNow, HasHistory, IsState}
use Rattle.back_end.specs.OwnMethods.{load_asked, act_asked}
use Rattle.back_end.specs.Steps.{Step, with_client, refusing, mode_asked, client_on, client_off, moves_come, Turn, acts, loads, turn_step}
use Rattle.back_end.specs.Steps.{ask_needs_on}
use Rattle.back_end.specs.Steps.{needs_on, needs_css, turns_on, client_served, agent_step, serial_now, watch_step}
use Rattle.back_end.specs.Steps.{results_asked, results_step, search_step, idle, answering, with_searches, discard_step}
use Rattle.back_end.specs.Steps.{own_step, served_step, command_step, asked_step}
use Rattle.back_end.specs.Texts.{HasServedTexts}
use Rattle.back_end.specs.Laws.{reply_ids, MayAnswer, HasRoom, StepsWell, KeepsAtMost, most_splices, most_edits, edits_asked, MayAnswerAll}
use Rattle.back_end.specs.Laws.{text_asked, TellTextOf, IsAnswered, IsTurn, FramesStepWell}
use Rattle.back_end.proofs.AskedLemmas.{AskedFits, frame-fits}
use Rattle.back_end.proofs.OwnTexts.{AskedTexts, frame-texts}
use Rattle.back_end.proofs.OwnLemmas.{load-turn, act-turn, answering-well, answering-once}
use Rattle.back_end.proofs.TurnAnswers.{AreEvents, events-answer, events-may, events-text, may-append, texts-append, come-are-events}
use Rattle.back_end.proofs.TurnAnswers.{turn-events}
use Rattle.back_end.proofs.AnswerLemmas.{flat-append, openings-may, outcome-answers, outcome-may, outcome-text}
use Rattle.back_end.proofs.SearchSteps.{perform-answered, discard-answered}
use Rattle.back_end.proofs.CssAnswers.{css-well, css-once, css-may, css-text}
use Rattle.back_end.proofs.SheetSteps.{css-on-well, css-off-well}
use Rattle.back_end.proofs.SpliceSteps.{sheet-edit-answered}
use Rattle.back_end.proofs.UndoSteps.{group-answered, mark-answered}
use Rattle.back_end.proofs.AnsweredSteps.{Answered, refusal-answered}
use Rattle.back_end.proofs.KeptSteps.{Recalls, recalls-same, recalls-none, steps-well}
use Rattle.back_end.proofs.PushSteps.{session-is}
use Rattle.back_end.proofs.WatchSteps.{AddsOne, with-adds, without-adds, watch-well}
use Rattle.back_end.proofs.StepLemmas.{reset-is}
use Rattle.back_end.proofs.WatchedLemmas.{none-set}
use Rattle.back_end.proofs.WellSteps.{Well, HasNumbers, valid-shown, room-numbers, can-tell, can-sheets, told-view, stays-with, more}

-- ---- what the agent is asked

-- an ask that needs DOM on is refused while it is off
refuses-off : {A : Type 0} (on : Bool) → (true && not on) ≡ false → (on || false) ≡ false → A
refuses-off true h k = absurd cc
refuses-off false h k = absurd cc

-- one that turns DOM on leaves it on
turns-off : {A : Type 0} (on : Bool) → (on || true) ≡ false → A
turns-off true k = absurd cc
turns-off false k = absurd cc

still-off : (on : Bool) → (on || false) ≡ false → on ≡ false
still-off true k = absurd cc
still-off false k = refl

-- where DOM is off after an ask that was carried out, nothing is known
pub off-after : (c : DomAsk) (state : State) → HoldsNow state → (ask_needs_on c && not state.client.dom_on) ≡ false
    → (state.client.dom_on || turns_on c) ≡ false
    → (state_after state.client.session (session_outcome (page_shown state) state.side.page.tree c state.client.session)).opened ≡ None
off-after c state is =
    ask_by_need (λ a. (ask_needs_on a && not state.client.dom_on) ≡ false → (state.client.dom_on || turns_on a) ≡ false
    → (state_after state.client.session (session_outcome (page_shown state) state.side.page.tree a state.client.session)).opened ≡ None)
    (λ depth pierce h k. turns-off state.client.dom_on k) described
    (λ a need h k. refuses-off state.client.dom_on
    (subst (λ (d : Domains). (needs_dom d && not state.client.dom_on) ≡ false) need h)
    (subst (λ (d : Domains). (state.client.dom_on || turns_dom_on d) ≡ false) need k)) c
  where
    described : (id serial : Option ℕ) (depth : Option ℤ) (pierce : Option Bool)
        → (ask_needs_on (ask.DescribeNode id serial depth pierce) && not state.client.dom_on) ≡ false
        → (state.client.dom_on || turns_on (ask.DescribeNode id serial depth pierce)) ≡ false
        → (state_after state.client.session (session_outcome (page_shown state) state.side.page.tree
        (ask.DescribeNode id serial depth pierce) state.client.session)).opened ≡ None
    described id serial depth pierce h k =
        let w : Session = state.client.session in
        ap (λ (z : Session). z.opened)
        (description-keeps (session_keeper (nodes_shown state)) (page_shown state).tree depth
        (known_node (session_keeper (nodes_shown state)) (page_shown state).tree w
        (named_serial (session_keeper (nodes_shown state)) w id serial)) w)
        ∙ is.off (still-off state.client.dom_on k)

-- where an ask that was carried out leaves DOM off, it was off
was-off : (on turns : Bool) → (on || turns) ≡ false → on ≡ false
was-off true turns h = absurd cc
was-off false turns h = refl

-- where nothing is known after an ask, nothing was
goes-unknown : (page : PageValue) (valid : IsValid page) (c : DomAsk) (w : Session) (o : Outcome Session) → IsSession (alone page.tree) w
    → OutcomeGoes page c w o
    → (state_after w o).opened ≡ None → w.opened ≡ None
goes-unknown page valid c w (shows_root b p) session g h = absurd g
goes-unknown page valid c w (refused why) session g h = h
goes-unknown page valid c w (served p body) session g h = at w.opened refl where
  at : (o : Option (ℕ → Bool)) → w.opened ≡ o → w.opened ≡ None
  at None is = is
  at (Some o) is =
      let root : o page.tree.row.serial
      ≡ true = root-opened page valid page.tree o w.pushed w.since
      (subst (λ (z : Session). IsSession (alone page.tree) z) (sym (session-is w (o, is))) session) in
      let still : is_open p.state.opened page.tree.row.serial
      ≡ true = g.0.grows page.tree.row.serial (ap (λ z. is_open z page.tree.row.serial) is ∙ root) in
      let no : false ≡ true = sym (ap (λ z. is_open z page.tree.row.serial) h) ∙ still in
      absurd cc

pub unknown-before : (page : PageValue) (whole : Branch PageRow) (ask : DomAsk) (w : Session) → IsValid page → IsSession (alone page.tree) w
    → (state_after w (session_outcome page whole ask w)).opened ≡ None → w.opened ≡ None
unknown-before page whole ask w valid session =
    either_ask (λ c. (state_after w (session_outcome page whole c w)).opened ≡ None → w.opened ≡ None)
    (λ depth pierce h. (let d : Option ℕ = levels_of (unwrap_or depth (pos 1)) in
    let n : Nodes PageRow = alone page.tree in
    let z : Session = document_opened (capped most_told d) n w in
    shown-not _ (sym (opened_after n page.tree (dealt more_told most_told d n) (above (capped most_told d) n) z.pushed z.since) ∙ h)))
    (λ c other h. goes-unknown page valid c w (session_outcome page whole c w) session (asks-go page valid whole c other w session) h)
    ask
  where
    shown-not : {A : Type 0} (o : ℕ → Bool) → ◌≡◌ {A = Option (ℕ → Bool)} (Some o) None → A
    shown-not o h = absurd cc

-- what an ask comes to
abbrev outcome_now : DomAsk → State → Outcome Session
outcome_now ask state = session_outcome (page_shown state) state.side.page.tree ask state.client.session

-- the state after an ask, by what it came to
pub served-is : (ask : DomAsk) (o : Outcome Session) (state : State) → HoldsNow state
    → ((state.client.dom_on || turns_on ask) ≡ false → (state_after state.client.session o).opened ≡ None)
    → ((state_after state.client.session o).opened ≡ None → state.client.session.opened ≡ None)
    → IsSession (nodes_shown state) (state_after state.client.session o) → HoldsNow (with_client (client_served ask o state.client) state)
served-is ask (shows_root b p) state is off unknown session = record {
  page = is.page;
  texts = is.texts;
  sheets = is.sheets;
  session = session;
  off = off;
  css_off = λ h. is.css_off (was-off state.client.dom_on (turns_on ask) h);
  all_shown = λ h. is.all_shown (was-off state.client.dom_on (turns_on ask) h);
  watched = is.watched;
  none_watched = λ h. is.none_watched (unknown h);
}
served-is ask (served p body) state is off unknown session = record {
  page = is.page;
  texts = is.texts;
  sheets = is.sheets;
  session = session;
  off = off;
  css_off = λ h. is.css_off (was-off state.client.dom_on (turns_on ask) h);
  all_shown = λ h. is.all_shown (was-off state.client.dom_on (turns_on ask) h);
  watched = is.watched;
  none_watched = λ h. is.none_watched (unknown h);
}
served-is ask (refused why) state is off unknown session = record {
  page = is.page;
  texts = is.texts;
  sheets = is.sheets;
  session = is.session;
  off = is.off;
  css_off = is.css_off;
  all_shown = is.all_shown;
  watched = is.watched;
  none_watched = λ h. is.none_watched (unknown h);
}

served-view : (ask : DomAsk) (o : Outcome Session) (state : State)
    → seen_by (state_after state.client.session o) (page_shown state) (sheets_shown state)
    ≡ view_of (with_client (client_served ask o state.client) state)
served-view ask (shows_root b p) state = refl
served-view ask (served p body) state = refl
served-view ask (refused why) state = refl

served-pushed : (ask : DomAsk) (o : Outcome Session) (state : State)
    → length (client_served ask o state.client).session.pushed ≡ length (state_after state.client.session o).pushed
served-pushed ask (shows_root b p) state = refl
served-pushed ask (served p body) state = refl
served-pushed ask (refused why) state = refl

pub served-marks : (ask : DomAsk) (o : Outcome Session) (state : State) → (client_served ask o state.client).marks ≡ state.client.marks
served-marks ask (shows_root w b) state = refl
served-marks ask (served p body) state = refl
served-marks ask (refused why) state = refl

served-given : (ask : DomAsk) (o : Outcome Session) (state : State)
    → (client_served ask o state.client).searches.given ≡ state.client.searches.given
served-given ask (shows_root w b) state = refl
served-given ask (served p body) state = refl
served-given ask (refused why) state = refl

pub agent-well : (id : ℕ) (ask : DomAsk) (state : State) → HoldsNow state → HasRoom state → is_counted id ≡ true → has_depth ask ≡ true
    → (ask_needs_on ask && not state.client.dom_on) ≡ false → Well state (agent_step id ask state) 100000 0 0
agent-well id ask state is room small fits on =
    let page = page_shown state in
    let whole = state.side.page.tree in
    let valid = valid-shown state is in
    let w = state.client.session in
    let o : Outcome Session = session_outcome page whole ask w in
    let low : HasNumbers state = room-numbers state room in
    let can : CanTell page w = can-tell state is low in
    let few : length (state_after w o).pushed
    ≤ length w.pushed + node_count (nodes_shown state) = draws_few page whole ask w valid fits is.session in
    let count : node_count (nodes_shown state) ≤ 100000 = count-alone page valid in
    record {
      now = served-is ask o state is (off-after ask state is on) (unknown-before page whole ask w valid is.session)
          (stays_session page whole ask w valid fits is.session);
      course = subst (λ v. Course (moves_of id o) (view_of state) v) (served-view ask o state)
          (steps_are_moves page whole ask w id (sheets_shown state) valid fits is.session can small (can-sheets state is low));
      few_ids = omega (arith, few, count, served-pushed ask o state);
      few_serials = omega arith;
      few_sheets = omega arith;
      given = served-given ask o state;
    }

agent-recalls : (ask : DomAsk) (o : Outcome Session) (state : State) → HasHistory state
    → Recalls state (with_client (client_served ask o state.client) state) 0 0
agent-recalls ask (shows_root b p) state history = recalls-same state _ history refl refl (omega arith)
agent-recalls ask (served p body) state history = recalls-same state _ history refl refl (omega arith)
agent-recalls ask (refused why) state history = recalls-same state _ history refl refl (omega arith)

-- ---- the seat's own commands

-- where nothing is known, a session is one of any page
unknown-session : (n m : Nodes PageRow) (w : Session) → w.opened ≡ None → IsSession n w → IsSession m w
unknown-session n m w empty session =
    let bare : Session = record { opened = None; pushed = w.pushed; since = w.since } in
    let same : w ≡ bare = λ i. record { opened = empty i; pushed = w.pushed; since = w.since } in
    let before : IsSession n bare = subst (IsSession n) same session in
    subst (IsSession m) (sym same) (record {
      opened_set = tt;
      since_then = before.since_then;
      known_stand = before.known_stand;
    })

-- the client whose DOM is on from now on, by whether it was on
abbrev on_from : Bool → Option WhitespaceWord → State → State
on_from was word state =
    with_client (record state.client { dom_on = true; mode = cond was state.client.mode (mode_asked word) }) state

-- a command that changes nothing but whether DOM is on, and which nodes are shown
pub enabled-is : (word : Option WhitespaceWord) (state : State) → HoldsNow state
    → HoldsNow (with_client (client_on word state.client) state)
enabled-is word state is = at state.client.dom_on refl where
  at : (b : Bool) → state.client.dom_on ≡ b → HoldsNow (on_from b word state)
  at true on = record {
    page = is.page;
    texts = is.texts;
    sheets = is.sheets;
    session = is.session;
    off = λ h. absurd cc;
    css_off = λ h. absurd cc;
    all_shown = λ h. absurd cc;
    watched = is.watched;
    none_watched = is.none_watched;
  }
  at false off = record {
    page = is.page;
    texts = is.texts;
    sheets = is.sheets;
    session = unknown-session (nodes_shown state) (nodes_shown (on_from false word state)) state.client.session (is.off off) is.session;
    off = λ h. absurd cc;
    css_off = λ h. absurd cc;
    all_shown = λ h. absurd cc;
    watched = λ kind s h. none-set kind s (ap (λ w. is_watched kind w s) (sym (is.none_watched (is.off off))) ∙ h);
    none_watched = is.none_watched;
  }

-- its client sees what it saw
enabled-view : (word : Option WhitespaceWord) (state : State) → HoldsNow state
    → view_of (with_client (client_on word state.client) state) ≡ view_of state
enabled-view word state is = at state.client.dom_on refl where
  nothing : (w : Session) (page : PageValue) → w.opened ≡ None
      → seen_by w page (sheets_shown state) ≡ record { tree = none; sheets = sheets_shown state }
  nothing w page h = rw h refl

  at : (b : Bool) → state.client.dom_on ≡ b → view_of (on_from b word state) ≡ view_of state
  at true on = refl
  at false off =
      nothing state.client.session (page_shown (on_from false word state)) (is.off off)
      ∙ sym (nothing state.client.session (page_shown state) (is.off off))

enables-well : (id : ℕ) (word : Option WhitespaceWord) (state : State) → HoldsNow state → HasRoom state → is_counted id ≡ true
    → Well state (served_step id (DomEnable word) state) 0 0 0
enables-well id word state is room small =
    let after : State = with_client (client_on word state.client) state in
    let same : view_of after ≡ view_of state = enabled-view word state is in
    let told : CanBeTold (view_of state) = told-view state is (room-numbers state room) in
    let told_after : CanBeTold (view_of after) = subst CanBeTold (sym same) told in
    record {
      now = enabled-is word state is;
      course = goes (replied id Nothing) [] (view_of state) (view_of after) (view_of after) told
          (same, record { id_fits = small; plain = refl; fits = refl; texts = tt; levels = omega arith }) (ends (view_of after) told_after);
      few_ids = omega arith;
      few_serials = omega arith;
      few_sheets = omega arith;
      given = refl;
    }

pub disabled-is : (state : State) → HoldsNow state → HoldsNow (with_client (client_off state.client) state)
disabled-is state is = reset-is state state.side false All is.page is.texts is.sheets (λ h. refl)

and-false : (b : Bool) → (b && false) ≡ false
and-false true = refl
and-false false = refl

disables-well : (id : ℕ) (state : State) → HoldsNow state → HasRoom state → is_counted id ≡ true
    → Well state (served_step id DomDisable state) 0 0 0
disables-well id state is room small =
    let after : State = with_client (client_off state.client) state in
    let done : HoldsNow after = disabled-is state is in
    let told : CanBeTold (view_of state) = told-view state is (room-numbers state room) in
    let told_after : CanBeTold (view_of after) = told-view after done
    (record { ids = omega (arith, room.ids); serials = omega (arith, room.serials); sheets = omega (arith, room.sheets) }) in
    let unseen : view_of after ≡ record { tree = none; sheets = [] } =
    ap (λ (b : Bool). seen_by (reset state.client.session) (shown_page All state.side.page) (cond b state.side.sheets []))
    (and-false state.client.css_on) in
    record {
      now = done;
      course = goes (all_off id) [] (view_of state) (view_of after) (view_of after) told (unseen, small) (ends (view_of after) told_after);
      few_ids = omega arith;
      few_serials = omega arith;
      few_sheets = omega arith;
      given = refl;
    }

-- a refusal changes nothing
refusing-well : (r : Refused) (state : State) → IsState state → HasRoom state → holds_of_some is_counted r.id ≡ true
    → StepsWell state (record { state = state; moves = failed r ∷ [] }) × KeepsAtMost 0 state state
refusing-well r state is room small =
    let recalls : Recalls state state 0 0 = recalls-same state state is.history refl refl (omega arith) in (
      steps-well {ids = 0} (omega arith) (omega arith)
          (more (omega arith) (omega arith) (omega arith)
          (stays-with (failed r) state is.now (room-numbers state room) (refl, small))) recalls,
      recalls.few_edits,
    )

-- ---- a command

-- the page's side stays, and so does the history
pub record Stays (before after : State) : Type 0 where
  pub marks : after.client.marks ≡ before.client.marks
  pub side : after.side ≡ before.side

pub stayed : (state : State) → Stays state state
stayed state = record { marks = refl; side = refl }

-- what a step comes to: it is well, keeps at most so many edits more, and answers the command of that id once
abbrev Serves : State → Step → ℕ → Command → ℕ → Type 0
Serves state done id c most = Answered (method_name c) (text_asked c) id most state done

serves-refusal : (id : ℕ) (why : Why) (c : Command) (most : ℕ) (state : State) → IsState state → HasRoom state → is_counted id ≡ true
    → Serves state (refusing (Some id) why state) id c most
serves-refusal id why c most state is room small = refusal-answered (method_name c) (text_asked c) id most why state is room small

-- a step that keeps no edit
serves-plain : {state : State} {done : Step} {id ids : ℕ} (c : Command) → ids ≤ 500000 → Well state done ids 100001 1000
    → Recalls state done.state 0 0
    → flat_map reply_ids done.moves ≡ Some id ∷ [] → MayAnswerAll (method_name c) done.moves → TellTextOf (text_asked c) done.moves
    → Serves state done id c 0
serves-plain c low well recalls once may texts = record {
  well = steps-well (omega (arith, low)) (omega arith) well recalls;
  few = recalls.few_edits;
  once = once;
  may = may;
  texts = texts;
}

-- what one of our own two methods comes to
serves-own : {A : Type 0} (turn_of : A → Turn) (id : ℕ) (r : Result A Why) (c : Command) (state : State)
    → ((a : A) → r ≡ Ok a → IsTurn (turn_of a))
    → MayAnswer (method_name c) (replied 0 Nothing) → IsState state → HasRoom state → is_counted id ≡ true
    → Serves state (own_step turn_of id r state) id c 0
serves-own turn_of id (Ok a) c state can h is room small =
    let events = turn-events (turn_of a) state in
    let done = answering-well id (turn_of a) state is room small (can a refl) in
    record {
      well = done.0;
      few = done.1;
      once = answering-once id (turn_of a) state;
      may = may-append (method_name c) (turn_step (turn_of a) state).moves (replied id Nothing ∷ [])
          (events-may (method_name c) (turn_step (turn_of a) state).moves events) (h, tt);
      texts = texts-append (text_asked c) (turn_step (turn_of a) state).moves (replied id Nothing ∷ [])
          (events-text (text_asked c) (turn_step (turn_of a) state).moves events) (tt, tt);
    }
serves-own turn_of id (Err why) c state can h is room small = serves-refusal id why c 0 state is room small

-- what a change of the watches of a node comes to, where the node is known
serves-watch : (id : ℕ) (change : ℕ → Watched → Watched) (node : ℕ) (c : Command) (state : State) → AddsOne change
    → MayAnswer (method_name c) (replied 0 Nothing)
    → IsState state → HasRoom state → is_counted id ≡ true → Serves state (watch_step id change (serial_now state node) state) id c 0
serves-watch id change node c state adds h is room small = at (serial_now state node) refl where
  at : (o : Option ℕ) → serial_now state node ≡ o → Serves state (watch_step id change o state) id c 0
  at None e = serves-refusal id UnknownNode c 0 state is room small
  at (Some serial) e =
      serves-plain {ids = 0} c (omega arith)
      (more (omega arith) (omega arith) (omega arith)
      (watch-well id change state node serial adds e is.now (room-numbers state room) small))
      (recalls-same state _ is.history refl refl (omega arith)) refl (h, tt) (tt, tt)

-- a command is refused while a domain is off that it needs, and else carried out
command-serves : (id : ℕ) (c : Command) (most : ℕ) (state : State) → IsState state → HasRoom state → is_counted id ≡ true
    → ((needs_on c && not state.client.dom_on) ≡ false → (needs_css c && not state.client.css_on) ≡ false
    → Serves state (served_step id c state) id c most)
    → Serves state (command_step id c state) id c most
command-serves id c most state is room small goes_on = at (needs_on c && not state.client.dom_on) refl
    (needs_css c && not state.client.css_on) refl where
      at : (a : Bool) → (needs_on c && not state.client.dom_on) ≡ a → (b : Bool) → (needs_css c && not state.client.css_on) ≡ b
          → Serves state (cond a (refusing (Some id) DomOff state)
          (cond b (refusing (Some id) CssOff state) (served_step id c state))) id c most
      at true e b f = serves-refusal id DomOff c most state is room small
      at false e true f = serves-refusal id CssOff c most state is room small
      at false e false f = goes_on e f

on-by : (b : Bool) → (true && not b) ≡ false → b ≡ true
on-by true e = refl
on-by false e = absurd cc

css-once-on : (id : ℕ) (b : Bool) (sheets : List ShownSheet)
    → flat_map reply_ids (cond b [] (moves_come sheets) ++ replied id Nothing ∷ []) ≡ Some id ∷ []
css-once-on id b sheets = at b where
  quiet : flat_map reply_ids (moves_come sheets) ≡ []
  quiet = events-answer (moves_come sheets) (come-are-events sheets)

  at : (b : Bool) → flat_map reply_ids (cond b [] (moves_come sheets) ++ replied id Nothing ∷ []) ≡ Some id ∷ []
  at true = refl
  at false = flat-append (moves_come sheets) (replied id Nothing ∷ []) quiet ∙ ap (λ ids. ids ++ Some id ∷ []) quiet

on-events : (b : Bool) (sheets : List ShownSheet) → AreEvents (cond b [] (moves_come sheets))
on-events true sheets = tt
on-events false sheets = come-are-events sheets

-- what the CSS agent is asked needs its domain on
needs-both-on : (ask : CssAsk) (on : Bool) → (needs_css (AskCss ask) && not on) ≡ false → (true && not on) ≡ false
needs-both-on ask on met = subst (λ (d : Domains). (needs_both d && not on) ≡ false) (styles-need-both ask) met

-- what `DOM.getSearchResults` comes to answers as a push by serials does
results-may : (id : ℕ) (serials : List ℕ) (o : Outcome Session) → IsReplyTo (ask.PushBySerials serials) o
    → MayAnswerAll (codes "DOM.getSearchResults") (moves_of id o)
results-may id serials (shows_root w b) is = absurd cc
results-may id serials (served p body) is = openings-may (codes "DOM.getSearchResults") p.shown _ ((is, refl), tt)
results-may id serials (refused why) is = (tt, tt)

-- what is asked of searches, where DOM is on
serves-search : (id : ℕ) (a : SearchAsk) (state : State) → IsState state → HasRoom state → is_counted id ≡ true
    → (needs_on (AskSearch a) && not state.client.dom_on) ≡ false → Serves state (search_step id a state) id (AskSearch a) 0
serves-search id (search.PerformSearch query shadow) state is room small on =
    let c : Command = AskSearch (search.PerformSearch query shadow) in
    perform-answered (method_name c) (text_asked c) id state is room small query (λ s n. (refl, refl))
serves-search id (search.GetSearchResults named from to) state is room small on = at (results_asked named from to state)
  where
    at : (r : Result (List ℕ) Why)
        → Serves state (results_step id r state) id (AskSearch (search.GetSearchResults named from to)) 0
    at (Err why) = serves-refusal id why (AskSearch (search.GetSearchResults named from to)) 0 state is room small
    at (Ok serials) =
        let a : DomAsk = ask.PushBySerials serials in
        let o : Outcome Session = session_outcome (page_shown state) state.side.page.tree a state.client.session in
        serves-plain {ids = 100000} (AskSearch (search.GetSearchResults named from to)) (omega arith)
        (more (omega arith) (omega arith) (omega arith) (agent-well id a state is.now room small refl on))
        (agent-recalls a o state is.history) (outcome-answers id o)
        (results-may id serials o
        (replies_answer (page_shown state) state.side.page.tree a state.client.session (valid-shown state is.now) refl is.now.session))
        (outcome-text (text_asked (AskSearch (search.GetSearchResults named from to))) id o)
serves-search id (search.DiscardSearchResults named) state is room small on =
    let c : Command = AskSearch (search.DiscardSearchResults named) in
    discard-answered (method_name c) (text_asked c) id state is room small (refl, refl) (search_in named)

-- it leaves the page's side and the history as they are
pub searches-stay : (id : ℕ) (a : SearchAsk) (state : State) → Stays state (search_step id a state).state
searches-stay id (search.PerformSearch query shadow) state = record { marks = refl; side = refl }
searches-stay id (search.GetSearchResults named from to) state = results (results_asked named from to state) where
  results : (r : Result (List ℕ) Why) → Stays state (results_step id r state).state
  results (Err why) = stayed state
  results (Ok serials) = record {
    marks = served-marks (ask.PushBySerials serials) (outcome_now (ask.PushBySerials serials) state) state;
    side = refl;
  }
searches-stay id (search.DiscardSearchResults named) state = discarded (search_in named) where
  kept_or : (n : ℕ) (b : Bool)
      → Stays state (cond b (answering id (idle (with_searches (without_search n state.client.searches) state)))
      (refusing (Some id) NoSearch state)).state
  kept_or n true = record { marks = refl; side = refl }
  kept_or n false = stayed state

  discarded : (o : Option ℕ) → Stays state (discard_step id o state).state
  discarded None = stayed state
  discarded (Some n) = kept_or n (is_some (table.get state.client.searches.lists n))

serves : (id : ℕ) (c : Command) (state : State) → fits_command c ≡ true → HasServedTexts c → IsState state → HasRoom state
    → is_counted id ≡ true → Serves state (command_step id c state) id c (most_edits c)
serves id (DomEnable word) state fits texts is room small =
    command-serves id (DomEnable word) 0 state is room small
    (λ dom css. serves-plain {ids = 0} (DomEnable word) (omega arith)
    (more (omega arith) (omega arith) (omega arith) (enables-well id word state is.now room small))
    (recalls-same state _ is.history refl refl (omega arith)) refl ((refl, refl), tt) (tt, tt))
serves id DomDisable state fits texts is room small =
    command-serves id DomDisable 0 state is room small
    (λ dom css. serves-plain {ids = 0} DomDisable (omega arith)
    (more (omega arith) (omega arith) (omega arith) (disables-well id state is.now room small))
    (recalls-none state _ refl) refl (refl, tt) (tt, tt))
serves id (AskDom ask) state fits texts is room small =
    let c : Command = AskDom ask in
    command-serves id c 0 state is room small (λ dom css. serves-plain {ids = 100000} c (omega arith)
    (more (omega arith) (omega arith) (omega arith) (agent-well id ask state is.now room small (depth-fits ask fits) dom))
    (agent-recalls ask (outcome_now ask state) state is.history)
    (outcome-answers id (outcome_now ask state))
    (outcome-may id ask (outcome_now ask state)
    (replies_answer (page_shown state) state.side.page.tree ask state.client.session (valid-shown state is.now) (depth-fits ask fits)
    is.now.session))
    (outcome-text (text_asked c) id (outcome_now ask state)))
serves id (EditDom edit) state fits texts is room small =
    let c : Command = EditDom edit in
    command-serves id c 2 state is room small
    (λ dom css. tree-edit-answered (method_name c) (text_asked c) id edit state texts (asks-for edit) is room small)
serves id (AskSearch a) state fits texts is room small =
    command-serves id (AskSearch a) 0 state is room small (λ dom css. serves-search id a state is room small dom)
serves id MarkUndoableState state fits texts is room small =
    let c : Command = MarkUndoableState in
    command-serves id c 0 state is room small
    (λ dom css. mark-answered (method_name c) (text_asked c) id state (refl, refl) is room small)
serves id Undo state fits texts is room small =
    let c : Command = Undo in
    command-serves id c 0 state is room small
    (λ dom css. group-answered (method_name c) (text_asked c) directions.Undo id state (refl, refl) is room small)
serves id Redo state fits texts is room small =
    let c : Command = Redo in
    command-serves id c 0 state is room small
    (λ dom css. group-answered (method_name c) (text_asked c) directions.Redo id state (refl, refl) is room small)
serves id CssEnable state fits texts is room small =
    let events = on-events state.client.css_on state.side.sheets in
    let first = cond state.client.css_on [] (moves_come state.side.sheets) in
    let c : Command = CssEnable in
    command-serves id c 0 state is room small (λ dom css. serves-plain {ids = 0} c (omega arith)
    (more (omega arith) (omega arith) (omega arith)
    (css-on-well id state is.now (room-numbers state room) (on-by state.client.dom_on dom) small))
    (recalls-same state _ is.history refl refl (omega arith))
    (css-once-on id state.client.css_on state.side.sheets)
    (may-append (method_name c) first (replied id Nothing ∷ []) (events-may (method_name c) first events) ((refl, refl), tt))
    (texts-append (text_asked c) first (replied id Nothing ∷ []) (events-text (text_asked c) first events) (tt, tt)))
serves id CssDisable state fits texts is room small =
    command-serves id CssDisable 0 state is room small (λ dom css. serves-plain {ids = 0} CssDisable (omega arith)
    (more (omega arith) (omega arith) (omega arith) (css-off-well id state is.now (room-numbers state room) small))
    (recalls-same state _ is.history refl refl (omega arith)) refl (refl, tt) (tt, tt))
serves id (AskCss ask) state fits texts is room small =
    let c : Command = AskCss ask in
    command-serves id c 0 state is room small (λ dom css. serves-plain {ids = 0} c (omega arith)
    (more (omega arith) (omega arith) (omega arith)
    (css-well id ask state is.now (room-numbers state room) (on-by state.client.css_on (needs-both-on ask state.client.css_on css)) small))
    (recalls-same state state is.history refl refl (omega arith))
    (css-once id ask state) (css-may id ask state) (css-text id ask state))
serves id (EditCss edit) state fits texts is room small =
    let c : Command = EditCss edit in
    command-serves id c (most_splices edit) state is room small
    (λ dom css. sheet-edit-answered id edit state (text_asked c) is room texts small)
serves id (SetBreakpoint node word) state fits texts is room small =
    let c : Command = SetBreakpoint node word in
    command-serves id c 0 state is room small
    (λ dom css. serves-watch id (with_watch word) node c state (with-adds word) (refl, refl) is room small)
serves id (RemoveBreakpoint node word) state fits texts is room small =
    let c : Command = RemoveBreakpoint node word in
    command-serves id c 0 state is room small
    (λ dom css. serves-watch id (without_watch word) node c state (without-adds word) (refl, refl) is room small)
serves id (ReplayLoad params) state fits texts is room small =
    serves-own loads id (load_asked params) (ReplayLoad params) state (λ page e. load-turn params page texts e) (refl, refl) is room small
serves id (ReplayAct params) state fits texts is room small =
    serves-own acts id (act_asked params state.side.page (book_in state)) (ReplayAct params) state
    (λ act e. act-turn params state.side.page (book_in state) act texts e) (refl, refl) is room small

-- ---- a frame

-- what was asked, however it was read
pub asked-steps-well : (r : Result Asked Refused) (state : State) → AskedFits r → AskedTexts r → IsState state → HasRoom state
    → StepsWell state (asked_step r state) × IsAnswered r (asked_step r state).moves
    × KeepsAtMost (edits_asked r) state (asked_step r state).state
asked-steps-well (Ok a) state fits texts is room =
    let s = serves a.id a.command state fits.1 texts is room fits.0 in
    (s.well, (s.once, s.may, s.texts), s.few)
asked-steps-well (Err r) state fits texts is room = let w = refusing-well r state is room fits in (w.0, refl, w.1)

pub frame-steps-well : FramesStepWell
frame-steps-well own state frame is room =
    asked-steps-well (asked frame own) state (frame-fits own frame) (frame-texts own frame) is room
