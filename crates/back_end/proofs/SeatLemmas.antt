-- The answer of a seat to a command is the step of the state.
use Rattle.std.proofs.Common.{◌≡◌, ℕ, List, ◌++◌, Bool, true, false, not, ◌&&◌, ◌||◌, cond, Option, Some, None, Result, Ok, Err, refl}
use Rattle.std.proofs.Common.{sym, ◌∙◌, ap}
use Rattle.std.proofs.Common.{subst}
use Rattle.std.specs.Result.{OnOk}
use Rattle.node_tree.specs.Nodes.{Nodes, Branch, alone}
use Rattle.page_tree.specs.Pages.{PageRow, PageValue}
use Rattle.std.proofs.Math.Logic.{∥∥₁_elim}
use Rattle.std.proofs.Props.{props}
use Rattle.node_binding.specs.Bindings.{BindingValue, Stands, in_mode, KnowsNothing, cleared}
use Rattle.node_binding.specs.Sessions.{Session, reset, id_at}
use Rattle.node_binding.proofs.StandsLemmas.{Stands-reset}
use Rattle.client_views.specs.Moves.{frames_of_moves}
use Rattle.cdp_messages.specs.declared.dom_ask.DomAsk.{DomAsk}
use Rattle.cdp_messages.specs.declared.command.Why.TheVariants.{DomOff, CssOff}
use Rattle.dom_agent.specs.Laws.{session_outcome, binding_outcome, has_depth}
use Rattle.dom_agent.specs.Requests.{Outcome, shows_root, served, refused, state_after, answer}
use Rattle.dom_agent.proofs.OutcomeLemmas.{stays_session}
use Rattle.dom_agent.proofs.KeeperLemmas.{stays_bound, same_moves}
use Rattle.dom_agent.proofs.ModeQueries.{finds_shown}
use Rattle.dom_agent.proofs.KeptMode.{command_keeps_mode}
use Rattle.back_end.proofs.WellSteps.{valid-shown}
use Rattle.dom_breakpoints.specs.Watched.{unwatched}
use Rattle.dom_search.specs.Searches.{forgotten}
use Rattle.undo_marks.specs.Marks.{Marks}
use Rattle.undo_marks.specs.Changes.{HistoryEntry as Entry}
use Rattle.undo_marks.specs.Saved.{Saved}
use Rattle.undo_marks.specs.declared.inverse_lists.Inverse.{Inverse}
use Rattle.back_end.specs.Sheets.{NumberedBook}
use Rattle.shown_pages.specs.declared.modes.Mode.{Mode}
use Rattle.shown_pages.specs.declared.modes.Mode.TheVariants.{All}
use Rattle.shown_pages.specs.ShownPages.{shown_page}
use Rattle.cdp_messages.specs.declared.command.WhitespaceWord.{WhitespaceWord}
use Rattle.back_end.specs.States.{Client, State, page_shown, nodes_shown}
use Rattle.cdp_messages.specs.declared.command.Command.{Command}
use Rattle.cdp_messages.specs.declared.command.Command.TheVariants.{DomEnable, DomDisable, AskDom}
use Rattle.cdp_messages.proofs.Commands.{asks-without-css, either_ask, others-turn-none_on}
use Rattle.back_end.specs.Steps.{Step, with_client, mode_asked, client_on, client_off, refusing, with_marks, ask_needs_on, needs_on}
use Rattle.back_end.specs.Steps.{needs_css, turns_on, client_served, served_step}
use Rattle.back_end.specs.Steps.{command_step}
use Rattle.back_end.specs.declared.desk.Desk.{Desk}
use Rattle.back_end.specs.declared.side.PageSide.{PageSide}
use Rattle.back_end.specs.Seats.{DeskStandsFor, enabled_agent}
use Rattle.back_end.proofs.FrameLemmas.{enabled-is, disabled-is, off-after, unknown-before, served-is}

-- what holds where a call answers Ok
pub on_ok : {T E : Type 0} (result : Result T E) (P Q : Type 0) → OnOk result P → (P → Q) → OnOk result Q
on_ok (Ok value) P Q p f = f p
on_ok (Err fault) P Q p f = tt

-- ---- a state with another history

-- a desk knows nothing of the history
pub marks-stands : (marks : Marks (Entry Saved Inverse)) (d : Desk) (s : PageSide) (state : State) → DeskStandsFor d s state
    → DeskStandsFor d s (with_marks marks state)
marks-stands marks d s state stands = record {
  now = record {
    page = stands.now.page;
    texts = stands.now.texts;
    sheets = stands.now.sheets;
    session = stands.now.session;
    off = stands.now.off;
    css_off = stands.now.css_off;
    all_shown = stands.now.all_shown;
    watched = stands.now.watched;
    none_watched = stands.now.none_watched;
  };
  page_is = stands.page_is;
  sheets_are = stands.sheets_are;
  next_is = stands.next_is;
  medium_is = stands.medium_is;
  on_is = stands.on_is;
  css_is = stands.css_is;
  mode_is = stands.mode_is;
  watches_are = stands.watches_are;
  searches_are = stands.searches_are;
  stands = stands.stands;
}

-- ---- a command that needs DOM on, or does not

-- what the DOM agent is asked needs no CSS
ask-passes : (c : DomAsk) (on : Bool) → (needs_css (AskDom c) && not on) ≡ false
ask-passes c on = ap (λ (b : Bool). b && not on) (asks-without-css c)

-- one that is carried out
pub on-is : (id : ℕ) (command : Command) (state : State) → (needs_on command && not state.client.dom_on) ≡ false
    → (needs_css command && not state.client.css_on) ≡ false
    → command_step id command state ≡ served_step id command state
on-is id command state on css_on =
    ap (λ t. cond t (refusing (Some id) DomOff state)
    (cond (needs_css command && not state.client.css_on) (refusing (Some id) CssOff state) (served_step id command state))) on
    ∙ ap (λ t. cond t (refusing (Some id) CssOff state) (served_step id command state)) css_on

-- whether it is refused, as the state has it
same-on : (c : DomAsk) (b on t : Bool) → b ≡ on → t ≡ (ask_needs_on c && not b) → (ask_needs_on c && not on) ≡ t
same-on c b on t is h = sym (ap (λ x. ask_needs_on c && not x) is) ∙ sym h

-- ---- what the agent is asked

or-false : (b : Bool) → (b || false) ≡ b
or-false true = refl
or-false false = refl

-- of an ask that turns nothing on, DOM is as it was
served-on : (c : DomAsk) (o : Outcome Session) (client : Client) → turns_on c ≡ false → (client_served c o client).dom_on ≡ client.dom_on
served-on c (shows_root b p) client off = ap (λ t. client.dom_on || t) off ∙ or-false client.dom_on
served-on c (served p body) client off = ap (λ t. client.dom_on || t) off ∙ or-false client.dom_on
served-on c (refused why) client off = refl

still-on : (c : DomAsk) (page : PageValue) (whole : Branch PageRow) (client : Client) (on : Bool) → turns_on c ≡ false → on ≡ client.dom_on
    → (on || turns_on c) ≡ (client_served c (session_outcome page whole c client.session) client).dom_on
still-on c page whole client on off is = ap (λ t. on || t) off ∙ or-false on ∙ is ∙ sym
    (served-on c (session_outcome page whole c client.session) client off)

on-after : (c : DomAsk) (page : PageValue) (whole : Branch PageRow) (client : Client) (on : Bool) → on ≡ client.dom_on
    → (on || turns_on c) ≡ (client_served c (session_outcome page whole c client.session) client).dom_on
on-after c page whole client on is =
    either_ask (λ a. (on || turns_on a) ≡ (client_served a (session_outcome page whole a client.session) client).dom_on)
    (λ depth pierce. ap (λ b. b || true) is) (λ a other. still-on a page whole client on (others-turn-none_on a other) is) c

served-css : (c : DomAsk) (o : Outcome Session) (client : Client) → client.css_on ≡ (client_served c o client).css_on
served-css c (shows_root b p) client = refl
served-css c (served p body) client = refl
served-css c (refused why) client = refl

served-watches : (c : DomAsk) (o : Outcome Session) (client : Client) → client.watched ≡ (client_served c o client).watched
served-watches c (shows_root b p) client = refl
served-watches c (served p body) client = refl
served-watches c (refused why) client = refl

served-searches : (c : DomAsk) (o : Outcome Session) (client : Client) → client.searches ≡ (client_served c o client).searches
served-searches c (shows_root b p) client = refl
served-searches c (served p body) client = refl
served-searches c (refused why) client = refl

served-mode : (c : DomAsk) (o : Outcome Session) (client : Client) → client.mode ≡ (client_served c o client).mode
served-mode c (shows_root b p) client = refl
served-mode c (served p body) client = refl
served-mode c (refused why) client = refl

-- a binding that stands for the session after stands for that of the client
served-stands : (c : DomAsk) (o : Outcome Session) (state : State) (b : BindingValue)
    → Stands (nodes_shown state) (state_after state.client.session o) b
    → let after : State = with_client (client_served c o state.client) state in Stands (nodes_shown after) after.client.session b
served-stands c (shows_root x p) state b h = h
served-stands c (served p body) state b h = h
served-stands c (refused why) state b h = h

-- what an ask comes to for the agent, by the state's page and mode
asked-here : {A : Type 0} (d : Desk) (s : PageSide) (state : State) (page : PageValue) (c : DomAsk) (f : Outcome BindingValue → A)
    → DeskStandsFor d s state → page ≡ s.page
    → f (binding_outcome (shown_page d.agent.mode page) page.tree c d.agent)
    ≡ f (binding_outcome (page_shown state) state.side.page.tree c d.agent)
asked-here d s state page c f stands is =
    λ i. f (binding_outcome (shown_page (stands.mode_is i) ((is ∙ stands.page_is) i)) ((is ∙ stands.page_is) i).tree c d.agent)

pub asked-stands : (d d1 : Desk) (s s1 : PageSide) (state : State) (id : ℕ) (c : DomAsk) (page : PageValue)
    → has_depth c ≡ true → false ≡ (ask_needs_on c && not d.is_on) → DeskStandsFor d s state
    → s1.page ≡ s.page → s1.sheets ≡ s.sheets → page ≡ s.page → d1.is_on ≡ (d.is_on || turns_on c) → d1.css ≡ d.css
    → d1.watches ≡ d.watches → d1.searches ≡ d.searches
    → d1.agent ≡ state_after d.agent (binding_outcome (shown_page d.agent.mode page) page.tree c d.agent)
    → DeskStandsFor d1 s1 (command_step id (AskDom c) state).state
asked-stands d d1 s s1 state id c page fits is_off stands same_side sheets_is same_page on_is css_is watches_is searches_is agent_is =
    let w = state.client.session in
    let shown = page_shown state in
    let whole = state.side.page.tree in
    let valid = valid-shown state stands.now in
    let on : (ask_needs_on c && not state.client.dom_on) ≡ false = same-on c d.is_on state.client.dom_on false stands.on_is is_off in
    let o : Outcome Session = session_outcome shown whole c w in
    let bound : Stands (nodes_shown state) (state_after w o) (state_after d.agent (binding_outcome shown whole c d.agent)) =
    stays_bound shown whole c w d.agent (finds_shown state.client.mode state.side.page stands.now.page) valid fits stands.now.session
    stands.stands in
    let agent_now : state_after d.agent (binding_outcome shown whole c d.agent) ≡ d1.agent =
    sym (agent_is ∙ asked-here d s state page c (λ o. state_after d.agent o) stands same_page) in
    subst (λ (done : Step). DeskStandsFor d1 s1 done.state)
    (sym (on-is id (AskDom c) state on (ask-passes c state.client.css_on))) (record {
      now = served-is c o state stands.now (off-after c state stands.now on)
          (unknown-before shown whole c w valid stands.now.session)
          (stays_session shown whole c w valid fits stands.now.session);
      page_is = same_side ∙ stands.page_is;
      sheets_are = ap (λ (b : NumberedBook). b.entries) sheets_is ∙ stands.sheets_are;
      next_is = ap (λ (b : NumberedBook). b.next) sheets_is ∙ stands.next_is;
      medium_is = ap (λ (b : NumberedBook). b.medium) sheets_is ∙ stands.medium_is;
      on_is = on_is ∙ on-after c shown whole state.client d.is_on stands.on_is;
      css_is = css_is ∙ stands.css_is ∙ served-css c o state.client;
      mode_is = ap (λ (b : BindingValue). b.mode) (sym agent_now) ∙ command_keeps_mode shown whole c d.agent ∙ stands.mode_is
          ∙ served-mode c o state.client;
      watches_are = watches_is ∙ stands.watches_are ∙ served-watches c o state.client;
      searches_are = searches_is ∙ stands.searches_are ∙ served-searches c o state.client;
      stands = served-stands c o state d1.agent (subst (λ a. Stands (nodes_shown state) (state_after w o) a) agent_now bound);
    })

pub asked-sent : (d : Desk) (s : PageSide) (state : State) (id : ℕ) (c : DomAsk) (page : PageValue) (old new : List ℕ)
    → has_depth c ≡ true → false ≡ (ask_needs_on c && not d.is_on) → DeskStandsFor d s state → page ≡ s.page
    → new ≡ old ++ answer id (binding_outcome (shown_page d.agent.mode page) page.tree c d.agent)
    → new ≡ old ++ frames_of_moves (command_step id (AskDom c) state).moves
asked-sent d s state id c page old new fits is_off stands same_page sent =
    let on : (ask_needs_on c && not state.client.dom_on) ≡ false = same-on c d.is_on state.client.dom_on false stands.on_is is_off in
    sent ∙ asked-here d s state page c (λ o. old ++ answer id o) stands same_page
    ∙ ap (λ ms. old ++ frames_of_moves ms)
    (same_moves (page_shown state) state.side.page.tree c state.client.session d.agent id
    (finds_shown state.client.mode state.side.page stands.now.page) (valid-shown state stands.now) fits stands.now.session stands.stands)
    ∙ ap (λ (done : Step). old ++ frames_of_moves done.moves) (sym (on-is id (AskDom c) state on (ask-passes c state.client.css_on)))

-- ---- the seat's own commands

-- where nothing is known, a binding in another mode stands for the same session, with other nodes
unknown-stands : (mode : Mode) (n m : Nodes PageRow) (w : Session) (b : BindingValue) → w.opened ≡ None → Stands n w b
    → Stands m w (in_mode mode b)
unknown-stands mode n m w b empty stands =
    let bare : Session = record { opened = None; pushed = w.pushed; since = w.since } in
    let same : w ≡ bare = λ i. record { opened = empty i; pushed = w.pushed; since = w.since } in
    let before : Stands n bare b = subst (λ z. Stands n z b) same stands in
    subst (λ z. Stands m z (in_mode mode b)) (sym same) (record {
      opened_is = before.opened_is;
      ids_are = before.ids_are;
      serials_are = before.serials_are;
      next_is = before.next_is;
    })

-- it is in the mode that its client asked for, where it was off, and stands for the same session
record Enabled (was : Bool) (word : Option WhitespaceWord) (d : Desk) (state : State) : Type 0 where
  mode_is : (enabled_agent was word d.agent).mode ≡ cond was state.client.mode (mode_asked word)
  stands : Stands (alone (shown_page (cond was state.client.mode (mode_asked word)) state.side.page).tree) state.client.session
      (enabled_agent was word d.agent)

enabled-agent : (was : Bool) (word : Option WhitespaceWord) (d : Desk) (s : PageSide) (state : State) → DeskStandsFor d s state
    → state.client.dom_on ≡ was → Enabled was word d state
enabled-agent true word d s state stands was = record { mode_is = stands.mode_is; stands = stands.stands }
enabled-agent false word d s state stands was = record {
  mode_is = refl;
  stands = unknown-stands (mode_asked word) (nodes_shown state) (alone (shown_page (mode_asked word) state.side.page).tree)
      state.client.session d.agent (stands.now.off was) stands.stands;
}

pub enabled-stands : (d d1 : Desk) (s s1 : PageSide) (state : State) (id : ℕ) (word : Option WhitespaceWord) → DeskStandsFor d s state
    → s1.page ≡ s.page → s1.sheets ≡ s.sheets → d1.is_on ≡ true → d1.css ≡ d.css → d1.watches ≡ d.watches → d1.searches ≡ d.searches
    → d1.agent ≡ enabled_agent d.is_on word d.agent → DeskStandsFor d1 s1 (served_step id (DomEnable word) state).state
enabled-stands d d1 s s1 state id word stands same sheets_is on css_is watches_is searches_is agent_is =
    let was = state.client.dom_on in
    let e : Enabled was word d state = enabled-agent was word d s state stands refl in
    let agent_now : d1.agent ≡ enabled_agent was word d.agent = agent_is ∙ ap (λ b. enabled_agent b word d.agent) stands.on_is in
    record {
      now = enabled-is word state stands.now;
      page_is = same ∙ stands.page_is;
      sheets_are = ap (λ (b : NumberedBook). b.entries) sheets_is ∙ stands.sheets_are;
      next_is = ap (λ (b : NumberedBook). b.next) sheets_is ∙ stands.next_is;
      medium_is = ap (λ (b : NumberedBook). b.medium) sheets_is ∙ stands.medium_is;
      on_is = on;
      css_is = css_is ∙ stands.css_is;
      mode_is = ap (λ (b : BindingValue). b.mode) agent_now ∙ e.mode_is;
      watches_are = watches_is ∙ stands.watches_are;
      searches_are = searches_is ∙ stands.searches_are;
      stands = subst (λ a. Stands (nodes_shown (with_client (client_on word state.client) state)) state.client.session a) (sym agent_now)
          e.stands;
    }

-- nothing is known to an agent whose client's DOM is off
pub off-knows : (d : Desk) (s : PageSide) → ∥ ((state : State) × DeskStandsFor d s state) ∥₁ → d.is_on ≡ false → KnowsNothing d.agent
off-knows d s standing off =
    ∥∥₁_elim standing (hlevel props) (λ p k. p.1.stands.ids_are k
    ∙ ap (λ (o : Option (ℕ → Bool)). id_at (record { opened = o; pushed = p.0.client.session.pushed; since = p.0.client.session.since })
    (nodes_shown p.0) k) (p.1.now.off (sym p.1.on_is ∙ off)))

-- `DOM.disable`, where DOM is on
disable-on : (b on : Bool) → b ≡ on → b ≡ true → (true && not on) ≡ false
disable-on b on is h = ap (λ x. not x) (sym is ∙ h)

and-false : (b : Bool) → (b && false) ≡ false
and-false true = refl
and-false false = refl

pub disabled-stands : (d d1 : Desk) (s s1 : PageSide) (state : State) (id : ℕ) → DeskStandsFor d s state → d.is_on ≡ true
    → s1.page ≡ s.page → s1.sheets ≡ s.sheets → d1.is_on ≡ false
    → d1.css ≡ false → d1.watches ≡ unwatched → d1.searches ≡ forgotten d.searches → d1.agent ≡ in_mode All (cleared d.agent)
    → DeskStandsFor d1 s1 (command_step id DomDisable state).state
disabled-stands d d1 s s1 state id stands was same sheets_is off css_off watches_is searches_is agent_is =
    let after : State = with_client (client_off state.client) state in
    subst (λ (done : Step). DeskStandsFor d1 s1 done.state)
    (sym (on-is id DomDisable state (disable-on d.is_on state.client.dom_on stands.on_is was) refl)) (record {
      now = disabled-is state stands.now;
      page_is = same ∙ stands.page_is;
      sheets_are = ap (λ (b : NumberedBook). b.entries) sheets_is ∙ stands.sheets_are;
      next_is = ap (λ (b : NumberedBook). b.next) sheets_is ∙ stands.next_is;
      medium_is = ap (λ (b : NumberedBook). b.medium) sheets_is ∙ stands.medium_is;
      on_is = off;
      css_is = css_off ∙ sym (and-false state.client.css_on);
      mode_is = ap (λ (b : BindingValue). b.mode) agent_is;
      watches_are = watches_is;
      searches_are = searches_is ∙ ap forgotten stands.searches_are;
      stands = subst (λ a. Stands (nodes_shown after) (reset state.client.session) a) (sym agent_is)
          (unknown-stands All (nodes_shown after) (nodes_shown after) (reset state.client.session) (cleared d.agent) refl
          (Stands-reset (nodes_shown state) (nodes_shown after) state.client.session d.agent stands.stands));
    })
