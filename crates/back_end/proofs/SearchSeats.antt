-- A desk that answers what is asked of searches stands for the state of the step, and sends its moves.
use Rattle.std.proofs.Common.{◌≡◌, ℕ, Bool, true, false, cond, not, ◌&&◌, ◌||◌, List, [], ◌∷◌, ◌++◌, length, Option, Some, None}
use Rattle.std.proofs.Common.{Result, Err, refl, sym, ap, subst, ◌∙◌, append-nil}
use Rattle.std.specs.Prelude.{filter, is_some}
use Rattle.std.specs.FinMap as table
use Rattle.page_tree.specs.Pages.{PageValue}
use Rattle.node_binding.specs.Bindings.{BindingValue, Stands, opened_in}
use Rattle.node_binding.specs.Sessions.{is_open}
use Rattle.pipe_frames.specs.Frames.{framed}
use Rattle.cdp_messages.specs.declared.command.Command.TheVariants.{AskDom, AskSearch}
use Rattle.cdp_messages.specs.declared.command.Why.{Why}
use Rattle.cdp_messages.specs.declared.command.Why.TheVariants.{NotPushed, NoSearch}
use Rattle.cdp_messages.specs.declared.dom_ask.DomAsk.{DomAsk}
use Rattle.cdp_messages.specs.declared.dom_ask.DomAsk.TheVariants.{PushBySerials}
use Rattle.cdp_messages.specs.declared.down.ReplyBody.{ReplyBody}
use Rattle.cdp_messages.specs.declared.down.ReplyBody.TheVariants.{Nothing, Search}
use Rattle.cdp_messages.specs.declared.search_ask.SearchAsk.{SearchAsk}
use Rattle.cdp_messages.specs.declared.method.Domains.{Domains}
use Rattle.cdp_messages.specs.Methods.{needs_both}
use Rattle.cdp_messages.proofs.Commands.{searches-need-dom}
use Rattle.cdp_messages.specs.Replies.{reply_text}
use Rattle.cdp_messages.specs.SearchIds.{search_in}
use Rattle.client_views.specs.Moves.{replied, frames_of_moves}
use Rattle.dom_agent.specs.Laws.{binding_outcome}
use Rattle.dom_agent.specs.Requests.{state_after, answer}
use Rattle.dom_search.specs.declared.searches.SearchFault.{SearchFault}
use Rattle.dom_search.specs.Found.{found_in}
use Rattle.dom_search.specs.Searches.{Kept as Searched, next_search, with_search, without_search}
use Rattle.page_tree.specs.Pages.{find_in}
use Rattle.shown_pages.specs.declared.modes.Mode.{Mode}
use Rattle.shown_pages.specs.ShownPages.{shown_page}
use Rattle.back_end.specs.declared.desk.Desk.{Desk}
use Rattle.back_end.specs.declared.side.PageSide.{PageSide}
use Rattle.back_end.specs.States.{State, nodes_shown}
use Rattle.back_end.specs.Steps.{Step, found_now, refusing, idle, answering, with_searches, perform_step, results_in, or_why, results_asked}
use Rattle.back_end.specs.Steps.{results_step, discard_step, agent_step, search_step, needs_css, command_step}
use Rattle.back_end.specs.Seats.{DeskStandsFor}
use Rattle.back_end.proofs.SearchSteps.{searched-is}
use Rattle.back_end.proofs.SeatLemmas.{on-is, asked-stands, asked-sent}
use Rattle.back_end.proofs.SheetSeats.{dom-on}

-- what was found became another
pub searched-stands : (d d1 : Desk) (s : PageSide) (state : State) (searches : Searched) → DeskStandsFor d s state → d1.is_on ≡ d.is_on
    → d1.css ≡ d.css → d1.watches ≡ d.watches → d1.searches ≡ searches → d1.agent ≡ d.agent
    → DeskStandsFor d1 s (with_searches searches state)
searched-stands d d1 s state searches stands on_is css_is watches_is searches_is agent_is = record {
  now = searched-is searches state stands.now;
  page_is = stands.page_is;
  sheets_are = stands.sheets_are;
  next_is = stands.next_is;
  medium_is = stands.medium_is;
  on_is = on_is ∙ stands.on_is;
  css_is = css_is ∙ stands.css_is;
  mode_is = ap (λ (b : BindingValue). b.mode) agent_is ∙ stands.mode_is;
  watches_are = watches_is ∙ stands.watches_are;
  searches_are = searches_is;
  stands = subst (λ a. Stands (nodes_shown state) state.client.session a) (sym agent_is) stands.stands;
}

-- a reply alone
reply-sent : (id : ℕ) (body : ReplyBody) (old new : List ℕ) → new ≡ old ++ framed (reply_text id body)
    → new ≡ old ++ frames_of_moves (replied id body ∷ [])
reply-sent id body old new sent = sent ∙ ap (λ bs. old ++ bs) (sym (append-nil (framed (reply_text id body))))

-- ---- `DOM.performSearch`

-- those of the nodes that were found which are shown, in the agent's mode
pub shown-found : (mode here : Mode) (page : PageValue) (query all : List ℕ) → here ≡ mode → all ≡ found_in page.tree query
    → filter (λ k. is_some (find_in k (shown_page here page).tree)) all
    ≡ filter (λ k. is_some (find_in k (shown_page mode page).tree)) (found_in page.tree query)
shown-found mode here page query all mode_is is =
    λ i. filter (λ k. is_some (find_in k (shown_page (mode_is i) page).tree)) (is i)

module _ (d : Desk) (s : PageSide) (state : State) (id : ℕ) (query : List ℕ) (page : PageValue) (serials : List ℕ)
    (stands : DeskStandsFor d s state) (page_is : page ≡ s.page)
    (found : serials ≡ filter (λ k. is_some (find_in k (shown_page d.agent.mode page).tree)) (found_in page.tree query)) where
  found-is : serials ≡ found_now query state
  found-is = found ∙ (λ i. filter (λ k. is_some (find_in k (shown_page (stands.mode_is i) ((page_is ∙ stands.page_is) i)).tree))
      (found_in ((page_is ∙ stands.page_is) i).tree query))

  pub performed-stands : (d1 : Desk) → d1.is_on ≡ d.is_on → d1.css ≡ d.css → d1.watches ≡ d.watches
      → d1.searches ≡ with_search serials d.searches → d1.agent ≡ d.agent → DeskStandsFor d1 s (perform_step id query state).state
  performed-stands d1 on_is css_is watches_is searches_is agent_is =
      searched-stands d d1 s state (with_search (found_now query state) state.client.searches) stands on_is css_is watches_is
      (searches_is ∙ (λ i. with_search (found-is i) (stands.searches_are i))) agent_is

  pub performed-sent : (search count : ℕ) (old new : List ℕ) → search ≡ next_search d.searches → count ≡ length serials
      → new ≡ old ++ framed (reply_text id (Search search count)) → new ≡ old ++ frames_of_moves (perform_step id query state).moves
  performed-sent search count old new search_is count_is sent =
      let number : search ≡ next_search state.client.searches = search_is ∙ ap next_search stands.searches_are in
      let many : count ≡ length (found_now query state) = count_is ∙ ap (λ (l : List ℕ). length l) found-is in
      reply-sent id (Search search count) old new sent
      ∙ (λ i. old ++ frames_of_moves (replied id (Search (number i) (many i)) ∷ []))

-- ---- `DOM.getSearchResults`

module _ (d : Desk) (s : PageSide) (state : State) (id : ℕ) (stands : DeskStandsFor d s state) where
  -- a refusal
  pub unlisted-stands : (r : Result (List ℕ) Why) (why : Why) → r ≡ Err why → DeskStandsFor d s (results_step id r state).state
  unlisted-stands r why is = subst (λ (r : Result (List ℕ) Why). DeskStandsFor d s (results_step id r state).state) (sym is) stands

  pub unlisted-sent : (r : Result (List ℕ) Why) (why : Why) (old new : List ℕ) → r ≡ Err why
      → new ≡ old ++ frames_of_moves (refusing (Some id) why state).moves → new ≡ old ++ frames_of_moves (results_step id r state).moves
  unlisted-sent r why old new is sent =
      sent ∙ ap (λ (r : Result (List ℕ) Why). old ++ frames_of_moves (results_step id r state).moves) (sym is)

  module _ (page : PageValue) (page_is : page ≡ s.page) where
    module _ (named : List ℕ) (from to : ℕ) where
      -- what is asked for, as the desk has it
      asked-is : (o : Option ℕ) (opened : Bool) → o ≡ search_in named → opened ≡ opened_in d.agent page.tree.row.serial
          → results_asked named from to state ≡ cond opened (or_why (results_in from to d.searches o)) (Err NotPushed)
      asked-is o opened named_is opened_is =
          let same : opened ≡ is_open state.client.session.opened state.side.page.tree.row.serial =
          opened_is ∙ ap (λ (p : PageValue). opened_in d.agent p.tree.row.serial) (page_is ∙ stands.page_is)
          ∙ stands.stands.opened_is state.side.page.tree.row.serial in
          sym (λ i. cond (same i) (or_why (results_in from to (stands.searches_are i) (named_is i))) (Err NotPushed))

      pub unpushed : (opened : Bool) → opened ≡ opened_in d.agent page.tree.row.serial → opened ≡ false
          → results_asked named from to state ≡ Err NotPushed
      unpushed opened opened_is shut = asked-is (search_in named) opened refl opened_is ∙ ap
          (λ (b : Bool). cond b (or_why (results_in from to d.searches (search_in named))) (Err NotPushed)) shut

      pub listed : (opened : Bool) (o : Option ℕ) (r : Result (List ℕ) SearchFault) → opened ≡ opened_in d.agent page.tree.row.serial
          → opened ≡ true → o ≡ search_in named
          → results_in from to d.searches o ≡ r → results_asked named from to state ≡ or_why r
      listed opened o r opened_is open_now named_is is =
          asked-is o opened named_is opened_is
          ∙ (λ i. cond (open_now i) (or_why (is i)) (Err NotPushed))

    -- nodes that become known
    module _ (serials : List ℕ) (on : d.is_on ≡ true) where
      abbrev push : DomAsk
      push = PushBySerials serials

      met : (true && not state.client.dom_on) ≡ false
      met = ap (λ (b : Bool). not b) (sym stands.on_is ∙ on)

      was : false ≡ (true && not d.is_on)
      was = sym (ap (λ (b : Bool). not b) on)

      stays-on : (b : Bool) → b ≡ (b || false)
      stays-on true = refl
      stays-on false = refl

      push-is : command_step id (AskDom push) state ≡ agent_step id push state
      push-is = on-is id (AskDom push) state met refl

      pub listed-stands : (d1 : Desk) → d1.is_on ≡ d.is_on → d1.css ≡ d.css → d1.watches ≡ d.watches → d1.searches ≡ d.searches
          → d1.agent ≡ state_after d.agent (binding_outcome (shown_page d.agent.mode page) page.tree push d.agent)
          → DeskStandsFor d1 s (agent_step id push state).state
      listed-stands d1 on_is css_is watches_is searches_is agent_is =
          subst (λ (done : Step). DeskStandsFor d1 s done.state) push-is
          (asked-stands d d1 s s state id push page refl was stands refl refl page_is (on_is ∙ stays-on d.is_on)
          css_is watches_is searches_is
          agent_is)

      pub listed-sent : (old new : List ℕ) → new ≡ old ++ answer id (binding_outcome (shown_page d.agent.mode page) page.tree push d.agent)
          → new ≡ old ++ frames_of_moves (agent_step id push state).moves
      listed-sent old new sent =
          asked-sent d s state id push page old new refl was stands page_is sent
          ∙ ap (λ (done : Step). old ++ frames_of_moves done.moves) push-is

-- ---- `DOM.discardSearchResults`

module _ (d : Desk) (s : PageSide) (state : State) (id : ℕ) (named : List ℕ) (stands : DeskStandsFor d s state) where
  abbrev by_test : Bool → ℕ → Step
  by_test b search = cond b (answering id (idle (with_searches (without_search search state.client.searches) state)))
      (refusing (Some id) NoSearch state)

  discard-is : (search : ℕ) (b : Bool) → Some search ≡ search_in named → is_some (table.get d.searches.lists search) ≡ b
      → discard_step id (search_in named) state ≡ by_test b search
  discard-is search b named_is is =
      sym (ap (λ (o : Option ℕ). discard_step id o state) named_is)
      ∙ ap (λ (k : Searched). by_test (is_some (table.get k.lists search)) search) (sym stands.searches_are)
      ∙ ap (λ (t : Bool). by_test t search) is

  unknown-is : None ≡ search_in named → discard_step id (search_in named) state ≡ refusing (Some id) NoSearch state
  unknown-is named_is = sym (ap (λ (o : Option ℕ). discard_step id o state) named_is)

  pub discarded-stands : (d1 : Desk) (search : ℕ) → Some search ≡ search_in named → is_some (table.get d.searches.lists search) ≡ true
      → d1.is_on ≡ d.is_on → d1.css ≡ d.css → d1.watches ≡ d.watches → d1.searches ≡ without_search search d.searches → d1.agent ≡ d.agent
      → DeskStandsFor d1 s (discard_step id (search_in named) state).state
  discarded-stands d1 search named_is there on_is css_is watches_is searches_is agent_is =
      subst (λ (done : Step). DeskStandsFor d1 s done.state) (sym (discard-is search true named_is there))
      (searched-stands d d1 s state (without_search search state.client.searches) stands on_is css_is watches_is
      (searches_is ∙ ap (without_search search) stands.searches_are) agent_is)

  pub discarded-sent : (search : ℕ) (old new : List ℕ) → Some search ≡ search_in named
      → is_some (table.get d.searches.lists search) ≡ true → new ≡ old ++ framed (reply_text id Nothing)
      → new ≡ old ++ frames_of_moves (discard_step id (search_in named) state).moves
  discarded-sent search old new named_is there sent =
      reply-sent id Nothing old new sent
      ∙ ap (λ (done : Step). old ++ frames_of_moves done.moves) (sym (discard-is search true named_is there))

  -- where no such search is kept
  pub gone-stands : (search : ℕ) → Some search ≡ search_in named → is_some (table.get d.searches.lists search) ≡ false
      → DeskStandsFor d s (discard_step id (search_in named) state).state
  gone-stands search named_is gone = subst (λ (done : Step). DeskStandsFor d s done.state)
      (sym (discard-is search false named_is gone)) stands

  pub gone-sent : (search : ℕ) (old new : List ℕ) → Some search ≡ search_in named → is_some (table.get d.searches.lists search) ≡ false
      → new ≡ old ++ frames_of_moves (refusing (Some id) NoSearch state).moves
      → new ≡ old ++ frames_of_moves (discard_step id (search_in named) state).moves
  gone-sent search old new named_is gone sent =
      sent ∙ ap (λ (done : Step). old ++ frames_of_moves done.moves) (sym (discard-is search false named_is gone))

  -- where the text is the id of none
  pub unknown-search-stands : None ≡ search_in named → DeskStandsFor d s (discard_step id (search_in named) state).state
  unknown-search-stands is = subst (λ (done : Step). DeskStandsFor d s done.state) (sym (unknown-is is)) stands

  pub unknown-search-sent : (old new : List ℕ) → None ≡ search_in named
      → new ≡ old ++ frames_of_moves (refusing (Some id) NoSearch state).moves
      → new ≡ old ++ frames_of_moves (discard_step id (search_in named) state).moves
  unknown-search-sent old new is sent = sent ∙ ap (λ (done : Step). old ++ frames_of_moves done.moves) (sym (unknown-is is))

-- ---- a command

-- none needs CSS on
no-css : (ask : SearchAsk) (on : Bool) → (needs_css (AskSearch ask) && not on) ≡ false
no-css ask on = ap (λ (d : Domains). needs_both d && not on) (searches-need-dom ask)

-- while DOM is on, what is asked of searches is served
pub search-is : (d : Desk) (s : PageSide) (state : State) (id : ℕ) (ask : SearchAsk) → DeskStandsFor d s state → d.is_on ≡ true
    → command_step id (AskSearch ask) state ≡ search_step id ask state
search-is d s state id ask stands on = on-is id (AskSearch ask) state (dom-on (AskSearch ask) d s state stands on)
    (no-css ask state.client.css_on)
