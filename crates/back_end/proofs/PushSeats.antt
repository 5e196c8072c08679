-- A node that becomes known at a desk is the step of the state.
use Rattle.std.proofs.Common.{◌≡◌, ℕ, ◌==◌, ◌||◌, Bool, true, false, not, cond, List, [], ◌∷◌, ◌++◌, map, Option, Some, None, Result, Ok}
use Rattle.std.proofs.Common.{Err}
use Rattle.std.proofs.Common.{refl, sym, ◌∙◌, ap, subst, append-nil}
use Rattle.std.specs.Prelude.{filter, is_some, unwrap_or, IsSome, OnOk, IfOk}
use Rattle.node_tree.specs.Nodes.{Nodes, none, node, Branch, alone}
use Rattle.node_tree.specs.Keys.{has}
use Rattle.node_tree.proofs.KeyLemmas.{has-find}
use Rattle.page_tree.specs.Pages.{PageRow, PageValue, row_serial, find_in}
use Rattle.shown_pages.specs.declared.modes.Mode.{Mode}
use Rattle.node_binding.specs.Bindings.{BindingValue, Stands, id_in}
use Rattle.node_binding.specs.Sessions.{Session, IsSession, is_open, session_of, session_ids, known_by, knows, id_at}
use Rattle.node_binding.proofs.Places.{is_in-times}
use Rattle.node_binding.proofs.StartLemmas.{distinct-alone}
use Rattle.client_views.specs.Moves.{frames_of_moves}
use Rattle.dom_agent.specs.Keepers.{session_keeper, binding_keeper}
use Rattle.dom_agent.specs.Requests.{Progress, ancestors_down, all_opened, pushed, opening_moves, frames_told}
use Rattle.dom_agent.proofs.OutcomeLemmas.{containers-page}
use Rattle.dom_agent.proofs.KeeperLemmas.{Alike, alike-pushed, pushed-id}
use Rattle.shown_pages.specs.ShownPages.{shown_page}
use Rattle.back_end.specs.States.{State, page_shown, nodes_shown, HoldsNow}
use Rattle.back_end.specs.Steps.{with_client, push_step, is_shown_now, id_now, id_told}
use Rattle.back_end.specs.declared.desk.Desk.{Desk}
use Rattle.back_end.specs.declared.side.PageSide.{PageSide}
use Rattle.back_end.specs.Seats.{HasBegun, DeskStandsFor}
use Rattle.dom_agent.proofs.KeptMode.{push_keeps_mode}
use Rattle.back_end.proofs.WatchSteps.{there-by}
use Rattle.back_end.proofs.WellSteps.{valid-shown}
use Rattle.back_end.proofs.PushSteps.{IsBegun, is-begun, push_of, session-is, push-is}

-- what a push comes to for a binding
abbrev bound_push : ℕ → PageValue → BindingValue → Progress BindingValue
bound_push serial page b = pushed (binding_keeper (alone page.tree)) page.tree serial b

-- the binding comes to stand for the session after, and the same is told
push-alike : (serial : ℕ) (state : State) (b : BindingValue) → HoldsNow state → IsBegun state.client.session
    → Stands (nodes_shown state) state.client.session b
    → Alike (nodes_shown state) (push_of serial state) (bound_push serial (page_shown state) b)
push-alike serial state b is begun stands =
    let page = page_shown state in
    let valid = valid-shown state is in
    let n = nodes_shown state in
    let w : Session = state.client.session in
    let same : session_of begun.0 w.pushed w.since ≡ w = session-is w begun in
    subst (λ (z : Session). Alike n (pushed (session_keeper n) page.tree serial z) (bound_push serial page b)) same
    (alike-pushed page.tree (distinct-alone page valid) (containers-page page valid) serial begun.0 w.pushed w.since b
    (subst (λ (z : Session). IsSession n z) (sym same) is.session) (subst (λ (z : Session). Stands n z b) (sym same) stands))

-- and the node has the same id
push-same-id : (serial : ℕ) (state : State) (b : BindingValue) → HoldsNow state → IsBegun state.client.session
    → Stands (nodes_shown state) state.client.session b → has row_serial serial (nodes_shown state) ≡ true
    → id_in (bound_push serial (page_shown state) b).state serial ≡ session_ids (push_of serial state).state serial
push-same-id serial state b is begun stands there =
    let page = page_shown state in
    let valid = valid-shown state is in
    let n = nodes_shown state in
    let w : Session = state.client.session in
    let same : session_of begun.0 w.pushed w.since ≡ w = session-is w begun in
    subst (λ (z : Session). id_in (bound_push serial page b).state serial
    ≡ session_ids (pushed (session_keeper n) page.tree serial z).state serial) same
    (pushed-id page.tree (distinct-alone page valid) (containers-page page valid) serial begun.0 w.pushed w.since b
    (subst (λ (z : Session). IsSession n z) (sym same) is.session) (subst (λ (z : Session). Stands n z b) (sym same) stands) there)

-- the page that an agent shows is the state's page as it is shown
pub shown-here : (d : Desk) (s : PageSide) (state : State) (page : PageValue) → DeskStandsFor d s state → page ≡ s.page
    → shown_page d.agent.mode page ≡ page_shown state
shown-here d s state page stands page_is =
    ap (λ m. shown_page m page) stands.mode_is ∙ ap (shown_page state.client.mode) (page_is ∙ stands.page_is)

pub push-stands : (d d1 : Desk) (s : PageSide) (state : State) (serial : ℕ) (page : PageValue) → DeskStandsFor d s state
    → HasBegun state → page ≡ s.page
    → d1.is_on ≡ d.is_on → d1.css ≡ d.css → d1.watches ≡ d.watches → d1.searches ≡ d.searches
    → d1.agent ≡ (bound_push serial (shown_page d.agent.mode page) d.agent).state
    → DeskStandsFor d1 s (push_step serial state).state
push-stands d d1 s state serial page stands can page_is on_is css_is watches_is searches_is agent_is =
    let begun : IsBegun state.client.session = is-begun state.client.session can in
    let alike = push-alike serial state d.agent stands.now begun stands.stands in
    let same : d1.agent ≡ (bound_push serial (page_shown state) d.agent).state = agent_is ∙ ap
    (λ (p : PageValue). (bound_push serial p d.agent).state) (shown-here d s state page stands page_is) in
    record {
      now = push-is serial state stands.now begun;
      page_is = stands.page_is;
      sheets_are = stands.sheets_are;
      next_is = stands.next_is;
      medium_is = stands.medium_is;
      on_is = on_is ∙ stands.on_is;
      css_is = css_is ∙ stands.css_is;
      mode_is = ap (λ (a : BindingValue). a.mode) same ∙ push_keeps_mode (page_shown state) serial d.agent ∙ stands.mode_is;
      stands = subst (λ (a : BindingValue). Stands (nodes_shown state) (push_of serial state).state a) (sym same) alike.stands;
      watches_are = watches_is ∙ stands.watches_are;
      searches_are = searches_is ∙ stands.searches_are;
    }

pub push-sent : (d : Desk) (s : PageSide) (state : State) (serial : ℕ) (page : PageValue) (old new : List ℕ) → DeskStandsFor d s state
    → HasBegun state → page ≡ s.page
    → new ≡ old ++ frames_told (bound_push serial (shown_page d.agent.mode page) d.agent).shown
    → new ≡ old ++ frames_of_moves (push_step serial state).moves
push-sent d s state serial page old new stands can page_is sent =
    let begun : IsBegun state.client.session = is-begun state.client.session can in
    let alike = push-alike serial state d.agent stands.now begun stands.stands in
    sent ∙ ap (λ (p : PageValue). old ++ frames_told (bound_push serial p d.agent).shown) (shown-here d s state page stands page_is)
    ∙ ap (λ xs. old ++ frames_told xs) alike.shown

-- ---- a node that is hidden

or-parts : (a b : Bool) → (a || b) ≡ false → (a ≡ false) × (b ≡ false)
or-parts true b e = absurd cc
or-parts false b e = (refl, e)

-- nothing stands above what is not there
none-above : (s : ℕ) (n : Nodes PageRow) → has row_serial s n ≡ false → ancestors_down s n ≡ []
none-above s none e = refl
none-above s (node r c t) e =
    let parts = or-parts ((r.serial == s) || has row_serial s c) (has row_serial s t) e in
    let below = (or-parts (r.serial == s) (has row_serial s c) parts.0).1 in
    ap (λ b. cond b (record { row = r; children = c } ∷ ancestors_down s c) (ancestors_down s t)) below ∙ none-above s t parts.1

-- the client is not shown what is not found in the page as the agent shows it
pub hidden-now : (d : Desk) (s : PageSide) (state : State) (serial : ℕ) (page : PageValue) (mode : Mode) → DeskStandsFor d s state
    → page ≡ s.page → mode ≡ d.agent.mode → None ≡ find_in serial (shown_page mode page).tree → is_shown_now state serial ≡ false
hidden-now d s state serial page mode stands page_is mode_is absent =
    sym (ap (λ o. is_some o) absent
    ∙ (λ i. is_some (find_in serial (shown_page ((mode_is ∙ stands.mode_is) i) ((page_is ∙ stands.page_is) i)).tree)))

module _ (state : State) (serial : ℕ) (hidden : is_shown_now state serial ≡ false) where
  nothing-pushed : push_of serial state ≡ record { state = state.client.session; shown = [] }
  nothing-pushed =
      let w : Session = state.client.session in
      let k = session_keeper (nodes_shown state) in
      ap (λ (xs : List (Branch PageRow)). all_opened k (page_shown state).tree
      (map (λ x. record { levels = Some 1; node = x }) (filter (λ (x : Branch PageRow). not (is_open w.opened x.row.serial)) xs)) w)
      (none-above serial (nodes_shown state) (has-find row_serial serial (nodes_shown state) ∙ hidden))

  pub hidden-stands : (d : Desk) (s : PageSide) → DeskStandsFor d s state → DeskStandsFor d s (push_step serial state).state
  hidden-stands d s stands =
      subst (λ (p : Progress Session). DeskStandsFor d s (with_client (record state.client { session = p.state }) state))
      (sym nothing-pushed) stands

  pub hidden-sent : (old : List ℕ) → old ≡ old ++ frames_of_moves (push_step serial state).moves
  hidden-sent old = sym (append-nil old)
      ∙ ap (λ (p : Progress Session). old ++ frames_of_moves (opening_moves p.shown)) (sym nothing-pushed)

  pub hidden-gives : 0 ≡ id_told (push_step serial state).state serial
  hidden-gives = sym (ap (λ b. cond b (id_now (push_step serial state).state serial) 0) hidden)

-- what was found is there
pub found-some : {A : Type 0} (x : A) (o : Option A) → Some x ≡ o → IsSome o
found-some x o is = subst (λ o. IsSome o) is refl

-- ---- a node that is shown

-- a node that is not among the trees is not known
unknown-there : (w : Session) (n : Nodes PageRow) (s : ℕ) → has row_serial s n ≡ false → id_at w n s ≡ None
unknown-there w n s gone = at (knows w n s) refl where
  at : (b : Bool) → knows w n s ≡ b → cond b (Some (session_ids w s)) None ≡ None
  at true e =
      let no : false ≡ true = sym gone ∙ there-by w.opened n s (is_in-times (known_by w.opened n) s e) in
      absurd cc
  at false e = refl

-- the id that is given is the one that is told
push-tells : (serial : ℕ) (state : State) (b : BindingValue) → HoldsNow state → IsBegun state.client.session
    → Stands (nodes_shown state) state.client.session b
    → id_in (bound_push serial (page_shown state) b).state serial ≡ id_told (push_step serial state).state serial
push-tells serial state b is begun stands = at (is_shown_now state serial) refl where
  at : (t : Bool) → is_shown_now state serial ≡ t
      → id_in (bound_push serial (page_shown state) b).state serial ≡ cond t (id_now (push_step serial state).state serial) 0
  at true there = push-same-id serial state b is begun stands (has-find row_serial serial (nodes_shown state) ∙ there)
  at false hidden =
      let alike = push-alike serial state b is begun stands in
      ap (λ o. unwrap_or o 0) (alike.stands.ids_are serial
      ∙ unknown-there (push_of serial state).state (nodes_shown state) serial (has-find row_serial serial (nodes_shown state) ∙ hidden))

pub push-gives : {E : Type 0} (result : Result ℕ E) (d : Desk) (s : PageSide) (state : State) (serial : ℕ) (page : PageValue)
    (b : BindingValue) → DeskStandsFor d s state → HasBegun state → page ≡ s.page
    → IfOk result (λ id. id ≡ id_in b serial) → OnOk result (b ≡ (bound_push serial (shown_page d.agent.mode page) d.agent).state)
    → IfOk result (λ id. id ≡ id_told (push_step serial state).state serial)
push-gives (Ok id) d s state serial page b stands can page_is is known =
    let begun : IsBegun state.client.session = is-begun state.client.session can in
    is ∙ ap (λ (x : BindingValue). id_in x serial)
    (known ∙ ap (λ (p : PageValue). (bound_push serial p d.agent).state) (shown-here d s state page stands page_is))
    ∙ push-tells serial state d.agent stands.now begun stands.stands
push-gives (Err e) d s state serial page b stands can page_is is known = tt
