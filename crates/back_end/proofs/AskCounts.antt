-- What the agent is asked draws no more ids than the page has nodes.
use Rattle.std.proofs.Common.{◌≡◌, ◌+◌, ◌<◌, ◌≤◌, ◌^◌, true, length, sym, ◌∙◌, subst, arith}
use Rattle.std.proofs.Math.Logic.{∥∥₁_elim}
use Rattle.std.proofs.Props.{props}
use Rattle.node_tree.specs.Nodes.{node_count}
use Rattle.page_tree.specs.Pages.{PageValue}
use Rattle.node_binding.specs.Bindings.{Stands}
use Rattle.node_binding.specs.Sessions.{Session}
use Rattle.node_binding.proofs.StartLemmas.{count-alone}
use Rattle.cdp_messages.specs.declared.dom_ask.DomAsk.{DomAsk}
use Rattle.dom_agent.specs.Laws.{session_outcome, binding_outcome, has_depth}
use Rattle.dom_agent.specs.Requests.{Outcome, state_after}
use Rattle.dom_agent.proofs.OutcomeLemmas.{draws_few}
use Rattle.dom_agent.proofs.KeeperLemmas.{stays_bound}
use Rattle.dom_agent.proofs.ModeQueries.{finds_shown}
use Rattle.shown_pages.specs.declared.modes.Mode.{Mode}
use Rattle.shown_pages.specs.ShownPages.{shown_page}
use Rattle.back_end.proofs.WellSteps.{valid-shown}
use Rattle.back_end.specs.declared.desk.Desk.{Desk}
use Rattle.back_end.specs.declared.side.PageSide.{PageSide}
use Rattle.back_end.specs.States.{State, page_shown, nodes_shown}
use Rattle.back_end.specs.Seats.{DeskStandsFor}

state-few : (d : Desk) (s : PageSide) (page : PageValue) (c : DomAsk) → has_depth c ≡ true → d.agent.next < 2 ^ 50 → page ≡ s.page
    → (state : State) → DeskStandsFor d s state
    → (state_after d.agent (binding_outcome (shown_page d.agent.mode page) page.tree c d.agent)).next < 2 ^ 60
state-few d s page c fits room is state stands =
    let w : Session = state.client.session in
    let o : Outcome Session = session_outcome (page_shown state) state.side.page.tree c w in
    let mode = state.client.mode in
    let page_now = state.side.page in
    let valid = valid-shown state stands.now in
    let bound : Stands (nodes_shown state) (state_after w o)
    (state_after d.agent (binding_outcome (page_shown state) page_now.tree c d.agent)) =
    stays_bound (page_shown state) page_now.tree c w d.agent (finds_shown mode page_now stands.now.page) valid fits stands.now.session
    stands.stands in
    let few : length (state_after w o).pushed ≤ length w.pushed + node_count (nodes_shown state) =
    draws_few (page_shown state) page_now.tree c w valid fits stands.now.session in
    let count : node_count (nodes_shown state) ≤ 100000 = count-alone (page_shown state) valid in
    subst (λ (x : Mode × PageValue). (state_after d.agent (binding_outcome (shown_page x.0 x.1) x.1.tree c d.agent)).next < 2 ^ 60)
    (sym (λ i. (stands.mode_is i, (is ∙ stands.page_is) i)))
    (omega (arith, bound.next_is, few, count, stands.stands.next_is, room))

pub ask-few : (d : Desk) (s : PageSide) (page : PageValue) (c : DomAsk) → has_depth c ≡ true → d.agent.next < 2 ^ 50 → page ≡ s.page
    → ∥ ((state : State) × DeskStandsFor d s state) ∥₁
    → (state_after d.agent (binding_outcome (shown_page d.agent.mode page) page.tree c d.agent)).next < 2 ^ 60
ask-few d s page c fits room is standing = ∥∥₁_elim standing (hlevel props) (λ p. state-few d s page c fits room is p.0 p.1)
