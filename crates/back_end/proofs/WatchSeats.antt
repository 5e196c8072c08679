-- A seat's answer to the two commands on watches is the step of the state.
use Rattle.std.proofs.Common.{◌≡◌, ℕ, ◌++◌, List, true, false, not, ◌&&◌, Option, Some, None, sym, ◌∙◌, ap, subst}
use Rattle.std.specs.FinMap as map
use Rattle.node_binding.specs.Bindings.{BindingValue, Stands}
use Rattle.cdp_messages.specs.declared.command.Why.TheVariants.{UnknownNode}
use Rattle.client_views.specs.Moves.{frames_of_moves}
use Rattle.dom_breakpoints.specs.Watched.{Watched}
use Rattle.back_end.specs.States.{State, nodes_shown}
use Rattle.cdp_messages.specs.declared.command.Command.{Command}
use Rattle.back_end.specs.Steps.{Step, refusing, serial_now, watch_step, served_step, command_step, needs_css}
use Rattle.back_end.specs.declared.desk.Desk.{Desk}
use Rattle.back_end.specs.declared.side.PageSide.{PageSide}
use Rattle.back_end.specs.Seats.{DeskStandsFor}
use Rattle.back_end.proofs.SeatLemmas.{on-is}
use Rattle.back_end.proofs.SheetSeats.{dom-on}
use Rattle.back_end.proofs.WatchSteps.{AddsOne, watches-are}

-- what changes the watches of a node, as a command
pub record Changes (command : Command) (change : ℕ → Watched → Watched) (node : ℕ) : Type 0 where
  pub step : (id : ℕ) (state : State) → served_step id command state ≡ watch_step id change (serial_now state node) state
  pub plain : needs_css command ≡ false
  pub adds : AddsOne change

module _ (d : Desk) (s : PageSide) (state : State) (id : ℕ) (command : Command) (change : ℕ → Watched → Watched) (node : ℕ)
    (changes : Changes command change node) (stands : DeskStandsFor d s state) where
  step-is : (found : Option ℕ) → d.is_on ≡ true → found ≡ map.get d.agent.serials node
      → command_step id command state ≡ watch_step id change found state
  step-is found was is =
      on-is id command state (dom-on command d s state stands was) (ap (λ b. b && not state.client.css_on) changes.plain)
      ∙ changes.step id state
      ∙ ap (λ o. watch_step id change o state) (sym (is ∙ stands.stands.serials_are node))

  pub unknown-stands : d.is_on ≡ true → None ≡ map.get d.agent.serials node → DeskStandsFor d s (command_step id command state).state
  unknown-stands was is = subst (λ (done : Step). DeskStandsFor d s done.state) (sym (step-is None was is)) stands

  pub unknown-sent : (old new : List ℕ) → d.is_on ≡ true → None ≡ map.get d.agent.serials node
      → new ≡ old ++ frames_of_moves (refusing (Some id) UnknownNode state).moves
      → new ≡ old ++ frames_of_moves (command_step id command state).moves
  unknown-sent old new was is sent = sent ∙ ap (λ (done : Step). old ++ frames_of_moves done.moves) (sym (step-is None was is))

  pub changed-stands : (d1 : Desk) (serial : ℕ) → d.is_on ≡ true → Some serial ≡ map.get d.agent.serials node
      → d1.is_on ≡ d.is_on → d1.css ≡ d.css → d1.watches ≡ change serial d.watches → d1.searches ≡ d.searches → d1.agent ≡ d.agent
      → DeskStandsFor d1 s (command_step id command state).state
  changed-stands d1 serial was is on_is css_is watches_is searches_is agent_is =
      subst (λ (done : Step). DeskStandsFor d1 s done.state) (sym (step-is (Some serial) was is)) (record {
        now = watches-are change state node serial changes.adds (sym (is ∙ stands.stands.serials_are node)) stands.now;
        page_is = stands.page_is;
        sheets_are = stands.sheets_are;
        next_is = stands.next_is;
        medium_is = stands.medium_is;
        on_is = on_is ∙ stands.on_is;
        css_is = css_is ∙ stands.css_is;
        mode_is = ap (λ (b : BindingValue). b.mode) agent_is ∙ stands.mode_is;
        watches_are = watches_is ∙ ap (change serial) stands.watches_are;
        searches_are = searches_is ∙ stands.searches_are;
        stands = subst (λ a. Stands (nodes_shown state) state.client.session a) (sym agent_is) stands.stands;
      })
