-- The state of a run: that of the back end, and the matched styles that its client was told.
use Rattle.std.specs.Prelude.{ℕ, ◌==◌, false, ◌&&◌, cond, List, [], ◌∷◌, ◌++◌, Option, Some, None, option_map, option_and_then}
use Rattle.std.specs.Prelude.{option_to_list, Result, Ok, Err}
use Rattle.page_tree.specs.Zippers.{zipper_at}
use Rattle.page_forms.specs.Pages.{LoadedPage}
use Rattle.css_objects.specs.declared.rules.Matched.{Matched}
use Rattle.cdp_messages.specs.declared.command.Asked.{Asked}
use Rattle.cdp_messages.specs.declared.command.Refused.{Refused}
use Rattle.cdp_messages.specs.declared.command.Why.{Why}
use Rattle.cdp_messages.specs.Asked.{asked}
use Rattle.cdp_messages.specs.declared.css_ask.CssAsk.{CssAsk}
use Rattle.cdp_messages.specs.declared.css_ask.CssAsk.TheVariants as css
use Rattle.css_agent.specs.Asks.{css_ask_in}
use Rattle.css_agent.specs.MatchedStyles.{matched_styles}
use Rattle.back_end.specs.States.{State, book_in, loaded_state}
use Rattle.back_end.specs.Steps.{Turn, element_named}
use Rattle.session_runs.specs.World.{Stepped}
use Rattle.inspect_world.specs.StepBytes.{step, turn}

-- the matched styles that answered the ask with this id
pub record ToldStyles : Type 0 where
  pub ask : ℕ
  pub matched : Matched

-- matched styles with the id of the ask that they answered
abbrev pub told_styles : ℕ → Matched → ToldStyles
told_styles ask matched = record { ask = ask; matched = matched }

-- the state of the back end, and the matched styles that it has told, in their order
pub record RunState : Type 0 where
  pub back : State
  pub styles : List ToldStyles

-- a page that was just loaded
abbrev pub run_start : LoadedPage → RunState
run_start page = record { back = loaded_state page; styles = [] }

-- ---- the styles that a frame asks for

-- the matched styles of the element with that serial: those of the page and its sheets in this state
abbrev pub styles_of_element : State → ℕ → Matched
styles_of_element state serial = matched_styles state.side.medium (book_in state) (zipper_at serial state.side.page.tree)

-- the serial of an element, if one was named
abbrev pub if_named : Result ℕ Why → Option ℕ
if_named (Ok serial) = Some serial
if_named (Err why) = None

-- the matched styles of the node with that id, where it names an element, and the domains DOM and CSS are on
abbrev pub styles_of_node : State → ℕ → Option Matched
styles_of_node state node =
    cond (state.client.dom_on && state.client.css_on) (option_map (styles_of_element state) (if_named (element_named node state))) None

-- the node whose matched styles are asked for
abbrev pub node_styled : CssAsk → Option ℕ
node_styled (css.GetMatchedStyles node) = Some node
node_styled (css.GetStyleSheetText sheet) = None
node_styled (css.CollectClassNames sheet) = None

-- the matched styles that answer what is asked
abbrev pub styles_asked : Result Asked Refused → State → List ToldStyles
styles_asked (Ok a) state =
    option_to_list (option_map (told_styles a.id)
    (option_and_then (styles_of_node state) (option_and_then node_styled (css_ask_in a.command))))
styles_asked (Err r) state = []

-- the matched styles that answer a frame, by the state that it comes to
abbrev pub styles_answered : List ℕ → State → List ToldStyles
styles_answered frame state = styles_asked (asked frame false) state

-- the matched styles that answered the ask with that id, if any did
abbrev pub styles_under : ℕ → List ToldStyles → Option Matched
styles_under ask [] = None
styles_under ask (t ∷ ts) = cond (t.ask == ask) (Some t.matched) (styles_under ask ts)

-- ---- the steps of a run

-- the step on a frame
abbrev pub run_step : RunState → List ℕ → Stepped RunState
run_step s frame =
    let done = step s.back frame in
    record { state = record { back = done.state; styles = s.styles ++ styles_answered frame s.back }; sent = done.sent }

-- the script's own step, which answers nothing
abbrev pub run_turn : Turn → RunState → Stepped RunState
run_turn x s = let done = turn x s.back in record { state = record s { back = done.state }; sent = done.sent }
