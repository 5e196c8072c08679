-- A command is served where the domains are on that it needs, and refused else.
use Rattle.std.proofs.Common.{◌≡◌, ℕ, Bool, true, false, not, ◌&&◌, cond, Some, None, refl, sym, ap, subst, ◌∙◌}
use Rattle.cdp_messages.specs.declared.command.Command.{Command}
use Rattle.cdp_messages.specs.declared.command.Command.TheVariants.{AskDom}
use Rattle.cdp_messages.specs.declared.command.Why.{Why}
use Rattle.cdp_messages.specs.declared.command.Why.TheVariants.{DomOff, CssOff}
use Rattle.cdp_messages.specs.declared.dom_ask.DomAsk.{DomAsk}
use Rattle.back_end.specs.States.{State}
use Rattle.back_end.specs.Steps.{Step, refusing, ask_needs_on, needs_on, needs_css, missing, served_step, command_step}
use Rattle.back_end.specs.Outside.{Outward, unchanged, served_outward, command_outward}
use Rattle.back_end.specs.declared.desk.Desk.{Desk}
use Rattle.back_end.specs.declared.side.PageSide.{PageSide}
use Rattle.back_end.specs.Seats.{DeskStandsFor}

-- what the desk misses, the state misses
missing-as : (d : Desk) (s : PageSide) (state : State) (command : Command) → DeskStandsFor d s state
    → missing state.client.dom_on state.client.css_on command ≡ missing d.is_on d.css command
missing-as d s state command stands =
    ap (λ (on : Bool). missing on state.client.css_on command) (sym stands.on_is)
    ∙ ap (λ (on : Bool). missing d.is_on on command) (sym stands.css_is)

refused-by : (id : ℕ) (state : State) (done : Step) (a b : Bool) (why : Why)
    → cond a (Some DomOff) (cond b (Some CssOff) None) ≡ Some why
    → cond a (refusing (Some id) DomOff state) (cond b (refusing (Some id) CssOff state) done) ≡ refusing (Some id) why state
refused-by id state done true b why e = let is : DomOff ≡ why = cc in ap (λ (w : Why). refusing (Some id) w state) is
refused-by id state done false true why e = let is : CssOff ≡ why = cc in ap (λ (w : Why). refusing (Some id) w state) is
refused-by id state done false false why e = absurd cc

-- the step on a command that misses a domain
pub missing-is : (d : Desk) (s : PageSide) (state : State) (id : ℕ) (command : Command) (why : Why) → DeskStandsFor d s state
    → Some why ≡ missing d.is_on d.css command
    → command_step id command state ≡ refusing (Some id) why state
missing-is d s state id command why stands e =
    refused-by id state (served_step id command state) (needs_on command && not state.client.dom_on)
    (needs_css command && not state.client.css_on) why (missing-as d s state command stands ∙ sym e)

unchanged-by : (state : State) (done : Outward) (a b : Bool) (why : Why) → cond a (Some DomOff) (cond b (Some CssOff) None) ≡ Some why
    → cond a (unchanged state) (cond b (unchanged state) done) ≡ unchanged state
unchanged-by state done true b why e = refl
unchanged-by state done false true why e = refl
unchanged-by state done false false why e = absurd cc

-- a command that misses a domain leaves the page alone
pub missing-outward : (d : Desk) (s : PageSide) (state : State) (command : Command) (why : Why) → DeskStandsFor d s state
    → Some why ≡ missing d.is_on d.css command → command_outward command state ≡ unchanged state
missing-outward d s state command why stands e =
    unchanged-by state (served_outward command state) (needs_on command && not state.client.dom_on)
    (needs_css command && not state.client.css_on) why (missing-as d s state command stands ∙ sym e)

-- a test that no refusal follows
first-passes : (a b : Bool) → cond a (Some DomOff) (cond b (Some CssOff) None) ≡ None → a ≡ false
first-passes true b e = absurd cc
first-passes false b e = refl

second-passes : (a b : Bool) → cond a (Some DomOff) (cond b (Some CssOff) None) ≡ None → b ≡ false
second-passes true b e = absurd cc
second-passes false true e = absurd cc
second-passes false false e = refl

on-is-needed : (need on : Bool) → need ≡ true → (need && not on) ≡ false → on ≡ true
on-is-needed true true n e = refl
on-is-needed true false n e = absurd cc
on-is-needed false on n e = absurd cc

-- DOM is on, where a command that needs it misses nothing
pub met-on : (on css : Bool) (p command : Command) → command ≡ p → needs_on p ≡ true → missing on css command ≡ None → on ≡ true
met-on on css p command is needs met =
    on-is-needed (needs_on p) on needs
    (first-passes (needs_on p && not on) (needs_css p && not css) (subst (λ (c : Command). missing on css c ≡ None) is met))

-- CSS is on, where a command that needs it misses nothing
pub met-css : (on css : Bool) (p command : Command) → command ≡ p → needs_css p ≡ true → missing on css command ≡ None → css ≡ true
met-css on css p command is needs met =
    on-is-needed (needs_css p) css needs
    (second-passes (needs_on p && not on) (needs_css p && not css) (subst (λ (c : Command). missing on css c ≡ None) is met))

-- an ask that misses nothing
pub met-ask : (on css : Bool) (ask : DomAsk) (command : Command) → command ≡ AskDom ask → missing on css command ≡ None
    → (ask_needs_on ask && not on) ≡ false
met-ask on css ask command is met =
    first-passes (ask_needs_on ask && not on) (needs_css (AskDom ask) && not css)
    (subst (λ (c : Command). missing on css c ≡ None) is met)
