-- The matched styles among the messages of a step on a frame are those that the frame asks for.
use Rattle.std.proofs.Common.{◌≡◌, Bool, true, false, not, ◌&&◌, cond, ℕ, List, [], ◌∷◌, ◌++◌, map, Some, None, option_map, refl}
use Rattle.std.proofs.Common.{◌∙◌, sym, ap, Result, Ok, Err}
use Rattle.std.specs.List.{flat_map}
use Rattle.std.specs.Option.{option_to_list}
use Rattle.cdp_messages.specs.declared.command.Asked.{Asked}
use Rattle.cdp_messages.specs.declared.command.Refused.{Refused}
use Rattle.cdp_messages.specs.declared.command.Why.{Why}
use Rattle.cdp_messages.specs.declared.command.Why.TheVariants.{DomOff, CssOff}
use Rattle.cdp_messages.specs.declared.command.Command.{Command}
use Rattle.cdp_messages.specs.declared.command.Command.TheVariants.{DomEnable, DomDisable, CssEnable, CssDisable, AskDom, EditDom, AskCss}
use Rattle.cdp_messages.specs.declared.command.Command.TheVariants.{EditCss, MarkUndoableState, Undo, Redo, SetBreakpoint, RemoveBreakpoint}
use Rattle.cdp_messages.specs.declared.command.Command.TheVariants.{ReplayLoad, ReplayAct, AskSearch}
use Rattle.cdp_messages.specs.declared.down.ReplyBody.{ReplyBody}
use Rattle.cdp_messages.specs.Results.{Tale, no_result, document, sheet_text, new_styles, matched_styles, answer_alone, tale_of}
use Rattle.cdp_messages.specs.Asked.{asked, method_name}
use Rattle.cdp_messages.specs.Laws.{answers}
use Rattle.client_views.specs.Moves.{Move, change, clear, met, added, dropped, rewritten, root, texted, replied, all_off, sheets_off}
use Rattle.client_views.specs.Moves.{failed}
use Rattle.cdp_messages.specs.declared.css_ask.CssAsk.TheVariants as css
use Rattle.cdp_messages.proofs.Results.{IsTaleOf, tale_is}
use Rattle.cdp_messages.proofs.Commands.{TellsNoStyles, asks-tell-no_styles, edits-tell-no_styles, searches-tell-no_styles}
use Rattle.cdp_messages.proofs.Commands.{sheet_edits-tell-no_styles}
use Rattle.front_mirror.specs.Front.{matched_by, matched_told}
use Rattle.front_mirror.specs.Laws.{matched_after}
use Rattle.back_end.specs.States.{State}
use Rattle.back_end.specs.Steps.{refusing, element_named, node_answer, command_step, asked_step, frame_step}
use Rattle.back_end.specs.Laws.{reply_ids, MayAnswerAll, IsAnswered}
use Rattle.inspect_world.specs.RunStates.{ToldStyles, told_styles, styles_of_element, if_named, styles_asked, styles_answered}
use Rattle.inspect_world.specs.Fits.{kept_styles}

-- ---- moves that tell none

no-matched : (method : List ℕ) (id : ℕ) (found : ReplyBody) → TellsNoStyles method → answers method found ≡ true
    → matched_told id found ≡ []
no-matched method id found never is = at (tale_of found) (tale_is found) where
  at : (t : Tale) → IsTaleOf found t → matched_by id t ≡ []
  at no_result e = refl
  at (document tree) e = refl
  at (sheet_text text) e = refl
  at (new_styles styles) e = refl
  at (matched_styles m) e = absurd (never m (ap (answers method) (sym e) ∙ is))
  at answer_alone e = refl

no-styles : (method : List ℕ) (ms : List Move) → TellsNoStyles method → MayAnswerAll method ms → flat_map matched_after ms ≡ []
no-styles method [] never may = refl
no-styles method (change node c ∷ ms) never may = no-styles method ms never may.1
no-styles method (clear ∷ ms) never may = no-styles method ms never may.1
no-styles method (met why ∷ ms) never may = no-styles method ms never may.1
no-styles method (added s ∷ ms) never may = no-styles method ms never may.1
no-styles method (dropped n ∷ ms) never may = no-styles method ms never may.1
no-styles method (rewritten n text ∷ ms) never may = no-styles method ms never may.1
no-styles method (root found b ∷ ms) never may = no-styles method ms never may.1
no-styles method (texted found n text ∷ ms) never may = no-styles method ms never may.1
no-styles method (replied found body ∷ ms) never may = ap (λ rs. rs ++ flat_map matched_after ms)
    (no-matched method found body never may.0.0) ∙ no-styles method ms never may.1
no-styles method (all_off found ∷ ms) never may = no-styles method ms never may.1
no-styles method (sheets_off found ∷ ms) never may = no-styles method ms never may.1
no-styles method (failed r ∷ ms) never may = no-styles method ms never may.1

nothing-joined : {A : Type 0} (xs ys : List A) → xs ++ ys ≡ [] → (xs ≡ []) × (ys ≡ [])
nothing-joined [] ys e = (refl, e)
nothing-joined (x ∷ xs) ys e = absurd cc

no-reply : (m : Move) → reply_ids m ≡ [] → matched_after m ≡ []
no-reply (change node c) e = refl
no-reply clear e = refl
no-reply (met why) e = refl
no-reply (added s) e = refl
no-reply (dropped n) e = refl
no-reply (rewritten n text) e = refl
no-reply (root found b) e = refl
no-reply (texted found n text) e = refl
no-reply (replied found body) e = absurd cc
no-reply (all_off found) e = refl
no-reply (sheets_off found) e = refl
no-reply (failed r) e = refl

-- moves without a reply
pub quiet-styles : (ms : List Move) → flat_map reply_ids ms ≡ [] → flat_map matched_after ms ≡ []
quiet-styles [] e = refl
quiet-styles (m ∷ ms) e =
    let p = nothing-joined (reply_ids m) (flat_map reply_ids ms) e in
    ap (λ rs. rs ++ flat_map matched_after ms) (no-reply m p.0) ∙ quiet-styles ms p.1

-- ---- what a command tells

-- the matched styles that moves tell
abbrev styles_in : List Move → List ToldStyles
styles_in ms = map kept_styles (flat_map matched_after ms)

-- those of a node, by which domains are on and what was named
styles-on : (id node : ℕ) (state : State) (dom on : Bool) (named : Result ℕ Why)
    → styles_in (cond (not dom) (refusing (Some id) DomOff state)
    (cond (not on) (refusing (Some id) CssOff state)
    (record { state = state; moves = node_answer id (css.GetMatchedStyles node) named state ∷ [] }))).moves
    ≡ option_to_list (option_map (told_styles id) (cond (dom && on) (option_map (styles_of_element state) (if_named named)) None))
styles-on id node state false on named = refl
styles-on id node state true false named = refl
styles-on id node state true true (Ok serial) = refl
styles-on id node state true true (Err why) = refl

-- a command of another method tells none
other : (c : Command) (ms : List Move) → TellsNoStyles (method_name c) → MayAnswerAll (method_name c) ms → styles_in ms ≡ []
other c ms never may = ap (map kept_styles) (no-styles (method_name c) ms never may)

styles-command : (id : ℕ) (c : Command) (state : State) (ms : List Move) → ms ≡ (command_step id c state).moves
    → MayAnswerAll (method_name c) ms
    → styles_in ms ≡ styles_asked (Ok (record { id = id; command = c })) state
styles-command id (DomEnable word) state ms is may = other (DomEnable word) ms (λ m e. absurd cc) may
styles-command id DomDisable state ms is may = other DomDisable ms (λ m e. absurd cc) may
styles-command id (AskDom a) state ms is may = other (AskDom a) ms (asks-tell-no_styles a) may
styles-command id (EditDom e) state ms is may = other (EditDom e) ms (edits-tell-no_styles e) may
styles-command id (AskSearch a) state ms is may = other (AskSearch a) ms (searches-tell-no_styles a) may
styles-command id MarkUndoableState state ms is may = other MarkUndoableState ms (λ m e. absurd cc) may
styles-command id Undo state ms is may = other Undo ms (λ m e. absurd cc) may
styles-command id Redo state ms is may = other Redo ms (λ m e. absurd cc) may
styles-command id CssEnable state ms is may = other CssEnable ms (λ m e. absurd cc) may
styles-command id CssDisable state ms is may = other CssDisable ms (λ m e. absurd cc) may
styles-command id (AskCss (css.GetMatchedStyles node)) state ms is may = ap styles_in is ∙ styles-on id node state state.client.dom_on
    state.client.css_on (element_named node state)
styles-command id (AskCss (css.GetStyleSheetText sheet)) state ms is may =
    other (AskCss (css.GetStyleSheetText sheet)) ms (λ m e. absurd cc) may
styles-command id (AskCss (css.CollectClassNames sheet)) state ms is may =
    other (AskCss (css.CollectClassNames sheet)) ms (λ m e. absurd cc) may
styles-command id (EditCss e) state ms is may = other (EditCss e) ms (sheet_edits-tell-no_styles e) may
styles-command id (SetBreakpoint node kind) state ms is may = other (SetBreakpoint node kind) ms (λ m e. absurd cc) may
styles-command id (RemoveBreakpoint node kind) state ms is may = other (RemoveBreakpoint node kind) ms (λ m e. absurd cc) may
styles-command id (ReplayLoad params) state ms is may = other (ReplayLoad params) ms (λ m e. absurd cc) may
styles-command id (ReplayAct params) state ms is may = other (ReplayAct params) ms (λ m e. absurd cc) may

-- ---- what a frame tells

styles-result : (r : Result Asked Refused) (frame : List ℕ) (state : State) → asked frame false ≡ r
    → IsAnswered r (frame_step false frame state).moves
    → styles_in (frame_step false frame state).moves ≡ styles_asked r state
styles-result (Ok a) frame state is answered =
    let step_is : (frame_step false frame state).moves
    ≡ (command_step a.id a.command state).moves = ap (λ r. (asked_step r state).moves) is in
    styles-command a.id a.command state (frame_step false frame state).moves step_is answered.1
styles-result (Err r) frame state is answered = ap styles_in answered

pub styles-told : (frame : List ℕ) (state : State) → IsAnswered (asked frame false) (frame_step false frame state).moves
    → map kept_styles (flat_map matched_after (frame_step false frame state).moves) ≡ styles_answered frame state
styles-told frame state answered = styles-result (asked frame false) frame state refl answered
