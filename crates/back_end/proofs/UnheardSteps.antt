-- A frame that edits nothing leaves the page as it is, so that for another client nothing is what it would have been.
use Rattle.std.proofs.Common.{◌≡◌, Bool, true, false, cond, not, ◌&&◌, List, [], ◌∷◌, map, Option, Some, None, Result, Ok, Err}
use Rattle.std.proofs.Common.{refl, sym, ap, subst}
use Rattle.std.specs.Bool.{⊤}
use Rattle.page_tree.specs.Pages.{PageValue}
use Rattle.page_tree.specs.Edits.{move_edits}
use Rattle.page_tree.specs.declared.edit_faults.EditFault.{EditFault}
use Rattle.cdp_messages.specs.declared.command.Why.{Why}
use Rattle.cdp_messages.specs.declared.command.Asked.{Asked}
use Rattle.cdp_messages.specs.declared.command.Refused.{Refused}
use Rattle.cdp_messages.specs.declared.command.Command.{Command}
use Rattle.cdp_messages.specs.declared.command.Command.TheVariants.{DomEnable, DomDisable, CssEnable, CssDisable, AskDom, AskCss, EditDom}
use Rattle.cdp_messages.specs.declared.command.Command.TheVariants.{EditCss, MarkUndoableState, Undo, Redo, SetBreakpoint, RemoveBreakpoint}
use Rattle.cdp_messages.specs.declared.command.Command.TheVariants.{ReplayLoad, ReplayAct, AskSearch}
use Rattle.css_agent.specs.Edits.{CssEdited, css_edited, css_splices}
use Rattle.style_edits.specs.declared.splice.Splice.{Splice}
use Rattle.undo_marks.specs.declared.inverse_lists.Inverse.{Inverse}
use Rattle.undo_marks.specs.declared.inverse_lists.Inverse.TheVariants as kept
use Rattle.back_end.specs.declared.node_edits.TreeWish.{TreeWish}
use Rattle.back_end.specs.declared.node_edits.TreeWish.TheVariants.{One, MoveNode, CopyNode}
use Rattle.back_end.specs.States.{Side, State, book_in}
use Rattle.back_end.specs.Plans.{node_edit_fault}
use Rattle.back_end.specs.OwnMethods.{load_asked, act_asked}
use Rattle.back_end.specs.Steps.{idle, with_page, undo_edits, redo_edits, edit_named, lowered, serial_now, Turn, acts, loads}
use Rattle.back_end.specs.Steps.{needs_on, needs_css}
use Rattle.back_end.specs.Outside.{Outward, made, turned, unchanged, plan_outward, tree_outward, sheet_outward, taken_outward, own_outward}
use Rattle.back_end.specs.Outside.{served_outward, command_outward, asked_outward}
use Rattle.back_end.specs.PairLaws.{hears, heard, coming_steps}

-- where nothing is edited, the page is this one
abbrev IsStill : PageValue → Outward → Type 0
IsStill page (made after []) = after ≡ page
IsStill page (made after (e ∷ es)) = ⊤
IsStill page (turned x) = ⊤

made-still : (page : PageValue) (es : List Inverse) → IsStill page (made page es)
made-still page [] = refl
made-still page (e ∷ es) = tt

either-still : (page : PageValue) (b : Bool) (one two : Outward) → IsStill page one → IsStill page two → IsStill page (cond b one two)
either-still page true one two is is2 = is
either-still page false one two is is2 = is2

plan-still : (fault : Option EditFault) (edit : TreeWish) (state : State) → IsStill state.side.page (plan_outward fault edit state)
plan-still (Some f) edit state = refl
plan-still None (One e) state = tt
plan-still None (MoveNode node parent before) state =
    made-still state.side.page (map (λ e. kept.Tree e) (move_edits node parent before state.side.page.tree))
plan-still None (CopyNode node parent before) state = tt

tree-still : (named : Result TreeWish Why) (state : State) → IsStill state.side.page (tree_outward named state)
tree-still (Err why) state = refl
tree-still (Ok edit) state = plan-still (node_edit_fault edit state.side.page) edit state

sheet-still : (done : CssEdited) (splices : List Splice) (state : State) → IsStill state.side.page (sheet_outward done splices state)
sheet-still (Err f) splices state = refl
sheet-still (Ok done) splices state = made-still state.side.page (map (λ s. kept.Sheet s) splices)

taken-still : (es : Option (List Inverse)) (state : State) → IsStill state.side.page (taken_outward es state)
taken-still None state = refl
taken-still (Some es) state = made-still state.side.page es

own-still : {A : Type 0} (turn_of : A → Turn) (read : Result A Why) (state : State)
    → IsStill state.side.page (own_outward turn_of read state)
own-still turn_of (Err why) state = refl
own-still turn_of (Ok a) state = tt

served-still : (command : Command) (state : State) → IsStill state.side.page (served_outward command state)
served-still (DomEnable word) state = refl
served-still DomDisable state = refl
served-still (AskDom ask) state = refl
served-still (EditDom edit) state = tree-still (edit_named (serial_now state) (lowered edit)) state
served-still (AskSearch ask) state = refl
served-still MarkUndoableState state = refl
served-still Undo state = taken-still (undo_edits state.client.marks) state
served-still Redo state = taken-still (redo_edits state.client.marks) state
served-still CssEnable state = refl
served-still CssDisable state = refl
served-still (AskCss ask) state = refl
served-still (EditCss edit) state = sheet-still (css_edited (book_in state) edit) (css_splices (book_in state) edit) state
served-still (SetBreakpoint node word) state = refl
served-still (RemoveBreakpoint node word) state = refl
served-still (ReplayLoad params) state = own-still loads (load_asked params) state
served-still (ReplayAct params) state = own-still acts (act_asked params state.side.page (book_in state)) state

command-still : (command : Command) (state : State) → IsStill state.side.page (command_outward command state)
command-still command state =
    let page = state.side.page in
    let served = served_outward command state in
    let styled = cond (needs_css command && not state.client.css_on) (unchanged state) served in
    either-still page (needs_on command && not state.client.dom_on) (unchanged state) styled refl
    (either-still page (needs_css command && not state.client.css_on) (unchanged state) served refl (served-still command state))

asked-still : (r : Result Asked Refused) (state : State) → IsStill state.side.page (asked_outward r state)
asked-still (Ok a) state = command-still a.command state
asked-still (Err r) state = refl

still-step : (d : Outward) (other : State) → IsStill other.side.page d → coming_steps (heard d) other ≡ coming_steps (hears d ∷ []) other
still-step (made page []) other is = ap (λ (p : PageValue). idle (with_page p other)) (sym is)
still-step (made page (e ∷ es)) other is = refl
still-step (turned x) other is = refl

-- what is heard of a frame of another client of the same page comes to the step that the frame is
pub heard-step : (r : Result Asked Refused) (state other : State) → state.side ≡ other.side
    → coming_steps (heard (asked_outward r state)) other ≡ coming_steps (hears (asked_outward r state) ∷ []) other
heard-step r state other same =
    still-step (asked_outward r state) other (subst (λ (side : Side). IsStill side.page (asked_outward r state)) same (asked-still r state))
