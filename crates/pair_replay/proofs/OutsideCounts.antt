-- How much a frame of one client draws for the other one.
use Rattle.std.proofs.Common.{◌≡◌, ℕ, ◌+◌, ◌*◌, ◌≤◌, Bool, true, false, not, ◌&&◌, cond, List, [], ◌∷◌, length}
use Rattle.std.proofs.Common.{Option, Some, None, Result, Ok, Err, refl, sym, subst, arith}
use Rattle.std.specs.Prelude.{⊤}
use Rattle.page_tree.specs.Pages.{PageValue}
use Rattle.page_tree.specs.declared.edit_faults.EditFault.{EditFault}
use Rattle.cdp_messages.specs.declared.command.Why.{Why}
use Rattle.cdp_messages.specs.declared.command.Asked.{Asked}
use Rattle.cdp_messages.specs.declared.command.Refused.{Refused}
use Rattle.cdp_messages.specs.declared.command.Command.{Command}
use Rattle.cdp_messages.specs.declared.command.Command.TheVariants.{DomEnable, DomDisable, CssEnable, CssDisable, AskDom, AskCss, EditDom}
use Rattle.cdp_messages.specs.declared.command.Command.TheVariants.{EditCss, MarkUndoableState, Undo, Redo, SetBreakpoint, RemoveBreakpoint}
use Rattle.cdp_messages.specs.declared.command.Command.TheVariants.{ReplayLoad, ReplayAct, AskSearch}
use Rattle.cdp_messages.specs.declared.dom_edit.DomEdit.{DomEdit}
use Rattle.cdp_messages.specs.Asked.{method_name}
use Rattle.css_agent.specs.Edits.{CssEdited, css_edited, css_splices}
use Rattle.style_edits.specs.declared.splice.Splice.{Splice}
use Rattle.undo_marks.specs.declared.histories.Direction.TheVariants as directions
use Rattle.undo_marks.specs.declared.inverse_lists.Inverse.{Inverse}
use Rattle.back_end.specs.States.{Side, State, book_in, HoldsNow, IsState}
use Rattle.back_end.specs.Plans.{Plan, node_edit_fault, node_edit_plan}
use Rattle.back_end.specs.OwnMethods.{load_asked, act_asked}
use Rattle.back_end.specs.Steps.{Step, with_page, undo_edits, redo_edits, edit_named, lowered}
use Rattle.back_end.specs.Steps.{serial_now, acts, loads, turn_step, Turn, needs_on, needs_css, asked_step}
use Rattle.back_end.specs.Laws.{most_ids, tree_edits, edits_kept, HasRoom}
use Rattle.back_end.specs.Texts.{HasServedTexts, HasTreeTexts}
use Rattle.back_end.specs.Outside.{Outward, made, turned, unchanged, plan_outward, tree_outward, sheet_outward, taken_outward, own_outward}
use Rattle.back_end.specs.Outside.{served_outward, asked_outward, outside_all, outside_step}
use Rattle.back_end.proofs.OwnTexts.{AskedTexts}
use Rattle.back_end.proofs.GroupCounts.{trees_in, FewEdits, few-taken}
use Rattle.back_end.proofs.WellSteps.{Well, HasNumbers}
use Rattle.back_end.proofs.TreeSteps.{AsksFor, lowered-texts, lowered-asks, named-is, node-edit-planned, asks-for}
use Rattle.back_end.proofs.StepLemmas.{Planned, with-page-is, turn-steps-well}
use Rattle.back_end.proofs.OutsideSteps.{CanMake, IsDone, outside-well, trees-few, no-trees-among, asked-done}
use Rattle.inspect_world.proofs.TurnLemmas.{TurnKeeps, turn-keeps}
use Rattle.back_end.specs.Guests.{drawn_by_outside}

-- ---- how many edits of the tree a frame comes to

-- two at most, or those that the client's history has
abbrev FewTrees : ℕ → Outward → Type 0
FewTrees n (made page es) = trees_in es ≤ n + 2
FewTrees n (turned x) = ⊤

planned-few : (fault : Option EditFault) (e : _) (state : State) (n : ℕ)
    → (fault ≡ None → Planned state (node_edit_plan e state.side.page)) → FewTrees n (plan_outward fault e state)
planned-few (Some f) e state n planned = omega arith
planned-few None e state n planned =
    let plan : Plan = node_edit_plan e state.side.page in
    let p : Planned state plan = planned refl in
    omega (arith, trees-few plan.edits, p.short)

tree-few : (method : List ℕ) (edit : DomEdit) (state : State) (n : ℕ) → HasTreeTexts edit → AsksFor method edit → IsState state
    → FewTrees n (tree_outward (edit_named (serial_now state) (lowered edit)) state)
tree-few method edit state n texts asks is = at (edit_named (serial_now state) (lowered edit)) refl where
  at : (r : Result _ Why) → edit_named (serial_now state) (lowered edit) ≡ r → FewTrees n (tree_outward r state)
  at (Err why) h = omega arith
  at (Ok e) h =
      let named = named-is method (serial_now state) (lowered edit) e (lowered-texts edit texts) (lowered-asks method edit asks) h in
      planned-few (node_edit_fault e state.side.page) e state n (λ fits. node-edit-planned method state e is.now named.0 fits)

sheet-few : (r : CssEdited) (ss : List Splice) (state : State) (n : ℕ) → FewTrees n (sheet_outward r ss state)
sheet-few (Err f) ss state n = omega arith
sheet-few (Ok d) ss state n = omega (arith, no-trees-among ss)

taken-few : (o : Option (List Inverse)) (state : State) → ((es : List Inverse) → o ≡ Some es → FewEdits es state.client.marks)
    → FewTrees (tree_edits state) (taken_outward o state)
taken-few None state few = omega arith
taken-few (Some es) state few = let f = few es refl in omega (arith, f.trees)

own-few : {A : Type 0} (turn_of : A → Turn) (r : Result A Why) (state : State) (n : ℕ) → FewTrees n (own_outward turn_of r state)
own-few turn_of (Err why) state n = omega arith
own-few turn_of (Ok a) state n = tt

served-few : (c : Command) (state : State) → HasServedTexts c → IsState state → FewTrees (tree_edits state) (served_outward c state)
served-few (DomEnable word) state texts is = omega arith
served-few DomDisable state texts is = omega arith
served-few (AskDom ask) state texts is = omega arith
served-few (EditDom edit) state texts is =
    tree-few (method_name (EditDom edit)) edit state (tree_edits state) texts (asks-for edit) is
served-few (AskSearch ask) state texts is = omega arith
served-few MarkUndoableState state texts is = omega arith
served-few Undo state texts is = taken-few (undo_edits state.client.marks) state (λ es e. few-taken directions.Undo state.client.marks es e)
served-few Redo state texts is = taken-few (redo_edits state.client.marks) state (λ es e. few-taken directions.Redo state.client.marks es e)
served-few CssEnable state texts is = omega arith
served-few CssDisable state texts is = omega arith
served-few (AskCss ask) state texts is = omega arith
served-few (EditCss edit) state texts is =
    sheet-few (css_edited (book_in state) edit) (css_splices (book_in state) edit) state (tree_edits state)
served-few (SetBreakpoint node word) state texts is = omega arith
served-few (RemoveBreakpoint node word) state texts is = omega arith
served-few (ReplayLoad params) state texts is = own-few loads (load_asked params) state (tree_edits state)
served-few (ReplayAct params) state texts is =
    own-few acts (act_asked params state.side.page (book_in state)) state (tree_edits state)

asked-few : (r : Result Asked Refused) (state : State) → AskedTexts r → IsState state → FewTrees (tree_edits state) (asked_outward r state)
asked-few (Err r) state texts is = omega arith
asked-few (Ok a) state texts is =
    at (needs_on a.command && not state.client.dom_on) (needs_css a.command && not state.client.css_on) where
      at : (x y : Bool)
          → FewTrees (tree_edits state) (cond x (unchanged state) (cond y (unchanged state) (served_outward a.command state)))
      at true y = omega arith
      at false true = omega arith
      at false false = served-few a.command state texts is

-- ---- how much that draws

-- Where the first client has so many edits of the tree in its history, the other one draws no more ids than so, counted with its own
-- edits of the tree; it keeps no edit, and draws one number of a search at most.
pub record DrawsOutside (trees : ℕ) (before : State) (done : Step) : Type 0 where
  pub ids : length done.state.client.session.pushed + tree_edits done.state
      ≤ length before.client.session.pushed + tree_edits before + (most_ids + drawn_by_outside * trees)
  pub kept : tree_edits done.state ≤ tree_edits before
  pub edits : edits_kept done.state ≤ edits_kept before
  pub searches : done.state.client.searches.given ≤ before.client.searches.given + 1

draws-none : (n pushed trees : ℕ) → pushed + trees ≤ pushed + trees + (500000 + 200001 * n)
draws-none n pushed trees = omega arith

draws-some : (n pushed trees pushed1 among : ℕ) → pushed1 ≤ pushed + 200001 * among → among ≤ n + 2
    → pushed1 + 0 ≤ pushed + trees + (500000 + 200001 * n)
draws-some n pushed trees pushed1 among ids few = omega (arith, ids, few)

draws-turn : (n pushed pushed1 : ℕ) → pushed1 ≤ pushed + 500000 → pushed1 ≤ pushed + (500000 + 200001 * n)
draws-turn n pushed pushed1 few = omega (arith, few)

same-most : (n m : ℕ) → n ≡ m → n ≤ m + 1
same-most n m e = omega (arith, e)

made-draws : (n : ℕ) (page : PageValue) (es : List Inverse) (state : State) → IsState state → HasRoom state → CanMake state.side page es
    → trees_in es ≤ n + 2 → DrawsOutside n state (outside_step (made page es) state)
made-draws n page [] state is room can few = record {
  ids = draws-none n (length state.client.session.pushed) (tree_edits state);
  kept = omega arith;
  edits = omega arith;
  searches = omega arith;
}
made-draws n page (e ∷ es) state is room can few =
    let first : State = with_page page state in
    let begun : HoldsNow first = with-page-is state page is.now can.page_is can.same in
    let low : HasNumbers first = record {
      ids = omega (arith, room.ids);
      serials = omega (arith, room.serials, can.serials);
      sheets = omega (arith, room.sheets);
    } in
    let well : Well first (outside_all (e ∷ es) first) (200001 * trees_in (e ∷ es)) 0 0 =
    outside-well (e ∷ es) first begun low (omega (arith, room.ids, can.few)) can.taken in
    record {
      ids = draws-some n (length state.client.session.pushed) (tree_edits state)
          (length (outside_all (e ∷ es) first).state.client.session.pushed) (trees_in (e ∷ es)) well.few_ids few;
      kept = omega arith;
      edits = omega arith;
      searches = same-most _ state.client.searches.given well.given;
    }

outside-draws : (d : Outward) (first other : State) (after : Side) → IsDone first d after → FewTrees (tree_edits first) d → IsState other
    → HasRoom other → other.side ≡ first.side → DrawsOutside (tree_edits first) other (outside_step d other)
outside-draws (made page es) first other after done few is room same =
    made-draws (tree_edits first) page es other is room (subst (λ (side : Side). CanMake side page es) (sym same) done.can) few
outside-draws (turned x) first other after done few is room same =
    let well = (turn-steps-well other x is room done.can).0 in
    let keeps : TurnKeeps other (turn_step x other).state = turn-keeps x other well in
    record {
      ids = draws-turn (tree_edits first) (length other.client.session.pushed + tree_edits other)
          (length (turn_step x other).state.client.session.pushed + tree_edits (turn_step x other).state) keeps.ids;
      kept = keeps.trees;
      edits = keeps.edits;
      searches = well.searches;
    }

pub asked-draws : (r : Result Asked Refused) (first other : State) → AskedTexts r → IsState first → HasRoom first → IsState other
    → HasRoom other → other.side ≡ first.side
    → DrawsOutside (tree_edits first) other (outside_step (asked_outward r first) other)
asked-draws r first other texts is room is2 room2 same =
    outside-draws (asked_outward r first) first other (asked_step r first).state.side (asked-done r first texts is room)
    (asked-few r first texts is) is2 room2 same
