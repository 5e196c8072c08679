-- An edit of the page for a client in a mode: the lemmas on edits of a page, of the shown page.
use Rattle.std.proofs.Common.{◌≡◌, ◌+◌, ◌≤◌, true, false, cond, List, [], length, Option, Some, None, IfSome, refl, sym, subst, arith}
use Rattle.node_tree.specs.Nodes.{Nodes, none, node, alone}
use Rattle.page_tree.specs.Pages.{PageRow, PageValue, IsValid}
use Rattle.page_tree.specs.Edits.{after}
use Rattle.page_tree.specs.EditFaults.{CanApply}
use Rattle.page_tree.specs.declared.edits.TreeEdit.{TreeEdit}
use Rattle.shown_pages.specs.declared.modes.Mode.{Mode}
use Rattle.shown_pages.specs.Modes.{hidden_in}
use Rattle.shown_pages.specs.ShownPages.{shown_nodes, shown_page}
use Rattle.shown_pages.specs.ShownEdits.{shown_edit, after_some}
use Rattle.shown_pages.proofs.HiddenLemmas.{count-shown}
use Rattle.shown_pages.proofs.ShownTrees.{shown-valid}
use Rattle.shown_pages.proofs.ShownSteps.{shown-steps}
use Rattle.node_binding.specs.Sessions.{Session, IsSession}
use Rattle.node_binding.specs.Bindings.{BindingValue}
use Rattle.node_binding.specs.Changes.{BindingStandsFor}
use Rattle.client_views.specs.Views.{ShownSheet}
use Rattle.client_views.specs.Moves.{Course, ends}
use Rattle.dom_agent.specs.Laws.{RowsHaveUtf8, CanTell, CanTellSheets, session_view}
use Rattle.dom_agent.specs.EditLaws.{session_edited, binding_edited}
use Rattle.dom_agent.specs.ModeEdits.{edited_if, ShownEditKeepsSession, ShownEditKeepsBound, SameShownMoves, ShownEditsAreMoves}
use Rattle.dom_agent.specs.ModeEdits.{ShownEditDrawsOne, ShownCanBeTold}
use Rattle.dom_agent.proofs.EditLemmas.{edit_keeps_session, edit_draws_one}
use Rattle.dom_agent.proofs.EditMoves.{edits_are_moves}
use Rattle.dom_agent.proofs.EditKeepers.{edit_keeps_bound, same_edit_moves}
use Rattle.dom_agent.proofs.TellableLemmas.{can_say}

-- ---- an edit of a page, if there is one

module _ (page : PageValue) (valid : IsValid page) (end : PageValue) (w : Session) where
  keeps_session : (o : Option TreeEdit) → IfSome o (λ f. CanApply page.next f page.tree) → end ≡ after_some o page
      → IsSession (alone page.tree) w → IsSession (alone end.tree) (edited_if (λ f. session_edited f page) o w).state
  keeps_session None can is session = subst (λ (p : PageValue). IsSession (alone p.tree) w) (sym is) session
  keeps_session (Some e) can is session = subst (λ (p : PageValue). IsSession (alone p.tree) (session_edited e page w).state) (sym is)
      (edit_keeps_session page e w valid can session)

  keeps_bound : (o : Option TreeEdit) (b : BindingValue) → IfSome o (λ f. CanApply page.next f page.tree) → end ≡ after_some o page
      → BindingStandsFor page w b
      → BindingStandsFor end (edited_if (λ f. session_edited f page) o w).state (edited_if (λ f. binding_edited f page) o b).state
  keeps_bound None b can is stands = subst (λ (p : PageValue). BindingStandsFor p w b) (sym is) stands
  keeps_bound (Some e) b can is stands =
      subst (λ (p : PageValue). BindingStandsFor p (session_edited e page w).state (binding_edited e page b).state) (sym is)
      (edit_keeps_bound page e w b valid can stands)

  same_moves : (o : Option TreeEdit) (b : BindingValue) → IfSome o (λ f. CanApply page.next f page.tree) → BindingStandsFor page w b
      → (edited_if (λ f. binding_edited f page) o b).moves ≡ (edited_if (λ f. session_edited f page) o w).moves
  same_moves None b can stands = refl
  same_moves (Some e) b can stands = same_edit_moves page e w b valid can stands

  are_moves : (o : Option TreeEdit) (sheets : List ShownSheet) → IfSome o (λ f. CanApply page.next f page.tree)
      → end ≡ after_some o page → IsSession (alone page.tree) w → CanTell page w
      → CanTell end (edited_if (λ f. session_edited f page) o w).state → CanTellSheets sheets
      → Course (edited_if (λ f. session_edited f page) o w).moves (session_view w page sheets)
      (session_view (edited_if (λ f. session_edited f page) o w).state end sheets)
  are_moves None sheets can is session tell tell_after tell_sheets =
      subst (λ (p : PageValue). Course [] (session_view w page sheets) (session_view w p sheets)) (sym is)
      (ends (session_view w page sheets) (can_say page w sheets valid tell tell_sheets w session (omega arith)))
  are_moves (Some e) sheets can is session tell tell_after tell_sheets =
      let after_tell = subst (λ (p : PageValue). CanTell p (session_edited e page w).state) is tell_after in
      subst (λ (p : PageValue). Course (session_edited e page w).moves (session_view w page sheets)
      (session_view (session_edited e page w).state p sheets)) (sym is)
      (edits_are_moves page e w sheets valid can session tell after_tell tell_sheets)

draws_one : (page : PageValue) (w : Session) (o : Option TreeEdit)
    → length (edited_if (λ f. session_edited f page) o w).state.pushed ≤ length w.pushed + 1
draws_one page w None = omega arith
draws_one page w (Some e) = edit_draws_one page e w

-- ---- the edit that it is in the shown page

pub shown_edit_keeps_session : ShownEditKeepsSession
shown_edit_keeps_session mode page e w valid can session =
    let s = shown-steps mode page e valid can in
    keeps_session (shown_page mode page) (shown-valid mode page valid) (shown_page mode (after e page)) w (shown_edit mode e page.tree)
    s.taken s.leads session

pub shown_edit_keeps_bound : ShownEditKeepsBound
shown_edit_keeps_bound mode page e w b valid can stands =
    let s = shown-steps mode page e valid can in
    keeps_bound (shown_page mode page) (shown-valid mode page valid) (shown_page mode (after e page)) w (shown_edit mode e page.tree) b
    s.taken s.leads stands

pub same_shown_moves : SameShownMoves
same_shown_moves mode page e w b valid can stands =
    let s = shown-steps mode page e valid can in
    same_moves (shown_page mode page) (shown-valid mode page valid) (shown_page mode (after e page)) w (shown_edit mode e page.tree) b
    s.taken stands

pub shown_edits_are_moves : ShownEditsAreMoves
shown_edits_are_moves mode page e w sheets valid can session tell tell_after tell_sheets =
    let s = shown-steps mode page e valid can in
    are_moves (shown_page mode page) (shown-valid mode page valid) (shown_page mode (after e page)) w (shown_edit mode e page.tree) sheets
    s.taken s.leads session tell tell_after tell_sheets

pub shown_edit_draws_one : ShownEditDrawsOne
shown_edit_draws_one mode page e w = draws_one (shown_page mode page) w (shown_edit mode e page.tree)

-- ---- what can be told

rows_shown : (mode : Mode) (n : Nodes PageRow) → RowsHaveUtf8 n → RowsHaveUtf8 (shown_nodes mode n)
rows_shown mode none u = tt
rows_shown mode (node r c t) u =
    elim (hidden_in mode r.label) as (λ b. RowsHaveUtf8 (cond b (shown_nodes mode t) (node r (shown_nodes mode c) (shown_nodes mode t)))) [
      | true ↦ rows_shown mode t u.2
      | false ↦ (u.0, rows_shown mode c u.1, rows_shown mode t u.2)
    ]

pub shown_can_be_told : ShownCanBeTold
shown_can_be_told mode page w can =
    let ids = can.ids in
    let k = count-shown mode page.tree.children in
    record { serials = can.serials; ids = omega arith; texts = (can.texts.0, rows_shown mode page.tree.children can.texts.1, tt) }
