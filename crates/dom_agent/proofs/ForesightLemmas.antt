-- What was foreseen of an edit and told after it is what the edit comes to.
use Rattle.std.proofs.Common.{◌≡◌, ℕ, ◌+◌, ◌≤◌, ◌<◌, true, false, List, ◌++◌, Option, Some, None, IfSome, IsSome, refl, sym, ap, subst}
use Rattle.std.proofs.Common.{◌∙◌, arith}
use Rattle.node_tree.specs.Numbers.{drawn_before_call, drawn_before_nodes}
use Rattle.std.proofs.lemmas.Bool.{not-false}
use Rattle.node_tree.specs.Nodes.{Branch, none, alone}
use Rattle.page_tree.specs.Pages.{PageRow, PageValue, IsValid, find_in, parent_at}
use Rattle.page_tree.specs.Edits.{after, label_at}
use Rattle.page_tree.specs.EditFaults.{CanApply, edit_faults, first_fault}
use Rattle.page_tree.proofs.EditLemmas.{clear, serial-live}
use Rattle.page_tree.specs.declared.edits.TreeEdit.{TreeEdit}
use Rattle.page_tree.specs.declared.edits.TreeEdit.TheVariants.{SetAttr, DropAttr, SetText, Attach, Detach}
use Rattle.shown_pages.specs.declared.modes.Mode.{Mode}
use Rattle.shown_pages.specs.declared.sights.TextSight.{TextSight}
use Rattle.shown_pages.specs.declared.sights.TextSight.TheVariants.{Comes as shows_itself, Stays}
use Rattle.shown_pages.specs.Modes.{hidden_in}
use Rattle.shown_pages.specs.ShownPages.{shown_page}
use Rattle.shown_pages.specs.ShownEdits.{shown_edit, shown_text_edit, sight_at, after_some}
use Rattle.shown_pages.proofs.ShownTrees.{shown-valid}
use Rattle.shown_pages.proofs.ShownSteps.{shown-steps}
use Rattle.node_binding.specs.Bindings.{BindingValue}
use Rattle.cdp_messages.specs.declared.down.Event.{Event}
use Rattle.client_views.specs.Moves.{says, frames_of_moves}
use Rattle.dom_agent.specs.declared.foresight.Foreseen.{Foreseen}
use Rattle.dom_agent.specs.declared.foresight.Foreseen.TheVariants.{Tells, Comes}
use Rattle.dom_agent.specs.Keepers.{binding_keeper}
use Rattle.dom_agent.specs.Edits.{Edited, told_where_known, event_frames}
use Rattle.dom_agent.specs.ModeEdits.{shown_binding_edited}
use Rattle.dom_agent.specs.Foresight.{foreseen_edited, IsComing, IsForeseen, HasCome, came_below, kept_after}
use Rattle.dom_agent.specs.Foresight.{frames_after}
use Rattle.dom_agent.proofs.EditCode.{came_parent, came_child, came_under, came_same}
use Rattle.dom_agent.proofs.EditsShown.{live3}
use Rattle.dom_agent.proofs.KeptMode.{edit_if_keeps, edit_if_next}

-- ---- by the page after the edit

-- What was foreseen of an edit of the page, which is the other one after it, comes to what the edit does.
pub record IsTold (page page2 : PageValue) (o : Option TreeEdit) (f : Foreseen) (b b1 : BindingValue) : Type 0 where
  pub came : HasCome f page2.tree
  pub kept : kept_after f page2.tree b1 ≡ (foreseen_edited o page b).state
  pub frames : frames_after f page2.tree b1 ≡ frames_of_moves (foreseen_edited o page b).moves
  pub mode : b1.mode ≡ b.mode

module _ (page : PageValue) (valid : IsValid page) (page2 : PageValue) (b b1 : BindingValue) where
  coming : (o : Option TreeEdit) (parent serial : ℕ) → IfSome o (λ e. CanApply page.next e page.tree) → page2 ≡ after_some o page
      → IsComing parent serial o → b1 ≡ b → IsTold page page2 o (Comes parent serial) b b1
  coming None parent serial can leads is same = absurd is
  coming (Some (SetAttr node name value)) parent serial can leads is same = absurd is
  coming (Some (DropAttr node name)) parent serial can leads is same = absurd is
  coming (Some (SetText node value)) parent serial can leads is same = absurd is
  coming (Some (Detach node)) parent serial can leads is same = absurd is
  coming (Some (Attach p before w)) parent serial can leads is same =
      let above = came_parent page valid p before w can.fits can.ready page2 leads in
      let all = came_same page valid p before w can.fits can.ready page2 leads none b serial is.1 in
      record {
        came = (
          subst (λ (q : ℕ). IsSome (find_in q page2.tree)) (sym is.0) above,
          came_child page valid p before w can.fits can.ready page2 leads serial is.1,
          came_under page valid p before w can.fits can.ready page2 leads serial is.1 ∙ sym is.0,
        );
        kept = (λ i. (came_below (binding_keeper none) (is.0 i) serial page2.tree (same i)).state)
            ∙ ap (λ (d : Edited BindingValue). d.state) all;
        frames = (λ i. frames_of_moves (came_below (binding_keeper none) (is.0 i) serial page2.tree (same i)).moves)
            ∙ ap (λ (d : Edited BindingValue). frames_of_moves d.moves) all;
        mode = ap (λ (m : BindingValue). m.mode) same;
      }

  told : (o : Option TreeEdit) (f : Foreseen) → IfSome o (λ e. CanApply page.next e page.tree) → page2 ≡ after_some o page
      → IsForeseen f o page b b1 → IsTold page page2 o f b b1
  told o (Tells event) can leads is = record {
    came = tt;
    kept = is.1;
    frames = is.0;
    mode = ap (λ (m : BindingValue). m.mode) is.1 ∙ edit_if_keeps page o b;
  }
  told o (Comes parent serial) can leads is = coming o parent serial can leads is.0 is.1

-- the edit of the page that a client is shown
pub told-after : (mode : Mode) (page : PageValue) (e : TreeEdit) (f : Foreseen) (b b1 : BindingValue) → IsValid page
    → CanApply page.next e page.tree → IsForeseen f (shown_edit mode e page.tree) (shown_page mode page) b b1
    → IsTold (shown_page mode page) (shown_page mode (after e page)) (shown_edit mode e page.tree) f b b1
told-after mode page e f b b1 valid can is =
    let s = shown-steps mode page e valid can in
    told (shown_page mode page) (shown-valid mode page valid) (shown_page mode (after e page)) b b1 (shown_edit mode e page.tree) f
    s.taken s.leads is

-- the edit of a page in the three parts: foreseen, made and told; the binding's own mode stays
module _ (page page2 : PageValue) (e : TreeEdit) (f : Foreseen) (b b1 : BindingValue) (valid : IsValid page)
    (can : CanApply page.next e page.tree) (is : IsForeseen f (shown_edit b.mode e page.tree) (shown_page b.mode page) b b1)
    (made : page2 ≡ after e page) where
  whole : IsTold (shown_page b.mode page) (shown_page b.mode (after e page)) (shown_edit b.mode e page.tree) f b b1
  whole = told-after b.mode page e f b b1 valid can is

  document_is : (shown_page b1.mode page2).tree ≡ (shown_page b.mode (after e page)).tree
  document_is = λ i. (shown_page (whole.mode i) (made i)).tree

  pub edit_came : HasCome f (shown_page b1.mode page2).tree
  edit_came = subst (HasCome f) (sym document_is) whole.came

  pub edit_kept : (b2 : BindingValue) → b2 ≡ kept_after f (shown_page b1.mode page2).tree b1
      → b2 ≡ (shown_binding_edited b.mode e page b).state
  edit_kept b2 told_so = told_so ∙ ap (λ (x : Branch PageRow). kept_after f x b1) document_is ∙ whole.kept

  pub edit_frames : (out out2 : List ℕ) → out2 ≡ out ++ frames_after f (shown_page b1.mode page2).tree b1
      → out2 ≡ out ++ frames_of_moves (shown_binding_edited b.mode e page b).moves
  edit_frames out out2 sent =
      sent ∙ ap (λ (x : Branch PageRow). out ++ frames_after f x b1) document_is ∙ ap (λ l. out ++ l) whole.frames

foreseen_next : (f : Foreseen) (o : Option TreeEdit) (page : PageValue) (b b1 : BindingValue) → IsForeseen f o page b b1
    → b1.next ≤ b.next + 1
foreseen_next (Tells event) o page b b1 is = omega (arith, ap (λ (m : BindingValue). m.next) is.1, edit_if_next page o b)
foreseen_next (Comes parent serial) o page b b1 is = omega (arith, ap (λ (m : BindingValue). m.next) is.1)

-- there is room to tell what was foreseen
pub foreseen_room : (f : Foreseen) (o : Option TreeEdit) (page : PageValue) (b b1 : BindingValue) → IsForeseen f o page b b1
    → b.next < drawn_before_call → b1.next < drawn_before_nodes
foreseen_room f o page b b1 is room = omega (arith, foreseen_next f o page b b1 is)

-- ---- by the page before the edit

-- what is foreseen of an edit that is nothing to the client
pub nothing_foreseen : (o : Option TreeEdit) (page : PageValue) (b : BindingValue) → o ≡ None → IsForeseen (Tells None) o page b b
nothing_foreseen o page b is = subst (λ (p : Option TreeEdit). IsForeseen (Tells None) p page b b) (sym is) (refl, refl)

-- and of one by what it is
pub foreseen_as : (o p : Option TreeEdit) (f : Foreseen) (page : PageValue) (b b1 : BindingValue) → o ≡ p → IsForeseen f p page b b1
    → IsForeseen f o page b b1
foreseen_as o p f page b b1 is = subst (λ (q : Option TreeEdit). IsForeseen f q page b b1) (sym is)

-- a node that is hidden goes unseen, and another goes
pub hidden_goes : (mode : Mode) (page : PageValue) (serial : ℕ) → hidden_in mode (label_at serial page.tree) ≡ true
    → shown_edit mode (Detach serial) page.tree ≡ None
hidden_goes mode page serial is = rw is refl

pub shown_goes : (mode : Mode) (page : PageValue) (serial : ℕ) → hidden_in mode (label_at serial page.tree) ≡ false
    → shown_edit mode (Detach serial) page.tree ≡ Some (Detach serial)
shown_goes mode page serial is = rw is refl

-- where a node goes from what is shown, it stands there, and is no document
pub goes_shown : (mode : Mode) (page : PageValue) (e : TreeEdit) (serial : ℕ) → IsValid page → CanApply page.next e page.tree
    → shown_edit mode e page.tree ≡ Some (Detach serial) → first_fault (Detach serial) (shown_page mode page).tree ≡ None
goes_shown mode page e serial valid can is =
    (subst (λ (o : Option TreeEdit). IfSome o (λ f. CanApply page.next f (shown_page mode page).tree)) is
    (shown-steps mode page e valid can).taken).fits

pub goes_live : (page : PageValue) (serial : ℕ) → IsValid page → first_fault (Detach serial) page.tree ≡ None
    → IsSome (find_in serial page.tree)
goes_live page serial valid fits = live3 page valid serial (record { fits = fits; ready = tt })

-- the setting of a text, by how it is seen
pub text_seen : (mode : Mode) (page : PageValue) (serial : ℕ) (value : List ℕ) (s : TextSight) → s ≡ sight_at mode serial value page.tree
    → shown_edit mode (SetText serial value) page.tree ≡ shown_text_edit mode s serial value page.tree
text_seen mode page serial value s is = ap (λ (t : TextSight). shown_text_edit mode t serial value page.tree) (sym is)

pub text_live : (page : PageValue) (serial : ℕ) (value : List ℕ) → first_fault (SetText serial value) page.tree ≡ None
    → IsSome (find_in serial page.tree)
text_live page serial value fits = not-false _ (clear (edit_faults (SetText serial value) page.tree) fits).0

-- a text that shows itself comes below its parent
pub text_comes : (mode : Mode) (page : PageValue) (serial : ℕ) (value : List ℕ) (parent : ℕ) (b : BindingValue)
    → IsSome (find_in serial page.tree) → shows_itself ≡ sight_at mode serial value page.tree → parent ≡ parent_at serial page.tree
    → IsForeseen (Comes parent serial) (shown_edit mode (SetText serial value) page.tree) (shown_page mode page) b b
text_comes mode page serial value parent b live is above =
    foreseen_as _ _ (Comes parent serial) (shown_page mode page) b b (text_seen mode page serial value shows_itself is)
    ((above, sym (serial-live serial page.tree live)), refl)

-- a text that stays is said anew
pub text_stays : (mode : Mode) (page : PageValue) (serial : ℕ) (value : List ℕ) (event : Option Event) (b : BindingValue)
    → Stays ≡ sight_at mode serial value page.tree
    → event_frames event ≡ frames_of_moves (told_where_known (binding_keeper (alone (shown_page mode page).tree)) serial (says value) b)
    → IsForeseen (Tells event) (shown_edit mode (SetText serial value) page.tree) (shown_page mode page) b b
text_stays mode page serial value event b is told_so =
    foreseen_as _ _ (Tells event) (shown_page mode page) b b (text_seen mode page serial value Stays is) (told_so, refl)
