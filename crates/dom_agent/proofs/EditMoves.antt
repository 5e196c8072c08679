-- An edit of the page is a list of moves.
use Rattle.std.proofs.Common.{◌≡◌, ℕ, Bool, true, false, cond, List, [], ◌∷◌, Option, Some, None, refl, sym, subst, arith}
use Rattle.node_tree.specs.Nodes.{alone}
use Rattle.page_tree.specs.Pages.{PageValue, IsValid, node_at, parent_at}
use Rattle.page_tree.specs.Edits.{after}
use Rattle.page_tree.specs.EditFaults.{CanApply}
use Rattle.page_tree.specs.declared.edits.TreeEdit.{TreeEdit}
use Rattle.page_tree.specs.declared.edits.TreeEdit.TheVariants.{SetAttr, DropAttr, SetText, Attach, Detach}
use Rattle.page_tree.proofs.EditLemmas.{serial-live, valid-after}
use Rattle.node_binding.specs.Sessions.{Session, IsSession, session_of, session_ids, knows, attached, detached}
use Rattle.client_views.specs.Views.{ShownSheet, View}
use Rattle.client_views.specs.Moves.{Change, removes, counts, sets, drops, says, change, ChangesNode, CanBeTold, Course, ends, goes}
use Rattle.dom_agent.specs.Edits.{Edited}
use Rattle.dom_agent.specs.Laws.{session_view}
use Rattle.dom_agent.specs.EditLaws.{session_edited, EditsAreMoves}
use Rattle.dom_agent.proofs.TellableLemmas.{can_say}
use Rattle.dom_agent.proofs.ShownChanges.{Tells}
use Rattle.dom_agent.proofs.EditsShown.{live3, set_told, drop_told, text_told, attach_counts, attach_inserts, detach_counts, detach_removes}
use Rattle.dom_agent.proofs.EditLemmas.{either_way, edit_keeps_session}

-- one change, told where the node is known
told_course : (id : ℕ) (known_now : Bool) (c : Change) (u v : View) → CanBeTold u → CanBeTold v → v.sheets ≡ u.sheets
    → Tells id known_now c u.tree v.tree → Course (cond known_now (change id c ∷ []) []) u v
told_course id true c u v told told_after same t = goes (change id c) [] u v v told (t.seen refl, same) (ends v told_after)
told_course id false c u v told told_after same t =
    let is : u ≡ v = λ k. record { tree = t.unseen refl k; sheets = sym same k } in
    subst (λ (y : View). Course [] u y) is (ends u told)

-- one change
change_course : (id : ℕ) (c : Change) (u v : View) → CanBeTold u → CanBeTold v → v.sheets ≡ u.sheets → ChangesNode id c u.tree v.tree
    → Course (change id c ∷ []) u v
change_course id c u v told told_after same changes = goes (change id c) [] u v v told (changes, same) (ends v told_after)

module _ (page : PageValue) (valid : IsValid page) (sheets : List ShownSheet) where
  attach_course : (parent before : ℕ) (x : _) (can : CanApply page.next (Attach parent before x) page.tree) (opened : Option (ℕ → Bool))
      (pushed : List ℕ) (since : ℕ)
      → (let w : Session = record { opened = opened; pushed = pushed; since = since } in
      let page2 : PageValue = after (Attach parent before x) page in
      let d = session_edited (Attach parent before x) page w in
      IsSession (alone page.tree) w → CanBeTold (session_view w page sheets) → CanBeTold (session_view d.state page2 sheets)
      → Course d.moves (session_view w page sheets) (session_view d.state page2 sheets))
  attach_course parent before x can None pushed since session told told_after =
      let w : Session = record { opened = None; pushed = pushed; since = since } in
      let page2 : PageValue = after (Attach parent before x) page in
      told_course (session_ids w parent) (knows w (alone page.tree) parent) (counts _) (session_view w page sheets)
      (session_view w page2 sheets) told told_after refl
      (attach_counts page valid parent before x can None pushed since (λ o e. cc))
  attach_course parent before x can (Some o) pushed since session told told_after =
      let w : Session = session_of o pushed since in
      let page2 : PageValue = after (Attach parent before x) page in
      either_way (λ (d : Edited Session). CanBeTold (session_view d.state page2 sheets)
      → Course d.moves (session_view w page sheets) (session_view d.state page2 sheets)) (o parent) _ _
      (λ is told_after. change_course _ _ (session_view w page sheets)
      (session_view (attached x.row.serial w) page2 sheets) told told_after refl
      (attach_inserts page valid parent before x can o pushed since session is))
      (λ shut told_after. told_course (session_ids w parent) (knows w (alone page.tree) parent) (counts _) (session_view w page sheets)
      (session_view w page2 sheets) told told_after refl
      (attach_counts page valid parent before x can (Some o) pushed since
      (λ p e. (let same : o ≡ p = cc in subst (λ (r : ℕ → Bool). r parent ≡ false) same shut))))
      told_after

  detach_course : (serial : ℕ) (can : CanApply page.next (Detach serial) page.tree) (opened : Option (ℕ → Bool)) (pushed : List ℕ)
      (since : ℕ)
      → (let w : Session = record { opened = opened; pushed = pushed; since = since } in
      let page2 : PageValue = after (Detach serial) page in
      let d = session_edited (Detach serial) page w in
      IsSession (alone page.tree) w → CanBeTold (session_view w page sheets) → CanBeTold (session_view d.state page2 sheets)
      → Course d.moves (session_view w page sheets) (session_view d.state page2 sheets))
  detach_course serial can None pushed since session told told_after =
      let w : Session = record { opened = None; pushed = pushed; since = since } in
      let page2 : PageValue = after (Detach serial) page in
      told_course (session_ids w (parent_at serial page.tree)) (knows w (alone page.tree) (parent_at serial page.tree)) (counts _)
      (session_view w page sheets) (session_view (detached (node_at serial page.tree) w) page2 sheets) told told_after refl
      (detach_counts page valid serial can None pushed since (λ o e. cc))
  detach_course serial can (Some o) pushed since session told told_after =
      let w : Session = session_of o pushed since in
      let page2 : PageValue = after (Detach serial) page in
      let parent : ℕ = parent_at serial page.tree in
      let v : View = session_view (detached (node_at serial page.tree) w) page2 sheets in
      let is_x = serial-live serial page.tree (live3 page valid serial can) in
      either_way (λ ms. Course ms (session_view w page sheets) v) (o parent) _ _
      (λ is. change_course (session_ids w parent) (removes (session_ids w (node_at serial page.tree).row.serial))
      (session_view w page sheets) v told told_after refl
      (subst (λ (s : ℕ). ChangesNode (session_ids w parent) (removes (session_ids w s)) (session_view w page sheets).tree v.tree)
      (sym is_x) (detach_removes page valid serial can o pushed since session is)))
      (λ shut. told_course (session_ids w parent) (knows w (alone page.tree) parent) (counts _)
      (session_view w page sheets) v told told_after refl
      (detach_counts page valid serial can (Some o) pushed since
      (λ p e. (let same : o ≡ p = cc in subst (λ (r : ℕ → Bool). r parent ≡ false) same shut))))

pub edits_are_moves : EditsAreMoves
edits_are_moves page e w sheets valid can session tell tell_after can_sheets =
    by e can
    (can_say page w sheets valid tell can_sheets w session (omega arith))
    (can_say (after e page) (session_edited e page w).state sheets (valid-after page e valid can) tell_after can_sheets
    (session_edited e page w).state (edit_keeps_session page e w valid can session) (omega arith))
  where
    by : (e : TreeEdit) → CanApply page.next e page.tree → CanBeTold (session_view w page sheets)
        → CanBeTold (session_view (session_edited e page w).state (after e page) sheets)
        → Course (session_edited e page w).moves (session_view w page sheets)
        (session_view (session_edited e page w).state (after e page) sheets)
    by (SetAttr serial name value) can told told_after =
        told_course (session_ids w serial) (knows w (alone page.tree) serial) (sets name value) (session_view w page sheets)
        (session_view w (after (SetAttr serial name value) page) sheets) told told_after refl
        (set_told page valid w.opened w.pushed w.since serial name value can)
    by (DropAttr serial name) can told told_after =
        told_course (session_ids w serial) (knows w (alone page.tree) serial) (drops name) (session_view w page sheets)
        (session_view w (after (DropAttr serial name) page) sheets) told told_after refl
        (drop_told page valid w.opened w.pushed w.since serial name can)
    by (SetText serial value) can told told_after =
        told_course (session_ids w serial) (knows w (alone page.tree) serial) (says value) (session_view w page sheets)
        (session_view w (after (SetText serial value) page) sheets) told told_after refl
        (text_told page valid w.opened w.pushed w.since serial value can)
    by (Attach parent before x) can told told_after = attach_course page valid sheets parent before x can w.opened w.pushed w.since session
        told told_after
    by (Detach serial) can told told_after = detach_course page valid sheets serial can w.opened w.pushed w.since session told told_after
