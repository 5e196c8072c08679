-- A pause that a seat tells is the step of the state.
use Rattle.std.proofs.Common.{◌≡◌, ℕ, ◌+◌, ◌<◌, Bool, true, false, cond, List, [], ◌∷◌, ◌++◌, Option, Some, None, refl, sym, ◌∙◌, ap, subst}
use Rattle.std.proofs.Common.{append-nil}
use Rattle.std.proofs.Common.{append_assoc, arith}
use Rattle.std.specs.Prelude.{is_some}
use Rattle.std.proofs.lemmas.List.Concat.{flat_map-append}
use Rattle.node_tree.specs.Nodes.{Nodes, Branch}
use Rattle.node_tree.specs.Keys.{has}
use Rattle.node_tree.proofs.KeyLemmas.{has-find}
use Rattle.page_tree.specs.Pages.{PageRow, row_serial, PageValue}
use Rattle.page_tree.specs.EditFaults.{CanApply}
use Rattle.page_tree.specs.declared.edits.TreeEdit.{TreeEdit}
use Rattle.node_binding.specs.Counts.{times}
use Rattle.node_binding.specs.Cuts.{known, shown_anew}
use Rattle.node_binding.specs.Openings.{opened_also}
use Rattle.node_binding.specs.Sessions.{Session, IsSession, session_of, session_ids, grown}
use Rattle.node_binding.proofs.GrowLemmas.{times-anew}
use Rattle.node_binding.proofs.InViewLemmas.{opened-grows, roots_in_view}
use Rattle.node_binding.proofs.OpenedLemmas.{IsSession-opened, ids-stay}
use Rattle.node_binding.proofs.OpeningLemmas.{AreDistinct}
use Rattle.node_binding.proofs.StartLemmas.{distinct-alone}
use Rattle.cdp_messages.specs.declared.down.PauseData.{PauseData}
use Rattle.cdp_messages.specs.declared.down.PauseData.TheVariants as told_pause
use Rattle.pipe_frames.specs.Frames.{framed}
use Rattle.client_views.specs.Moves.{Move, met, frames_of_moves, move_text}
use Rattle.dom_agent.specs.Keepers.{session_keeper}
use Rattle.dom_agent.specs.Requests.{Opening, pushing, all_opened, pushed}
use Rattle.dom_agent.proofs.OpeningsLemmas.{AreOpenings, pushing-are}
use Rattle.dom_agent.proofs.OutcomeLemmas.{containers-page}
use Rattle.node_tree.specs.declared.watches.WatchKind.{WatchKind}
use Rattle.node_tree.specs.declared.watches.WatchKind.TheVariants.{Subtree, Attribute, Removed}
use Rattle.dom_breakpoints.specs.declared.pauses.Pause.{Pause}
use Rattle.dom_breakpoints.specs.Pauses.{pause_of}
use Rattle.dom_breakpoints.specs.Watched.{Watched, is_watched}
use Rattle.back_end.specs.States.{State, page_nodes, page_shown, nodes_shown, HoldsNow}
use Rattle.back_end.specs.Steps.{push_step, is_shown_now, id_now, id_told, pause_step, edit_step, pause_before, script_step}
use Rattle.back_end.specs.declared.desk.Desk.{Desk}
use Rattle.back_end.specs.declared.side.PageSide.{PageSide}
use Rattle.back_end.specs.Seats.{DeskStandsFor, HasBegun, attribute_pause, removal_pause, subtree_watch_pause, IsPause, by_attribute}
use Rattle.back_end.specs.Seats.{by_removal, by_subtree}
use Rattle.back_end.proofs.WellSteps.{valid-shown}
use Rattle.back_end.proofs.PauseSteps.{edit-pause, watched-begun, push-knows}
use Rattle.back_end.proofs.PushSteps.{IsBegun, is-begun, session-is, opened_by, push-opened, push-is}

-- ---- ids stay

module _ (n : Nodes PageRow) (distinct : AreDistinct n) (document : Branch PageRow) (s : ℕ) where
  ids-openings : (xs : List Opening) (o : ℕ → Bool) (pushed : List ℕ) (since : ℕ) → IsSession n (session_of o pushed since)
      → AreOpenings n o xs → 0 < times s (known o n)
      → session_ids (session_of o pushed since) s
      ≡ session_ids (all_opened (session_keeper n) document xs (session_of o pushed since)).state s
  ids-openings [] o pushed since session are h = refl
  ids-openings (y ∷ ys) o pushed since session are h =
      let p : ℕ → Bool = opened_also y.levels y.node o in
      let z : Session = grown o p n (session_of o pushed since) in
      let still : times s (known p n)
      ≡ times s (known o n) + times s (shown_anew o p n) = times-anew o p (opened-grows o y.levels y.node) s n in
      ids-stay y.levels n y.node o pushed since distinct are.0 are.1 session s h
      ∙ ids-openings ys p z.pushed z.since (IsSession-opened y.levels n y.node o pushed since distinct are.0 are.1 session) are.2
      (omega (arith, still, h))

-- the id of a known node stays when another one becomes known
pub push-keeps-id : (serial : ℕ) (state : State) (begun : IsBegun state.client.session) (s : ℕ) → HoldsNow state
    → 0 < times s (known begun.0 (nodes_shown state))
    → id_now state s ≡ id_now (push_step serial state).state s
push-keeps-id serial state begun s is h =
    let page = page_shown state in
    let valid = valid-shown state is in
    let n = nodes_shown state in
    let w : Session = state.client.session in
    let same : session_of begun.0 w.pushed w.since ≡ w = session-is w begun in
    let distinct = distinct-alone page valid in
    subst (λ (z : Session). session_ids z s ≡ session_ids (pushed (session_keeper n) page.tree serial z).state s) same
    (ids-openings n distinct page.tree s (pushing begun.0 serial n) begun.0 w.pushed w.since
    (subst (λ (z : Session). IsSession n z) (sym same) is.session)
    (pushing-are n distinct begun.0 serial n begun.0 (containers-page page valid) distinct (roots_in_view begun.0 n) (λ k h. refl)) h)

-- ---- what a seat can push

-- where a node is watched
pub watched-can : (state : State) (kind : WatchKind) (s : ℕ) → HoldsNow state → is_watched kind state.client.watched s ≡ true
    → HasBegun state
watched-can state kind s is h = ap (λ (o : Option (ℕ → Bool)). is_some o) (watched-begun state kind s is h).1

-- after a push
pub after-can : (serial : ℕ) (state : State) → HasBegun state → HasBegun (push_step serial state).state
after-can serial state can =
    ap (λ (o : Option (ℕ → Bool)). is_some o) (push-opened serial state (is-begun state.client.session can))

-- ---- what is sent

frames-joined : (old first new : List ℕ) (ms ks : List Move) → first ≡ old ++ frames_of_moves ms → new ≡ first ++ frames_of_moves ks
    → new ≡ old ++ frames_of_moves (ms ++ ks)
frames-joined old first new ms ks one two =
    two ∙ ap (λ (bs : List ℕ). bs ++ frames_of_moves ks) one ∙ append_assoc old (frames_of_moves ms) (frames_of_moves ks)
    ∙ ap (λ bs. old ++ bs) (sym (flat_map-append (λ (m : Move). framed (move_text m)) ms ks))

-- a pause by a watch of the node itself
own-sent : (state : State) (node id : ℕ) (data_of : ℕ → PauseData) (old first new : List ℕ) → id ≡ id_told (push_step node state).state node
    → first ≡ old ++ frames_of_moves (push_step node state).moves → new ≡ first ++ frames_of_moves (met (data_of id) ∷ [])
    → new ≡ old ++ frames_of_moves (((push_step node state).moves ++ []) ++ met (data_of (id_told (push_step node state).state node)) ∷ [])
own-sent state node id data_of old first new id_is one two =
    frames-joined old first new ((push_step node state).moves ++ []) (met (data_of (id_told (push_step node state).state node)) ∷ [])
    (one ∙ ap (λ ms. old ++ frames_of_moves ms) (sym (append-nil (push_step node state).moves)))
    (two ∙ ap (λ (i : ℕ). first ++ frames_of_moves (met (data_of i) ∷ [])) id_is)

pub attribute-sent : (state : State) (node id : ℕ) (old first new : List ℕ) → id ≡ id_told (push_step node state).state node
    → first ≡ old ++ frames_of_moves (push_step node state).moves → new ≡ first ++ frames_of_moves (met (told_pause.Attribute id) ∷ [])
    → new ≡ old ++ frames_of_moves (pause_step (Some (attribute_pause node)) state).moves
attribute-sent state node id old first new id_is one two = own-sent state node id told_pause.Attribute old first new id_is one two

pub removal-sent : (state : State) (node id : ℕ) (old first new : List ℕ) → id ≡ id_told (push_step node state).state node
    → first ≡ old ++ frames_of_moves (push_step node state).moves → new ≡ first ++ frames_of_moves (met (told_pause.Removed id) ∷ [])
    → new ≡ old ++ frames_of_moves (pause_step (Some (removal_pause node)) state).moves
removal-sent state node id old first new id_is one two = own-sent state node id told_pause.Removed old first new id_is one two

-- the id that is told of a node that was pushed stays when another one becomes known
told-stays : (state : State) (node target : ℕ) → HoldsNow state → HasBegun state
    → let after : State = (push_step node state).state in id_told after node ≡ id_told (push_step target after).state node
told-stays state node target is can = at (is_shown_now state node) refl where
  after : State
  after = (push_step node state).state

  begun : IsBegun state.client.session
  begun = is-begun state.client.session can

  begun_after : IsBegun after.client.session
  begun_after = (opened_by node state begun.0, push-opened node state begun)

  at : (b : Bool) → is_shown_now state node ≡ b
      → cond b (id_now after node) 0 ≡ cond b (id_now (push_step target after).state node) 0
  at true there =
      push-keeps-id target after begun_after node (push-is node state is begun)
      (push-knows node state begun begun_after.0 is (has-find row_serial node (nodes_shown state) ∙ there) (λ k h. h))
  at false hidden = refl

-- one by a subtree watch
pub subtree-sent : (state : State) (node target id target_id : ℕ) (insertion : Bool) (old first second new : List ℕ) → HoldsNow state
    → HasBegun state
    → id ≡ id_told (push_step node state).state node → target_id ≡ id_told (push_step target (push_step node state).state).state target
    → first ≡ old ++ frames_of_moves (push_step node state).moves
    → second ≡ first ++ frames_of_moves (push_step target (push_step node state).state).moves
    → new ≡ second ++ frames_of_moves (met (told_pause.Subtree id target_id insertion) ∷ [])
    → new ≡ old ++ frames_of_moves (pause_step (Some (subtree_watch_pause node target insertion)) state).moves
subtree-sent state node target id target_id insertion old first second new is can id_is target_is one two three =
    let after : State = (push_step node state).state in
    let last : State = (push_step target after).state in
    let stays : id_told after node ≡ id_told last node = told-stays state node target is can in
    frames-joined old second new ((push_step node state).moves ++ (push_step target after).moves)
    (met (told_pause.Subtree (id_told last node) (id_told last target) insertion) ∷ [])
    (frames-joined old first second (push_step node state).moves (push_step target after).moves one two)
    (three ∙ ap (λ (i : ℕ). second ++ frames_of_moves (met (told_pause.Subtree i target_id insertion) ∷ [])) (id_is ∙ stays)
    ∙ ap (λ (i : ℕ). second ++ frames_of_moves (met (told_pause.Subtree (id_told last node) i insertion) ∷ [])) target_is)

-- ---- which pause it is

module _ {w : Watched} {n : Nodes PageRow} where
  pub attribute-is : (p : Pause) → p.kind ≡ Attribute → IsPause w n p
      → (p ≡ attribute_pause p.node) × (is_watched Attribute w p.node ≡ true)
  attribute-is _ e (by_attribute s h) = (refl, h)
  attribute-is _ e (by_removal s h) = absurd cc
  attribute-is _ e (by_subtree s target insertion h there) = absurd cc

  pub removal-is : (p : Pause) → p.kind ≡ Removed → IsPause w n p → (p ≡ removal_pause p.node) × (is_watched Removed w p.node ≡ true)
  removal-is _ e (by_attribute s h) = absurd cc
  removal-is _ e (by_removal s h) = (refl, h)
  removal-is _ e (by_subtree s target insertion h there) = absurd cc

  pub subtree-is : (p : Pause) (target : ℕ) → p.target ≡ Some target → IsPause w n p
      → (p ≡ subtree_watch_pause p.node target p.insertion) × (is_watched Subtree w p.node ≡ true) × (has row_serial target n ≡ true)
  subtree-is _ target e (by_attribute s h) = absurd cc
  subtree-is _ target e (by_removal s h) = absurd cc
  subtree-is _ target e (by_subtree s t insertion h there) =
      let same : t ≡ target = cc in
      (ap (λ x. subtree_watch_pause s x insertion) same, h, subst (λ x. has row_serial x n ≡ true) same there)

  pub no-pause : {A : Type 0} (p : Pause) → p.kind ≡ Subtree → p.target ≡ None → IsPause w n p → A
  no-pause _ e f (by_attribute s h) = absurd cc
  no-pause _ e f (by_removal s h) = absurd cc
  no-pause _ e f (by_subtree s target insertion h there) = absurd cc

-- ---- the pause that an edit comes to at a seat

pub pause-here : (d : Desk) (s : PageSide) (state : State) (e : TreeEdit) (page : PageValue) (o : Option Pause) → DeskStandsFor d s state
    → page ≡ s.page → o ≡ pause_of d.watches page.tree e
    → pause_of state.client.watched state.side.page.tree e ≡ o
pause-here d s state e page o stands page_is is =
    sym (is ∙ ap (λ (p : PageValue). pause_of d.watches p.tree e) (page_is ∙ stands.page_is) ∙ ap
    (λ w. pause_of w state.side.page.tree e) stands.watches_are)

pub edit-is-pause : (d : Desk) (s : PageSide) (state : State) (e : TreeEdit) (p : Pause) → DeskStandsFor d s state
    → CanApply s.page.next e s.page.tree
    → pause_of state.client.watched state.side.page.tree e ≡ Some p → IsPause state.client.watched (page_nodes state) p
edit-is-pause d s state e p stands can is =
    edit-pause e state.client.watched state.side.page.next state.side.page.tree p
    (subst (λ (page : PageValue). CanApply page.next e page.tree) stands.page_is can) is

-- the same pause
pub told-stands : (d1 : Desk) (s : PageSide) (state : State) (p q : Pause) → p ≡ q → DeskStandsFor d1 s (pause_step (Some q) state).state
    → DeskStandsFor d1 s (pause_step (Some p) state).state
told-stands d1 s state p q same stands = subst (λ (x : Pause). DeskStandsFor d1 s (pause_step (Some x) state).state) (sym same) stands

pub told-sent : (state : State) (p q : Pause) (old new : List ℕ) → p ≡ q → new ≡ old ++ frames_of_moves (pause_step (Some q) state).moves
    → new ≡ old ++ frames_of_moves (pause_step (Some p) state).moves
told-sent state p q old new same sent = sent ∙ ap (λ (x : Pause). old ++ frames_of_moves (pause_step (Some x) state).moves) (sym same)

-- before an edit
pub before-stands : (d1 : Desk) (s : PageSide) (state : State) (e : TreeEdit) (o : Option Pause)
    → pause_of state.client.watched state.side.page.tree e ≡ o
    → DeskStandsFor d1 s (pause_step o state).state → DeskStandsFor d1 s (pause_before e state).state
before-stands d1 s state e o is stands = subst (λ (x : Option Pause). DeskStandsFor d1 s (pause_step x state).state) (sym is) stands

pub before-sent : (state : State) (e : TreeEdit) (o : Option Pause) (old new : List ℕ)
    → pause_of state.client.watched state.side.page.tree e ≡ o
    → new ≡ old ++ frames_of_moves (pause_step o state).moves → new ≡ old ++ frames_of_moves (pause_before e state).moves
before-sent state e o old new is sent = sent ∙ ap (λ (x : Option Pause). old ++ frames_of_moves (pause_step x state).moves) (sym is)
