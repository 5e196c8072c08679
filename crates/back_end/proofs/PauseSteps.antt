-- A pause: its nodes become known, and then it is told; the step is well.
use Rattle.std.proofs.Common.{◌≡◌, ℕ, zero, suc, ◌+◌, ◌^◌, ◌<◌, ◌≤◌, ◌==◌, Bool, true, false, cond, List, [], ◌∷◌, find, length, Option}
use Rattle.std.proofs.Common.{Some, None}
use Rattle.std.proofs.Common.{refl, sym, ◌∙◌, ap, subst, arith}
use Rattle.std.specs.Prelude.{option_map}
use Rattle.std.proofs.lemmas.Bool.{eq-eqb, eqb-true, not-false}
use Rattle.node_tree.specs.Nodes.{Nodes, none, node, Branch, alone}
use Rattle.node_tree.specs.Keys.{first_of, has, tally}
use Rattle.node_tree.specs.Seen.{Seen, seen_id}
use Rattle.node_tree.proofs.KeyLemmas.{has-there, has-find}
use Rattle.page_tree.specs.Pages.{PageRow, row_serial}
use Rattle.page_tree.specs.Ancestors.{ancestors_at}
use Rattle.page_tree.specs.EditFaults.{is_live, CanApply, edit_faults}
use Rattle.page_tree.specs.declared.edits.TreeEdit.{TreeEdit}
use Rattle.page_tree.specs.declared.edits.TreeEdit.TheVariants.{SetAttr, DropAttr, SetText, Attach, Detach}
use Rattle.page_tree.proofs.EditLemmas.{clear}
use Rattle.node_tree.proofs.PairLemmas.{left}
use Rattle.node_binding.specs.Counts.{times}
use Rattle.node_binding.specs.Cuts.{opens, known, cut}
use Rattle.node_binding.specs.Sessions.{Session, session_ids, cut_by}
use Rattle.node_binding.proofs.PairLemmas.{find-there}
use Rattle.node_binding.proofs.SessionLemmas.{times-known}
use Rattle.node_binding.proofs.StartLemmas.{distinct-alone}
use Rattle.client_views.specs.Moves.{met, AreShown, target_nodes, paused_nodes}
use Rattle.dom_agent.specs.Requests.{pushing}
use Rattle.dom_agent.proofs.KnownLemmas.{pushed-known}
use Rattle.dom_agent.proofs.OpeningsLemmas.{opened_all-grows}
use Rattle.dom_agent.proofs.OutcomeLemmas.{containers-page}
use Rattle.node_tree.specs.declared.watches.WatchKind.{WatchKind}
use Rattle.node_tree.specs.declared.watches.WatchKind.TheVariants.{Subtree, Attribute, Removed}
use Rattle.dom_breakpoints.specs.declared.pauses.Pause.{Pause}
use Rattle.dom_breakpoints.specs.Pauses.{own_pause, subtree_pause, pause_of}
use Rattle.dom_breakpoints.specs.Watched.{Watched, is_watched}
use Rattle.back_end.specs.States.{State, page_shown, nodes_shown, view_of, HoldsNow}
use Rattle.back_end.specs.Steps.{Step, push_step, push_steps, pause_data, is_shown_now, id_now, id_told, met_step, followed_by, pause_step}
use Rattle.back_end.specs.Seats.{IsPause, by_attribute, by_removal, by_subtree}
use Rattle.back_end.proofs.WatchedLemmas.{none-set}
use Rattle.back_end.proofs.PushSteps.{IsBegun, opened_by, push-opened, push-well}
use Rattle.back_end.proofs.WellSteps.{Well, HasNumbers, valid-shown, stays, stays-with, then-well, more}

-- ---- what an edit pauses by

module _ (w : Watched) (n : Nodes PageRow) where
  one-pause : (x p : Pause) (b : Bool) → (b ≡ true → IsPause w n x) → cond b (Some x) None ≡ Some p → IsPause w n p
  one-pause x p true is e = let same : x ≡ p = cc in subst (IsPause w n) same (is refl)
  one-pause x p false is e = absurd cc

  attribute-pause : (s : ℕ) (p : Pause) → own_pause Attribute w s ≡ Some p → IsPause w n p
  attribute-pause s p e = one-pause _ p (is_watched Attribute w s) (λ h. by_attribute s h) e

  removal-pause : (s : ℕ) (p : Pause) → own_pause Removed w s ≡ Some p → IsPause w n p
  removal-pause s p e = one-pause _ p (is_watched Removed w s) (λ h. by_removal s h) e

  subtree-pause : (target : ℕ) (insertion : Bool) (line : List ℕ) (p : Pause) → has row_serial target n ≡ true
      → subtree_pause w target insertion line ≡ Some p → IsPause w n p
  subtree-pause target insertion line p there e = at (find (is_watched Subtree w) line) refl e where
    at : (o : Option ℕ) → find (is_watched Subtree w) line ≡ o
        → option_map (λ nearest. record { kind = Subtree; node = nearest; target = Some target; insertion = insertion }) o ≡ Some p
        → IsPause w n p
    at None h e = absurd cc
    at (Some s) h e =
        let same : ◌≡◌ {A = Pause} (record { kind = Subtree; node = s; target = Some target; insertion = insertion }) p = cc in
        subst (IsPause w n) same (by_subtree s target insertion (find-there (is_watched Subtree w) line s h).1 there)

  first-pause : (o u : Option Pause) (p : Pause) → (o ≡ Some p → IsPause w n p) → (u ≡ Some p → IsPause w n p) → first_of o u ≡ Some p
      → IsPause w n p
  first-pause None u p f g e = g e
  first-pause (Some x) u p f g e = f e

live-there : (s : ℕ) (tree : Branch PageRow) → is_live s tree ≡ true → has row_serial s (alone tree) ≡ true
live-there s tree live = has-find row_serial s (alone tree) ∙ live

-- the pause that an edit comes to
pub edit-pause : (e : TreeEdit) (w : Watched) (next : ℕ) (tree : Branch PageRow) (p : Pause) → CanApply next e tree
    → pause_of w tree e ≡ Some p → IsPause w (alone tree) p
edit-pause (SetAttr s name value) w next tree p can e = attribute-pause w (alone tree) s p e
edit-pause (DropAttr s name) w next tree p can e = attribute-pause w (alone tree) s p e
edit-pause (SetText s value) w next tree p can e =
    let live = not-false _ (clear (edit_faults (SetText s value) tree) can.fits).0 in
    subtree-pause w (alone tree) s false (ancestors_at s tree) p (live-there s tree live) e
edit-pause (Attach parent before x) w next tree p can e =
    let live = left (is_live parent tree) _ (not-false _ (clear (edit_faults (Attach parent before x) tree) can.fits).0) in
    subtree-pause w (alone tree) parent true (parent ∷ ancestors_at parent tree) p (live-there parent tree live) e
edit-pause (Detach s) w next tree p can e =
    let live = not-false _ (clear (edit_faults (Detach s) tree) can.fits).0 in
    first-pause w (alone tree) (own_pause Removed w s) (subtree_pause w s false (ancestors_at s tree)) p (removal-pause w (alone tree) s p)
    (subtree-pause w (alone tree) s false (ancestors_at s tree) p (live-there s tree live)) e

-- where a node is watched, something is opened
pub watched-begun : (state : State) (kind : WatchKind) (s : ℕ) → HoldsNow state → is_watched kind state.client.watched s ≡ true
    → IsBegun state.client.session
watched-begun state kind s is h = at state.client.session.opened refl where
  at : (o : Option (ℕ → Bool)) → state.client.session.opened ≡ o → IsBegun state.client.session
  at (Some o) e = (o, e)
  at None e = none-set kind s (ap (λ w. is_watched kind w s) (sym (is.none_watched e)) ∙ h)

-- ---- known nodes are seen

module _ (o : ℕ → Bool) (i : ℕ → ℕ) (s : ℕ) where
  seen-step : (same seen open_now : Bool) (a c d : ℕ) (below : Nodes Seen) → (same ≡ true → seen ≡ true) → a ≤ tally seen_id (i s) below
      → c ≤ d
      → cond {A = ℕ} same 1 0 + (cond {A = ℕ} open_now a 0 + c) ≤ cond {A = ℕ} seen 1 0 + tally seen_id (i s) (cond open_now below none) + d
  seen-step true true true a c d below f h k = omega arith
  seen-step true true false a c d below f h k = omega arith
  seen-step true false open_now a c d below f h k = let no : false ≡ true = f refl in absurd cc
  seen-step false true true a c d below f h k = omega arith
  seen-step false true false a c d below f h k = omega arith
  seen-step false false true a c d below f h k = omega arith
  seen-step false false false a c d below f h k = omega arith

  known-seen : (n : Nodes PageRow) → times s (known o n) ≤ tally seen_id (i s) (cut o i n)
  known-seen none = omega arith
  known-seen (node r c t) =
      rw (times-known o i s r c t)
      (seen-step (r.serial == s) (i r.serial == i s) (opens o r) _ _ _ (cut o i c)
      (λ e. eq-eqb (i r.serial) (i s) (ap i (eqb-true r.serial s e))) (known-seen c) (known-seen t))

  pub seen-known : (n : Nodes PageRow) → 0 < times s (known o n) → has seen_id (i s) (cut o i n) ≡ true
  seen-known n h = has-there seen_id (i s) (cut o i n) (omega (arith, h, known-seen n))

-- a node that was pushed is known where at least as much is opened
pub push-knows : (serial : ℕ) (state : State) (begun : IsBegun state.client.session) (q : ℕ → Bool) → HoldsNow state
    → has row_serial serial (nodes_shown state) ≡ true
    → ((k : ℕ) → opened_by serial state begun.0 k ≡ true → q k ≡ true) → 0 < times serial (known q (nodes_shown state))
push-knows serial state begun q is there all =
    pushed-known begun.0 serial q (nodes_shown state) begun.0 (containers-page (page_shown state) (valid-shown state is))
    (distinct-alone (page_shown state) (valid-shown state is)) (λ k h. refl) all there

-- a node that is among those shown is found there
pub there-shown : (state : State) (s : ℕ) → has row_serial s (nodes_shown state) ≡ true → is_shown_now state s ≡ true
there-shown state s there = sym (has-find row_serial s (nodes_shown state)) ∙ there

-- its own id is told
pub told-id : (state : State) (s : ℕ) → is_shown_now state s ≡ true → id_told state s ≡ id_now state s
told-id state s there = ap (λ b. cond b (id_now state s) 0) there

-- and its client sees it
shown-id : (state : State) (begun : IsBegun state.client.session) (s : ℕ) → 0 < times s (known begun.0 (nodes_shown state))
    → has seen_id (id_now state s) (view_of state).tree ≡ true
shown-id state begun s h =
    let w : Session = state.client.session in
    ap (λ (o : Option (ℕ → Bool)). has seen_id (session_ids w s)
    (cut_by o (session_ids w) (nodes_shown state))) begun.1 ∙ seen-known begun.0 (session_ids w) s (nodes_shown state) h

-- ---- the step

-- a pause leaves the page's side as it is
pub record Pauses (state : State) (done : Step) : Type 0 where
  pub well : Well state done 200000 0 0
  pub side : done.state.side ≡ state.side

low-after : {before : State} {done : Step} (ids : ℕ) → HasNumbers before → Well before done ids 0 0
    → length before.client.session.pushed + ids < 2 ^ 52 → HasNumbers done.state
low-after ids low well few = record {
  ids = omega (arith, few, well.few_ids);
  serials = omega (arith, low.serials, well.few_serials);
  sheets = omega (arith, low.sheets, well.few_sheets);
}

-- by a watch of the node itself
own-pauses : (state : State) (p : Pause) → p.target ≡ None → HoldsNow state → HasNumbers state
    → length state.client.session.pushed + 200000 < 2 ^ 52 → IsBegun state.client.session
    → has row_serial p.node (nodes_shown state) ≡ true
    → paused_nodes (pause_data p.kind p (id_told (push_step p.node state).state)) ≡ id_told (push_step p.node state).state p.node ∷ []
    → Pauses state (followed_by (followed_by (push_step p.node state) (push_steps None)) (met_step p))
own-pauses state p alone_is is low few begun there names =
    let after = (push_step p.node state).state in
    let first : Well state (push_step p.node state) 100000 0 0 = push-well p.node state is low begun in
    let next : HasNumbers after = low-after 100000 low first (omega (arith, few)) in
    let begun_after : IsBegun after.client.session = (opened_by p.node state begun.0, push-opened p.node state begun) in
    let seen : has seen_id (id_now after p.node) (view_of after).tree
    ≡ true = shown-id after begun_after p.node (push-knows p.node state begun begun_after.0 is there (λ k h. h)) in
    let told_seen : has seen_id (id_told after p.node) (view_of after).tree
    ≡ true = ap (λ i. has seen_id i (view_of after).tree) (told-id after p.node (there-shown state p.node there)) ∙ seen in
    let shown : AreShown (paused_nodes (pause_data p.kind p (id_told after))) (view_of after).tree = subst
    (λ ids. AreShown ids (view_of after).tree) (sym names) (told_seen, tt) in
    record {
      well = more (omega arith) (omega arith) (omega arith)
          (then-well (then-well first (stays after first.now next))
          (stays-with (met (pause_data p.kind p (id_told after))) after first.now next (refl, shown)));
      side = refl;
    }

-- the target is seen where it is shown, and else 0 is told, which names no node
target-seen : (i : ℕ) (n : Nodes Seen) → has seen_id i n ≡ true → AreShown (target_nodes i) n
target-seen zero n h = tt
target-seen (suc i) n h = (h, tt)

target-shown : (target : ℕ) (state : State) (begun : IsBegun state.client.session) → HoldsNow state
    → let last : State = (push_step target state).state in AreShown (target_nodes (id_told last target)) (view_of last).tree
target-shown target state begun is = at (is_shown_now state target) refl where
  last : State
  last = (push_step target state).state

  begun_last : IsBegun last.client.session
  begun_last = (opened_by target state begun.0, push-opened target state begun)

  at : (b : Bool) → is_shown_now state target ≡ b → AreShown (target_nodes (cond b (id_now last target) 0)) (view_of last).tree
  at true there =
      target-seen (id_now last target) (view_of last).tree (shown-id last begun_last target
      (push-knows target state begun begun_last.0 is (has-find row_serial target (nodes_shown state) ∙ there) (λ k h. h)))
  at false hidden = tt

-- by a subtree watch
subtree-pauses : (state : State) (s target : ℕ) (insertion : Bool) → HoldsNow state → HasNumbers state
    → length state.client.session.pushed + 200000 < 2 ^ 52 → IsBegun state.client.session
    → has row_serial s (nodes_shown state) ≡ true
    → Pauses state (pause_step (Some (record { kind = Subtree; node = s; target = Some target; insertion = insertion })) state)
subtree-pauses state s target insertion is low few begun there =
    let after = (push_step s state).state in
    let first : Well state (push_step s state) 100000 0 0 = push-well s state is low begun in
    let next : HasNumbers after = low-after 100000 low first (omega (arith, few)) in
    let begun_after : IsBegun after.client.session = (opened_by s state begun.0, push-opened s state begun) in
    let last = (push_step target after).state in
    let second : Well after (push_step target after) 100000 0 0 = push-well target after first.now next begun_after in
    let both : Well state (followed_by (push_step s state) (push_step target)) 200000 0 0 = more (omega arith) (omega arith) (omega arith)
    (then-well first second) in
    let low_last : HasNumbers last = low-after 200000 low both few in
    let begun_last : IsBegun last.client.session = (opened_by target after begun_after.0, push-opened target after begun_after) in
    let o : ℕ → Bool = begun_after.0 in
    let node_seen = shown-id last begun_last s
    (push-knows s state begun begun_last.0 is there (λ k h. opened_all-grows o (pushing o target (nodes_shown state)) k h)) in
    let told_seen : has seen_id (id_told last s) (view_of last).tree
    ≡ true = ap (λ i. has seen_id i (view_of last).tree) (told-id last s (there-shown state s there)) ∙ node_seen in
    let aimed = target-shown target after begun_after first.now in
    let p : Pause = record { kind = Subtree; node = s; target = Some target; insertion = insertion } in
    record {
      well = more (omega arith) (omega arith) (omega arith)
          (then-well both (stays-with (met (pause_data Subtree p (id_told last))) last both.now low_last
          (refl, (told_seen, aimed))));
      side = refl;
    }

pub pauses : (state : State) (p : Pause) → HoldsNow state → HasNumbers state → length state.client.session.pushed + 200000 < 2 ^ 52
    → IsPause state.client.watched (alone state.side.page.tree) p
    → Pauses state (pause_step (Some p) state)
pauses state _ is low few (by_attribute s h) =
    own-pauses state (record { kind = Attribute; node = s; target = None; insertion = false }) refl is low few
    (watched-begun state Attribute s is h) (is.watched Attribute s h) refl
pauses state _ is low few (by_removal s h) =
    own-pauses state (record { kind = Removed; node = s; target = None; insertion = false }) refl is low few
    (watched-begun state Removed s is h) (is.watched Removed s h) refl
pauses state _ is low few (by_subtree s target insertion h aimed) =
    subtree-pauses state s target insertion is low few (watched-begun state Subtree s is h) (is.watched Subtree s h)

-- the pause before an edit, if it comes to one
pub edit-pauses : (state : State) (e : TreeEdit) → HoldsNow state → HasNumbers state → length state.client.session.pushed + 200000 < 2 ^ 52
    → CanApply state.side.page.next e state.side.page.tree
    → Pauses state (pause_step (pause_of state.client.watched state.side.page.tree e) state)
edit-pauses state e is low few can = at (pause_of state.client.watched state.side.page.tree e) refl where
  at : (o : Option Pause) → pause_of state.client.watched state.side.page.tree e ≡ o → Pauses state (pause_step o state)
  at None h = record { well = more (omega arith) (omega arith) (omega arith) (stays state is low); side = refl }
  at (Some p) h = pauses state p is low few (edit-pause e state.client.watched state.side.page.next state.side.page.tree p can h)
