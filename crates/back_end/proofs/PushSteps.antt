-- A node becomes known, with all above it: the step is well, and what is opened stays opened.
use Rattle.std.proofs.Common.{◌≡◌, ℕ, ◌+◌, ◌≤◌, Bool, true, false, cond, length, Option, Some, None, refl, sym, ◌∙◌, ap, subst, arith}
use Rattle.std.specs.Prelude.{is_some}
use Rattle.node_tree.specs.Nodes.{node_count}
use Rattle.page_tree.specs.Pages.{PageValue, node_at}
use Rattle.page_tree.specs.declared.edits.TreeEdit.{TreeEdit}
use Rattle.page_tree.specs.declared.edits.TreeEdit.TheVariants.{SetAttr, DropAttr, SetText, Attach, Detach}
use Rattle.node_binding.specs.Sessions.{Session, IsSession, session_of, is_open, serial_at}
use Rattle.node_binding.specs.Openings.{opened_without}
use Rattle.node_binding.proofs.StartLemmas.{count-alone, distinct-alone}
use Rattle.dom_agent.specs.Keepers.{session_keeper}
use Rattle.dom_agent.specs.Requests.{Progress, pushing, pushed}
use Rattle.dom_agent.specs.Edits.{Edited}
use Rattle.dom_agent.specs.EditLaws.{session_edited}
use Rattle.dom_agent.specs.ModeEdits.{edited_if, shown_session_edited}
use Rattle.shown_pages.specs.declared.modes.Mode.{Mode}
use Rattle.shown_pages.specs.ShownPages.{shown_page}
use Rattle.shown_pages.specs.ShownEdits.{shown_edit}
use Rattle.dom_agent.proofs.StepLemmas.{Goes, goes-pushed, goes-few}
use Rattle.dom_agent.proofs.OutcomeLemmas.{containers-page}
use Rattle.dom_agent.proofs.OpeningsLemmas.{opened_all}
use Rattle.dom_agent.proofs.KnownLemmas.{opened_after}
use Rattle.dom_agent.proofs.TellableLemmas.{can_say}
use Rattle.back_end.specs.States.{State, page_shown, nodes_shown, sheets_shown, HoldsNow}
use Rattle.back_end.specs.Steps.{push_step}
use Rattle.back_end.proofs.WellSteps.{Well, HasNumbers, valid-shown, can-sheets, can-tell}

-- something is opened
abbrev pub IsBegun : Session → Type 0
IsBegun w = (o : ℕ → Bool) × (w.opened ≡ Some o)

-- what a push comes to for the session
abbrev pub push_of : ℕ → State → Progress Session
push_of serial state = pushed (session_keeper (nodes_shown state)) (page_shown state).tree serial state.client.session

pub session-is : (w : Session) (begun : IsBegun w) → session_of begun.0 w.pushed w.since ≡ w
session-is w begun = λ i. record { opened = sym begun.1 i; pushed = w.pushed; since = w.since }

pub not-begun : {A : Type 0} (w : Session) → IsBegun w → w.opened ≡ None → A
not-begun w begun h = let no : ◌≡◌ {A = Option (ℕ → Bool)} None (Some begun.0) = sym h ∙ begun.1 in absurd cc

-- as it is tested
pub is-begun : (w : Session) → is_some w.opened ≡ true → IsBegun w
is-begun w h = at w.opened refl h where
  at : (o : Option (ℕ → Bool)) → w.opened ≡ o → is_some o ≡ true → IsBegun w
  at None is e = absurd cc
  at (Some o) is e = (o, is)

pub begun-is : (w : Session) → IsBegun w → is_some w.opened ≡ true
begun-is w begun = ap (λ (o : Option (ℕ → Bool)). is_some o) begun.1

-- a node is known only where something is opened
known-begun : (o : Option (ℕ → Bool)) (w : Session) (state : State) (id serial : ℕ) → w.opened ≡ o
    → serial_at (record { opened = o; pushed = w.pushed; since = w.since }) (nodes_shown state) id ≡ Some serial → IsBegun w
known-begun None w state id serial is h = let no : ◌≡◌ {A = Option ℕ} None (Some serial) = h in absurd cc
known-begun (Some o) w state id serial is h = (o, is)

pub begun-known : (w : Session) (state : State) (id serial : ℕ) → serial_at w (nodes_shown state) id ≡ Some serial → IsBegun w
begun-known w state id serial h = known-begun w.opened w state id serial refl h

-- ---- edits

came-begun : (b : Bool) (x y : Edited Session) → IsBegun x.state → IsBegun y.state → IsBegun (cond b x y).state
came-begun true x y h k = h
came-begun false x y h k = k

pub begun-edited : (e : TreeEdit) (page : PageValue) (w : Session) → IsBegun w → IsBegun (session_edited e page w).state
begun-edited (SetAttr serial name value) page w h = h
begun-edited (DropAttr serial name) page w h = h
begun-edited (SetText serial value) page w h = h
begun-edited (Attach parent before x) page w h = came-begun (is_open w.opened parent) _ _ h h
begun-edited (Detach serial) page w h = (
  opened_without (node_at serial page.tree) h.0,
  ap
      (λ (o : Option (ℕ → Bool)). (session_edited (Detach serial) page
      (record { opened = o; pushed = w.pushed; since = w.since })).state.opened) h.1,
)

begun-edited-if : (o : Option TreeEdit) (page : PageValue) (w : Session) → IsBegun w
    → IsBegun (edited_if (λ f. session_edited f page) o w).state
begun-edited-if None page w h = h
begun-edited-if (Some e) page w h = begun-edited e page w h

pub begun-shown : (mode : Mode) (e : TreeEdit) (page : PageValue) (w : Session) → IsBegun w
    → IsBegun (shown_session_edited mode e page w).state
begun-shown mode e page w h = begun-edited-if (shown_edit mode e page.tree) (shown_page mode page) w h

-- ---- pushes

pub push-goes : (serial : ℕ) (state : State) → HoldsNow state → IsBegun state.client.session
    → Goes (nodes_shown state) state.client.session (push_of serial state).state (push_of serial state).shown
push-goes serial state is begun =
    let n = nodes_shown state in
    let w : Session = state.client.session in
    let same : session_of begun.0 w.pushed w.since ≡ w = session-is w begun in
    subst (λ (z : Session). Goes n z (pushed (session_keeper n) (page_shown state).tree serial z).state
    (pushed (session_keeper n) (page_shown state).tree serial z).shown) same
    (goes-pushed (page_shown state).tree (distinct-alone (page_shown state) (valid-shown state is))
    (containers-page (page_shown state) (valid-shown state is)) serial begun.0 w.pushed w.since
    (subst (λ (z : Session). IsSession n z) (sym same) is.session))

-- what is opened after a push, where this was
abbrev pub opened_by : ℕ → State → (ℕ → Bool) → ℕ → Bool
opened_by serial state o = opened_all o (pushing o serial (nodes_shown state))

pub push-opened : (serial : ℕ) (state : State) (begun : IsBegun state.client.session)
    → (push_step serial state).state.client.session.opened ≡ Some (opened_by serial state begun.0)
push-opened serial state begun =
    let n = nodes_shown state in
    let w : Session = state.client.session in
    ap (λ (z : Session). (pushed (session_keeper n) (page_shown state).tree serial z).state.opened) (sym (session-is w begun))
    ∙ opened_after n (page_shown state).tree (pushing begun.0 serial n) begun.0 w.pushed w.since

pub push-begun : (serial : ℕ) (state : State) → IsBegun state.client.session → IsBegun (push_step serial state).state.client.session
push-begun serial state begun = (opened_by serial state begun.0, push-opened serial state begun)

-- the state after a push
pub push-is : (serial : ℕ) (state : State) → HoldsNow state → IsBegun state.client.session → HoldsNow (push_step serial state).state
push-is serial state is begun = record {
  page = is.page;
  texts = is.texts;
  sheets = is.sheets;
  session = (push-goes serial state is begun).session;
  off = λ h. not-begun state.client.session begun (is.off h);
  css_off = is.css_off;
  all_shown = is.all_shown;
  watched = is.watched;
  none_watched = λ h. not-begun (push_of serial state).state (push-begun serial state begun) h;
}

pub push-well : (serial : ℕ) (state : State) → HoldsNow state → HasNumbers state → IsBegun state.client.session
    → Well state (push_step serial state) 100000 0 0
push-well serial state is low begun =
    let page = page_shown state in
    let n = nodes_shown state in
    let w : Session = state.client.session in
    let p : Progress Session = push_of serial state in
    let g : Goes n w p.state p.shown = push-goes serial state is begun in
    let count : node_count n ≤ 100000 = count-alone page (valid-shown state is) in
    let few : length p.state.pushed ≤ length w.pushed + node_count n = goes-few n w p.state p.shown g in
    record {
      now = push-is serial state is begun;
      course = g.course (length w.pushed + node_count n) (sheets_shown state)
          (can_say page w (sheets_shown state) (valid-shown state is) (can-tell state is low) (can-sheets state is low)) few;
      few_ids = omega (arith, few, count);
      few_serials = omega arith;
      few_sheets = omega arith;
      given = refl;
    }
