-- A session goes on through an edit of the page.
use Rattle.std.proofs.Common.{◌≡◌, ℕ, ◌+◌, ◌≤◌, ◌==◌, Bool, true, false, cond, List, [], ◌∷◌, length, length-append, Option, Some, None}
use Rattle.std.proofs.Common.{refl, sym, ap, subst, ◌∙◌, arith}
use Rattle.std.proofs.lemmas.Bool.{not-false}
use Rattle.node_tree.specs.Nodes.{Nodes, none, node, Branch, alone}
use Rattle.node_tree.specs.Keys.{At}
use Rattle.node_tree.specs.Labels.{Label, holds}
use Rattle.node_tree.proofs.ChangeLemmas.{child_of}
use Rattle.page_tree.specs.Pages.{PageRow, PageValue, IsValid, row_serial, node_at}
use Rattle.page_tree.specs.Edits.{relabelled, with_attribute, without_attribute, with_value, without_child, changed_at, after}
use Rattle.page_tree.specs.EditFaults.{is_live, CanApply, edit_faults}
use Rattle.page_tree.specs.declared.edits.TreeEdit.{TreeEdit}
use Rattle.page_tree.specs.declared.edits.TreeEdit.TheVariants.{SetAttr, DropAttr, SetText, Attach, Detach}
use Rattle.page_tree.proofs.EditLemmas.{clear, changed, serial-live, valid-after}
use Rattle.node_binding.specs.Counts.{times}
use Rattle.node_binding.specs.Cuts.{known}
use Rattle.node_binding.specs.Sessions.{Session, IsSession, session_of, is_open, attached, detached}
use Rattle.node_binding.proofs.StartLemmas.{distinct-alone}
use Rattle.node_binding.proofs.ChangedLemmas.{IsAlike, known-at, known_below_it, IsOpenedSet-at, IsSession-same}
use Rattle.node_binding.proofs.AttachLemmas.{IsSession-attached, IsSession-apart}
use Rattle.node_binding.proofs.DetachLemmas.{IsOneOf, first, later, IsSession-detached}
use Rattle.dom_agent.specs.Edits.{Edited}
use Rattle.dom_agent.specs.EditLaws.{session_edited, EditKeepsSession, EditDrawsOne}
use Rattle.dom_agent.proofs.EditsShown as seen

-- by a test: both ways
pub either_way : {A : Type 0} (P : A → Type 0) (b : Bool) (x y : A) → (b ≡ true → P x) → (b ≡ false → P y) → P (cond b x y)
either_way P true x y f g = f refl
either_way P false x y f g = g refl

-- where nothing is known, the page says nothing
session_unknown : (n m : Nodes PageRow) (pushed : List ℕ) (since : ℕ)
    → IsSession n (record { opened = None; pushed = pushed; since = since })
    → IsSession m (record { opened = None; pushed = pushed; since = since })
session_unknown n m pushed since session = record { opened_set = tt; since_then = session.since_then; known_stand = session.known_stand }

-- ---- another label

module _ (page : PageValue) (valid : IsValid page) (serial : ℕ) (f : Label → Label) (kept : (l : Label) → (f l).kind ≡ l.kind)
    (live : is_live serial page.tree ≡ true) where
  abbrev m : Nodes PageRow
  m = alone (changed_at serial (relabelled f) page.tree)

  abbrev b : Branch PageRow
  b = node_at serial page.tree

  alike : IsAlike b (relabelled f b)
  alike = record { serial = refl; kind = kept b.row.label }

  at : (depth : ℕ) × At b (relabelled f b) depth (alone page.tree) m
  at = changed serial (relabelled f) page.tree live

  known_still : (o : ℕ → Bool) (s : ℕ) → times s (known o m) ≡ times s (known o (alone page.tree))
  known_still o s =
      let k = known-at o alike at.1 in
      let same : times s (known_below_it o (relabelled f b))
      ≡ times s (known_below_it o b) = ap (λ h. times s (cond (cond (holds h) (o b.row.serial) false) (known o b.children) []))
      (kept b.row.label) in
      omega (arith, k.counts s, ap (λ c. cond {A = ℕ} k.in_view c 0) same)

  session_label : (opened : Option (ℕ → Bool)) (pushed : List ℕ) (since : ℕ)
      → IsSession (alone page.tree) (record { opened = opened; pushed = pushed; since = since })
      → IsSession m (record { opened = opened; pushed = pushed; since = since })
  session_label None pushed since session = session_unknown (alone page.tree) m pushed since session
  session_label (Some o) pushed since session =
      IsSession-same (alone page.tree) m o pushed since (known_still o)
      (IsOpenedSet-at o alike (λ e. e) (λ e. e) (λ s. omega arith) at.1 session.opened_set) session

-- ---- an attach

module _ (page : PageValue) (valid : IsValid page) (parent before : ℕ) (x : Branch PageRow)
    (can : CanApply page.next (Attach parent before x) page.tree) where
  abbrev e2 : TreeEdit
  e2 = Attach parent before x

  valid2 : IsValid (after e2 page)
  valid2 = valid-after page e2 valid can

  pub session_attached : (o : ℕ → Bool) (pushed : List ℕ) (since : ℕ) → o parent ≡ true
      → IsSession (alone page.tree) (session_of o pushed since)
      → IsSession (alone (after e2 page).tree) (attached x.row.serial (session_of o pushed since))
  session_attached o pushed since is session =
      let at2 = seen.at page valid parent before x can in
      IsSession-attached (alone page.tree) (alone (after e2 page).tree) (node_at parent page.tree) x before at2.0 at2.1
      (distinct-alone (after e2 page) valid2) o pushed since session
      (ap o (seen.p_serial page valid parent before x can) ∙ is)

  session_apart : (opened : Option (ℕ → Bool)) (pushed : List ℕ) (since : ℕ) → is_open opened parent ≡ false
      → IsSession (alone page.tree) (record { opened = opened; pushed = pushed; since = since })
      → IsSession (alone (after e2 page).tree) (record { opened = opened; pushed = pushed; since = since })
  session_apart None pushed since shut session = session_unknown (alone page.tree) (alone (after e2 page).tree) pushed since session
  session_apart (Some o) pushed since shut session =
      let at2 = seen.at page valid parent before x can in
      IsSession-apart (alone page.tree) (alone (after e2 page).tree) (node_at parent page.tree) x before at2.0 at2.1
      (distinct-alone (after e2 page) valid2) o pushed since session
      (ap o (seen.p_serial page valid parent before x can) ∙ shut)

  session_attach : (opened : Option (ℕ → Bool)) (pushed : List ℕ) (since : ℕ)
      → IsSession (alone page.tree) (record { opened = opened; pushed = pushed; since = since })
      → IsSession (alone (after e2 page).tree) (session_edited e2 page (record { opened = opened; pushed = pushed; since = since })).state
  session_attach None pushed since session = session_unknown (alone page.tree) (alone (after e2 page).tree) pushed since session
  session_attach (Some o) pushed since session =
      either_way (λ (d : Edited Session). IsSession (alone (after e2 page).tree) d.state) (o parent) _ _
      (λ is. session_attached o pushed since is session)
      (λ shut. session_apart (Some o) pushed since shut session)

-- ---- a detach

pub one_of : (serial : ℕ) (c : Nodes PageRow) (x : Branch PageRow) → child_of row_serial serial c ≡ Some x → IsOneOf x c
one_of serial none x e = cc
one_of serial (node r c t) x e = by (r.serial == serial) e (one_of serial t x)
  where
    by : (v : Bool) → cond v (Some (record { row = r; children = c })) (child_of row_serial serial t) ≡ Some x
        → (child_of row_serial serial t ≡ Some x → IsOneOf x t) → IsOneOf x (node r c t)
    by true e rest = let same : ◌≡◌ {A = Branch PageRow} (record { row = r; children = c }) x = cc in subst
        (λ (y : Branch PageRow). IsOneOf y (node r c t)) same (first t)
    by false e rest = later r c t (rest e)

session_detach : (page : PageValue) (valid : IsValid page) (serial : ℕ) → CanApply page.next (Detach serial) page.tree
    → (opened : Option (ℕ → Bool)) (pushed : List ℕ) (since : ℕ)
    → IsSession (alone page.tree) (record { opened = opened; pushed = pushed; since = since })
    → IsSession (alone (after (Detach serial) page).tree)
    (detached (node_at serial page.tree) (record { opened = opened; pushed = pushed; since = since }))
session_detach page valid serial can None pushed since session = session_unknown (alone page.tree)
    (alone (after (Detach serial) page).tree) pushed since session
session_detach page valid serial can (Some o) pushed since session =
    let q : Branch PageRow = seen.q page valid serial can in
    let x : Branch PageRow = node_at serial page.tree in
    let at3 = seen.at3 page valid serial can in
    let is : x.row.serial ≡ serial = serial-live serial page.tree (seen.live3 page valid serial can) in
    IsSession-detached (alone page.tree) (alone (after (Detach serial) page).tree) q x at3.0
    (subst (λ (s : ℕ). At q (without_child s q) at3.0 (alone page.tree) (alone (after (Detach serial) page).tree)) (sym is) at3.1)
    (one_of serial q.children x (seen.part page valid serial can).child) (distinct-alone page valid) o pushed since session

-- ---- the laws

pub edit_keeps_session : EditKeepsSession
edit_keeps_session page (SetAttr serial name value) w valid can session =
    session_label page valid serial (with_attribute name value) (λ l. refl)
    (not-false _ (clear (edit_faults (SetAttr serial name value) page.tree) can.fits).0) w.opened w.pushed w.since session
edit_keeps_session page (DropAttr serial name) w valid can session =
    session_label page valid serial (without_attribute name) (λ l. refl)
    (not-false _ (clear (edit_faults (DropAttr serial name) page.tree) can.fits).0) w.opened w.pushed w.since session
edit_keeps_session page (SetText serial value) w valid can session =
    session_label page valid serial (with_value value) (λ l. refl)
    (not-false _ (clear (edit_faults (SetText serial value) page.tree) can.fits).0) w.opened w.pushed w.since session
edit_keeps_session page (Attach parent before x) w valid can session = session_attach page valid parent before x can w.opened w.pushed
    w.since session
edit_keeps_session page (Detach serial) w valid can session = session_detach page valid serial can w.opened w.pushed w.since session

pub edit_draws_one : EditDrawsOne
edit_draws_one page (SetAttr serial name value) w = omega arith
edit_draws_one page (DropAttr serial name) w = omega arith
edit_draws_one page (SetText serial value) w = omega arith
edit_draws_one page (Attach parent before x) w =
    either_way (λ (d : Edited Session). length d.state.pushed ≤ length w.pushed + 1) (is_open w.opened parent) _ _
    (λ is. omega (arith, length-append w.pushed (x.row.serial ∷ [])))
    (λ shut. omega arith)
edit_draws_one page (Detach serial) w = omega arith
