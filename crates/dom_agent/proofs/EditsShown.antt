-- Each edit of a page, as a session sees it.
use Rattle.std.proofs.Common.{◌≡◌, ℕ, ◌+◌, ◌<◌, ◌≤◌, ◌==◌, Bool, true, false, cond, not, ◌&&◌, ◌||◌, List, [], ◌∷◌, ◌++◌, length, drop}
use Rattle.std.proofs.Common.{Option, Some, None, refl, sym, ap, subst, ◌∙◌, arith}
use Rattle.std.proofs.lemmas.Bool.{eqb-true, not-false}
use Rattle.std.proofs.lemmas.List.{drop-append-le}
use Rattle.node_tree.specs.Nodes.{Nodes, none, node, Branch, alone, width}
use Rattle.node_tree.specs.Keys.{tally, tally_in, At}
use Rattle.node_tree.specs.Labels.{Label, holds, is_document}
use Rattle.node_tree.specs.Seen.{Seen, seen_id}
use Rattle.node_tree.proofs.KeyLemmas.{tally-at, has-absent}
use Rattle.node_tree.proofs.ChangeLemmas.{tally_in-at, child_of}
use Rattle.page_tree.specs.Pages.{PageRow, PageValue, IsValid, row_serial, node_at, parent_at}
use Rattle.page_tree.specs.Edits.{put_before, taken_out, relabelled, with_attribute, without_attribute, with_value, with_child}
use Rattle.page_tree.specs.Edits.{without_child, changed_at, after_tree, children_at}
use Rattle.page_tree.specs.EditFaults.{is_live, CanApply, edit_faults}
use Rattle.page_tree.specs.declared.edits.TreeEdit.TheVariants.{SetAttr, DropAttr, SetText, Attach, Detach}
use Rattle.page_tree.proofs.ChildLemmas.{Inserted, tally-inserted, inserted-taken}
use Rattle.node_tree.proofs.PairLemmas.{left}
use Rattle.page_tree.proofs.WholeLemmas.{Whole, whole-valid, inserted-sound}
use Rattle.page_tree.proofs.EditLemmas.{clear, changed, serial-live, Parted, parted, fits-live, whole-after}
use Rattle.page_tree.proofs.BackLemmas.{turned-node}
use Rattle.node_binding.specs.Counts.{times, last_standing}
use Rattle.node_binding.specs.Cuts.{opens, known, cut}
use Rattle.node_binding.specs.Ids.{id_of}
use Rattle.node_binding.specs.Openings.{containers_within, opened_without}
use Rattle.node_binding.specs.Sessions.{Session, IsSession, session_of, session_ids, knows, view, detached}
use Rattle.node_binding.proofs.Places.{is_in-times, place-none}
use Rattle.node_binding.proofs.Known.{known-tally}
use Rattle.node_binding.proofs.GrowLemmas.{place-append}
use Rattle.node_binding.proofs.CutLemmas.{cut-same}
use Rattle.node_binding.proofs.OpenedLemmas.{cut-local}
use Rattle.node_binding.proofs.OpeningLemmas.{AreDistinct, self_times, reached-tally}
use Rattle.node_binding.proofs.StartLemmas.{distinct-alone}
use Rattle.node_binding.proofs.SessionLemmas.{view-ids, view-above}
use Rattle.node_binding.proofs.ChangedLemmas.{IsAlike, containers-live}
use Rattle.client_views.specs.Moves.{Change, changed as changed_by, inserts, removes, counts, sets, drops, says, suits_change}
use Rattle.client_views.specs.Moves.{ChangesNode}
use Rattle.dom_agent.specs.Requests.{shown}
use Rattle.dom_agent.specs.Edits.{id_before, unopened}
use Rattle.dom_agent.proofs.ShownLemmas.{is_root, seen-at}
use Rattle.dom_agent.proofs.ShownChanges.{CanName, Tells, before_after, changes, tells_by, shown-sets, shown-drops, shown-says}
use Rattle.dom_agent.proofs.ShownChanges.{shown-counts}
use Rattle.dom_agent.proofs.ShownChanges.{suits-counts, shown-inserts, suits-inserts, shown-removes, suits-removes, kids_tally}

module _ (page : PageValue) (valid : IsValid page) where
  abbrev n : Nodes PageRow
  n = alone page.tree

  distinct : AreDistinct n
  distinct = distinct-alone page valid

  whole : Whole page.next n
  whole = whole-valid page valid

  -- a change of the node of that serial is told where it is known
  module _ (opened_now : Option (ℕ → Bool)) (pushed : List ℕ) (since : ℕ) where
    abbrev w : Session
    w = record { opened = opened_now; pushed = pushed; since = since }

    abbrev pub IsTold : ℕ → Change → Nodes PageRow → Type 0
    IsTold serial c m = Tells (session_ids w serial) (knows w n serial) c (view w n) (view w m)

    label_told : (serial : ℕ) (f : Label → Label) (c : Change) → CanName c → is_live serial page.tree ≡ true
        → ((l : Label) → (f l).kind ≡ l.kind)
        → ((o : ℕ → Bool) → (suits_change c (shown o (session_ids w) (node_at serial page.tree)) ≡ true)
        × (shown o (session_ids w) (relabelled f (node_at serial page.tree))
        ≡ changed_by c (shown o (session_ids w) (node_at serial page.tree))))
        → IsTold serial c (alone (changed_at serial (relabelled f) page.tree))
    label_told serial f c named live kept fits =
        let b = node_at serial page.tree in
        let at = changed serial (relabelled f) page.tree live in
        let alike : IsAlike b (relabelled f b) = record { serial = refl; kind = kept b.row.label } in
        subst (λ (s : ℕ). IsTold s c (alone (changed_at serial (relabelled f) page.tree))) (serial-live serial page.tree live)
        (tells_by n (alone (changed_at serial (relabelled f) page.tree)) opened_now pushed since c distinct named alike at.1
        (λ o e. fits o))

    pub set_told : (serial : ℕ) (name value : List ℕ) → CanApply page.next (SetAttr serial name value) page.tree
        → IsTold serial (sets name value) (alone (after_tree (SetAttr serial name value) page.tree))
    set_told serial name value can =
        let tests = clear (edit_faults (SetAttr serial name value) page.tree) can.fits in
        label_told serial (with_attribute name value) (sets name value) (not-false _ tests.1.1.0, omega arith) (not-false _ tests.0)
        (λ l. refl)
        (λ o. (not-false _ tests.1.0, shown-sets o (session_ids w) (node_at serial page.tree) name value))

    pub drop_told : (serial : ℕ) (name : List ℕ) → CanApply page.next (DropAttr serial name) page.tree
        → IsTold serial (drops name) (alone (after_tree (DropAttr serial name) page.tree))
    drop_told serial name can =
        let tests = clear (edit_faults (DropAttr serial name) page.tree) can.fits in
        label_told serial (without_attribute name) (drops name) (not-false _ tests.1.1.0, omega arith) (not-false _ tests.0) (λ l. refl)
        (λ o. (not-false _ tests.1.0, shown-drops o (session_ids w) (node_at serial page.tree) name))

    pub text_told : (serial : ℕ) (value : List ℕ) → CanApply page.next (SetText serial value) page.tree
        → IsTold serial (says value) (alone (after_tree (SetText serial value) page.tree))
    text_told serial value can =
        let tests = clear (edit_faults (SetText serial value) page.tree) can.fits in
        label_told serial (with_value value) (says value) (refl, omega arith) (not-false _ tests.0) (λ l. refl)
        (λ o. (not-false _ tests.1.0, shown-says o (session_ids w) (node_at serial page.tree) value))

-- ---- an attach

container_of : (h rest : Bool) → (h && rest) ≡ true → h ≡ true
container_of true rest e = refl
container_of false rest e = e

opens_from : (h a : Bool) → h ≡ true → a ≡ true → cond h a false ≡ true
opens_from h a e f = rw (e, f) refl

module _ (page : PageValue) (valid : IsValid page) (parent before : ℕ) (x : Branch PageRow)
    (can : CanApply page.next (Attach parent before x) page.tree) where
  abbrev pub n2 : Nodes PageRow
  n2 = alone page.tree

  abbrev pub m2 : Nodes PageRow
  m2 = alone (after_tree (Attach parent before x) page.tree)

  abbrev pub p : Branch PageRow
  p = node_at parent page.tree

  pub live : is_live parent page.tree ≡ true
  live = left (is_live parent page.tree) _ (not-false _ (clear (edit_faults (Attach parent before x) page.tree) can.fits).0)

  pub p_serial : p.row.serial ≡ parent
  p_serial = serial-live parent page.tree live

  pub container : holds p.row.label.kind ≡ true
  container = container_of (holds p.row.label.kind) _
      (not-false _ (clear (edit_faults (Attach parent before x) page.tree) can.fits).1.1.1.1.1.0)

  pub at : (depth : ℕ) × At p (with_child before x p) depth n2 m2
  at = changed parent (with_child before x) page.tree live

  pub distinct2 : AreDistinct n2
  distinct2 = distinct-alone page valid

  pub alike2 : IsAlike p (with_child before x p)
  alike2 = record { serial = refl; kind = refl }

  -- the parent's children after the attach
  pub children_after : children_at parent (after_tree (Attach parent before x) page.tree) ≡ put_before before x p.children
  children_after =
      ap (λ (b : Branch PageRow). b.children)
      (turned-node parent (with_child before x) page.tree live
      (whole-after page.next page.tree (whole-valid page valid) (Attach parent before x) can) refl)

  pub x_new : tally row_serial x.row.serial n2 ≡ 0
  x_new =
      let self : cond {A = ℕ} (x.row.serial == x.row.serial) 1 0 ≡ 1 = self_times x.row.serial in
      omega (arith, can.ready.apart x.row.serial (omega arith))

  -- below a node that is not opened only the number of its children changes
  pub attach_counts : (opened_now : Option (ℕ → Bool)) (pushed : List ℕ) (since : ℕ)
      → ((o : ℕ → Bool) → opened_now ≡ Some o → o parent ≡ false)
      → (let w : Session = record { opened = opened_now; pushed = pushed; since = since } in
      Tells (session_ids w parent) (knows w n2 parent)
      (counts (width (children_at parent (after_tree (Attach parent before x) page.tree)))) (view w n2) (view w m2))
  attach_counts opened_now pushed since shut =
      let w : Session = record { opened = opened_now; pushed = pushed; since = since } in
      subst (λ (s : ℕ). Tells (session_ids w s) (knows w n2 s)
      (counts (width (children_at parent (after_tree (Attach parent before x) page.tree)))) (view w n2) (view w m2)) p_serial
      (subst (λ (c : Nodes PageRow). Tells (session_ids w p.row.serial) (knows w n2 p.row.serial) (counts (width c)) (view w n2)
      (view w m2)) (sym children_after)
      (tells_by n2 m2 opened_now pushed since (counts (width (put_before before x p.children))) distinct2 (refl, omega arith) alike2 at.1
      (λ o e. (let shut_p : o p.row.serial ≡ false = ap o p_serial ∙ shut o e in (
        suits-counts o (session_ids w) p (width (put_before before x p.children)) container shut_p,
        shown-counts o (session_ids w) p
            (put_before before x p.children) container shut_p,
      )))))

  module _ (o : ℕ → Bool) (pushed : List ℕ) (since : ℕ) (session : IsSession n2 (session_of o pushed since))
      (open_parent : o parent ≡ true) where
    abbrev i : ℕ → ℕ
    i = id_of pushed since

    abbrev j : ℕ → ℕ
    j = id_of (pushed ++ x.row.serial ∷ []) since

    x_shut : o x.row.serial ≡ false
    x_shut = by (o x.row.serial) refl
      where
        by : (b : Bool) → o x.row.serial ≡ b → b ≡ false
        by true e = absurd (omega (
          arith,
          is_in-times (containers_within None n2) x.row.serial
              (session.opened_set.live x.row.serial e),
          reached-tally None x.row.serial n2,
          x_new,
        ))
        by false e = refl

    ids_stay : (s : ℕ) → 0 < times s (known o n2) → i s ≡ j s
    ids_stay s h =
        let other : times s (x.row.serial ∷ []) ≡ 0 = not_x (x.row.serial == s) refl in
        ap (λ k. since + k) (old_place (last_standing (x.row.serial ∷ []) s) (last_standing (drop since pushed) s)
        (length (drop since pushed)) (place-none (x.row.serial ∷ []) s other)
        ∙ sym (place-append (drop since pushed) (x.row.serial ∷ []) s)
        ∙ ap (λ xs. last_standing xs s) (sym (drop-append-le since pushed (x.row.serial ∷ []) session.since_then)))
      where
        old_place : (q a len : ℕ) → q ≡ 0 → a ≡ cond {A = ℕ} (q == 0) a (len + q)
        old_place q a len e = rw e refl

        not_x : (b : Bool) → (x.row.serial == s) ≡ b → cond {A = ℕ} b 1 0 + 0 ≡ 0
        not_x true e =
            let same : x.row.serial ≡ s = eqb-true x.row.serial s e in
            absurd (omega (arith, known-tally o s n2, h, ap (λ (k : ℕ). tally row_serial k n2) same, x_new))
        not_x false e = refl

    -- the view before has the ids after
    view_before : cut o i n2 ≡ cut o j n2
    view_before = cut-same o o i j (λ s. refl) n2 ids_stay

    open_p : o p.row.serial ≡ true
    open_p = ap o p_serial ∙ open_parent

    open_row : opens o p.row ≡ true
    open_row = opens_from (holds p.row.label.kind) (o p.row.serial) container open_p

    in_view : (seen-at o j alike2 at.1).in_view ≡ true
    in_view = (before_after o j alike2 at.1 (counts 0)).seen session.opened_set.closed
        (containers-live o n2 distinct2 (λ s h e. session.opened_set.live s e)) open_p

    few : (key : Seen → ℕ) (y : ℕ) → tally_in key y (shown o j p) ≤ tally key y (cut o j n2)
    few key y = tally_in-at key y ((before_after o j alike2 at.1 (counts 0)).shows in_view).1

    once : (y : ℕ) → tally seen_id y (cut o j p.children) ≤ 1
    once y = omega (
      arith,
      kids_tally o j p open_row (cut o j n2) few seen_id y,
      ap
          (tally seen_id y) view_before,
      view-ids n2 pushed since distinct2 (Some o) session y,
    )

    above : tally seen_id 0 (cut o j p.children) ≡ 0
    above = omega (
      arith,
      kids_tally o j p open_row (cut o j n2) few seen_id 0,
      ap
          (tally seen_id 0) view_before,
      view-above n2 pushed since distinct2 (Some o) session,
    )

    x_apart : tally row_serial x.row.serial p.children ≡ 0
    x_apart = omega (arith, tally_in-at row_serial x.row.serial at.1, x_new)

    -- below an opened node the new one is shown
    pub attach_inserts : ChangesNode (j parent)
        (inserts (id_before j 0 x.row.serial (children_at parent (after_tree (Attach parent before x) page.tree)))
        (unopened (j x.row.serial) x)) (cut o i n2) (cut o j m2)
    attach_inserts =
        let kids = put_before before x p.children in
        subst (λ (v : Nodes Seen). ChangesNode (j parent)
        (inserts (id_before j 0 x.row.serial (children_at parent (after_tree (Attach parent before x) page.tree)))
        (unopened (j x.row.serial) x)) v (cut o j m2)) (sym view_before)
        (subst (λ (c : Nodes PageRow). ChangesNode (j parent) (inserts (id_before j 0 x.row.serial c) (unopened (j x.row.serial) x))
        (cut o j n2) (cut o j m2)) (sym children_after)
        (subst (λ (s : ℕ). ChangesNode (j s) (inserts (id_before j 0 x.row.serial kids) (unopened (j x.row.serial) x)) (cut o j n2)
        (cut o j m2)) p_serial
        (changes o j alike2 at.1 (inserts (id_before j 0 x.row.serial kids) (unopened (j x.row.serial) x)) (refl, omega arith)
        (suits-inserts o j p open_row before x x_apart x_shut once above)
        (shown-inserts o j p open_row before x x_apart x_shut once above) in_view)))

-- ---- a detach

pub root_of_child : (serial : ℕ) (n : Nodes PageRow) (x : Branch PageRow) → child_of row_serial serial n ≡ Some x → is_root serial n ≡ true
root_of_child serial none x e = cc
root_of_child serial (node r c t) x e = by (r.serial == serial) e (root_of_child serial t x)
  where
    by : (b : Bool) → cond b (Some (record { row = r; children = c })) (child_of row_serial serial t) ≡ Some x
        → (child_of row_serial serial t ≡ Some x → is_root serial t ≡ true) → (b || is_root serial t) ≡ true
    by true e rest = refl
    by false e rest = rest e

held_by : (d h rest : Bool) → (not d && (h && rest)) ≡ true → h ≡ true
held_by true h rest e = let bad : false ≡ true = e in cc
held_by false h rest e = container_of h rest e

module _ (page : PageValue) (valid : IsValid page) (serial : ℕ) (can : CanApply page.next (Detach serial) page.tree) where
  abbrev pub n3 : Nodes PageRow
  n3 = alone page.tree

  abbrev pub m3 : Nodes PageRow
  m3 = alone (after_tree (Detach serial) page.tree)

  abbrev pub x3 : Branch PageRow
  x3 = node_at serial page.tree

  abbrev pub parent3 : ℕ
  parent3 = parent_at serial page.tree

  abbrev pub q : Branch PageRow
  q = node_at parent3 page.tree

  whole3 : Whole page.next n3
  whole3 = whole-valid page valid

  pub live3 : is_live serial page.tree ≡ true
  live3 = not-false _ (clear (edit_faults (Detach serial) page.tree) can.fits).0

  pub part : Parted serial page.tree
  part = parted serial page.tree whole3 live3 (clear (edit_faults (Detach serial) page.tree) can.fits).1.0

  pub q_serial : q.row.serial ≡ parent3
  q_serial = serial-live parent3 page.tree part.live

  inserted : Inserted x3 (taken_out serial q.children) q.children
  inserted = inserted-taken serial x3 q.children (serial-live serial page.tree live3) part.child

  pub container3 : holds q.row.label.kind ≡ true
  container3 =
      let below = (fits-live page.next page.tree whole3 parent3 part.live).2 in
      held_by (is_document x3.row.label.kind) (holds q.row.label.kind) _ (inserted-sound inserted below).1.0.stands

  pub at3 : (depth : ℕ) × At q (without_child serial q) depth n3 m3
  at3 = changed parent3 (without_child serial) page.tree part.live

  pub distinct3 : AreDistinct n3
  distinct3 = distinct-alone page valid

  pub alike3 : IsAlike q (without_child serial q)
  alike3 = record { serial = refl; kind = refl }

  pub children_left : children_at parent3 (after_tree (Detach serial) page.tree) ≡ taken_out serial q.children
  children_left =
      ap (λ (b : Branch PageRow). b.children)
      (turned-node parent3 (without_child serial) page.tree part.live (whole-after page.next page.tree whole3 (Detach serial) can) refl)

  tally_left : (s : ℕ) → tally row_serial s m3 + tally row_serial s (alone x3) ≡ tally row_serial s n3
  tally_left s = omega (arith, tally-at row_serial s at3.1, tally-inserted s inserted)

  -- the nodes that are left are opened as before
  outside : (o : ℕ → Bool) (s : ℕ) → 0 < tally row_serial s m3 → o s ≡ opened_without x3 o s
  outside o s h =
      let gone : tally row_serial s (alone x3) ≡ 0 = omega (arith, tally_left s, distinct3 s, h) in
      and_true (o s) ∙ ap (λ b. o s && not b) (sym (has-absent row_serial s (alone x3) gone))
    where
      and_true : (b : Bool) → b ≡ (b && true)
      and_true true = refl
      and_true false = refl

  view_after : (o : ℕ → Bool) (i : ℕ → ℕ) → cut o i m3 ≡ cut (opened_without x3 o) i m3
  view_after o i = cut-local o (opened_without x3 o) i m3 (outside o)

  view_left : (opened_now : Option (ℕ → Bool)) (pushed : List ℕ) (since : ℕ)
      → (let w : Session = record { opened = opened_now; pushed = pushed; since = since } in view w m3 ≡ view (detached x3 w) m3)
  view_left None pushed since = refl
  view_left (Some o) pushed since = view_after o (id_of pushed since)

  pub detach_counts : (opened_now : Option (ℕ → Bool)) (pushed : List ℕ) (since : ℕ)
      → ((o : ℕ → Bool) → opened_now ≡ Some o → o parent3 ≡ false)
      → (let w : Session = record { opened = opened_now; pushed = pushed; since = since } in
      Tells (session_ids w parent3) (knows w n3 parent3) (counts (width (children_at parent3 (after_tree (Detach serial) page.tree))))
      (view w n3) (view (detached x3 w) m3))
  detach_counts opened_now pushed since shut =
      let w : Session = record { opened = opened_now; pushed = pushed; since = since } in
      subst (λ (v : Nodes Seen). Tells (session_ids w parent3) (knows w n3 parent3)
      (counts (width (children_at parent3 (after_tree (Detach serial) page.tree)))) (view w n3) v) (view_left opened_now pushed since)
      (subst (λ (s : ℕ). Tells (session_ids w s) (knows w n3 s)
      (counts (width (children_at parent3 (after_tree (Detach serial) page.tree)))) (view w n3) (view w m3)) q_serial
      (subst (λ (c : Nodes PageRow). Tells (session_ids w q.row.serial) (knows w n3 q.row.serial) (counts (width c)) (view w n3)
      (view w m3)) (sym children_left)
      (tells_by n3 m3 opened_now pushed since (counts (width (taken_out serial q.children))) distinct3 (refl, omega arith) alike3 at3.1
      (λ o e. (let shut_q : o q.row.serial ≡ false = ap o q_serial ∙ shut o e in (
        suits-counts o (session_ids w) q (width (taken_out serial q.children)) container3 shut_q,
        shown-counts o (session_ids w) q
            (taken_out serial q.children) container3 shut_q,
      ))))))

  module _ (o : ℕ → Bool) (pushed : List ℕ) (since : ℕ) (session : IsSession n3 (session_of o pushed since))
      (open_parent : o parent3 ≡ true) where
    abbrev i3 : ℕ → ℕ
    i3 = id_of pushed since

    open_q : o q.row.serial ≡ true
    open_q = ap o q_serial ∙ open_parent

    open_row3 : opens o q.row ≡ true
    open_row3 = opens_from (holds q.row.label.kind) (o q.row.serial) container3 open_q

    in_view3 : (seen-at o i3 alike3 at3.1).in_view ≡ true
    in_view3 = (before_after o i3 alike3 at3.1 (counts 0)).seen session.opened_set.closed
        (containers-live o n3 distinct3 (λ s h e. session.opened_set.live s e)) open_q

    few3 : (key : Seen → ℕ) (y : ℕ) → tally_in key y (shown o i3 q) ≤ tally key y (cut o i3 n3)
    few3 key y = tally_in-at key y ((before_after o i3 alike3 at3.1 (counts 0)).shows in_view3).1

    once3 : (y : ℕ) → tally seen_id y (cut o i3 q.children) ≤ 1
    once3 y = omega (arith, kids_tally o i3 q open_row3 (cut o i3 n3) few3 seen_id y, view-ids n3 pushed since distinct3 (Some o) session y)

    there3 : is_root serial q.children ≡ true
    there3 = root_of_child serial q.children x3 part.child

    pub detach_removes : ChangesNode (i3 parent3) (removes (i3 serial)) (cut o i3 n3) (cut (opened_without x3 o) i3 m3)
    detach_removes =
        subst (λ (v : Nodes Seen). ChangesNode (i3 parent3) (removes (i3 serial)) (cut o i3 n3) v) (view_after o i3)
        (subst (λ (s : ℕ). ChangesNode (i3 s) (removes (i3 serial)) (cut o i3 n3) (cut o i3 m3)) q_serial
        (changes o i3 alike3 at3.1 (removes (i3 serial)) (refl, omega arith) (suits-removes o i3 q open_row3 serial there3 once3)
        (shown-removes o i3 q open_row3 serial there3 once3) in_view3))
