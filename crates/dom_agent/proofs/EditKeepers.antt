-- By a binding that stands for a session each edit of the page comes to the same.
use Rattle.std.proofs.Common.{◌≡◌, ◌≢◌, ℕ, ◌+◌, ◌<◌, ◌==◌, Bool, true, false, cond, ◌||◌, List, [], ◌∷◌, Option, Some, None, is_some}
use Rattle.std.proofs.Common.{unwrap_or, refl, sym, ap, subst, ◌∙◌, arith}
use Rattle.std.proofs.lemmas.Bool.{and_parts, not-false, eq-eqb}
use Rattle.std.specs.FinMap as map
use Rattle.node_tree.specs.Nodes.{Nodes, none, node, Branch, alone}
use Rattle.node_tree.specs.Keys.{first_of, find}
use Rattle.node_tree.specs.Labels.{holds, is_document, is_formed_label}
use Rattle.node_tree.proofs.KeyLemmas.{stands-find}
use Rattle.page_tree.specs.Pages.{PageRow, PageValue, IsValid, row_serial, node_at, parent_at}
use Rattle.page_tree.specs.Edits.{with_attribute, without_attribute, with_value, with_child, put_before, after, children_at}
use Rattle.page_tree.specs.EditFaults.{is_live, kind_at, CanApply, edit_faults}
use Rattle.page_tree.specs.declared.edits.TreeEdit.{TreeEdit}
use Rattle.page_tree.specs.declared.edits.TreeEdit.TheVariants.{SetAttr, DropAttr, SetText, Attach, Detach}
use Rattle.page_tree.proofs.WholeLemmas.{whole-valid}
use Rattle.page_tree.proofs.EditLemmas.{clear, found-live, serial-live, whole-after, valid-after}
use Rattle.page_tree.proofs.BackLemmas.{turned-live, turned-node}
use Rattle.node_binding.specs.Counts.{times}
use Rattle.node_binding.specs.Cuts.{opens, known}
use Rattle.node_binding.specs.Sessions.{Session, IsSession, session_of, is_open, knows, session_ids, attached}
use Rattle.node_binding.specs.Bindings.{BindingValue, Stands, opened_in, id_in, with_bound}
use Rattle.node_binding.specs.Changes.{BindingStandsFor}
use Rattle.node_binding.proofs.StartLemmas.{distinct-alone}
use Rattle.node_binding.proofs.SessionLemmas.{times-known}
use Rattle.node_binding.proofs.CutLemmas.{ids-stands}
use Rattle.node_binding.proofs.OpeningLemmas.{AreDistinct}
use Rattle.node_binding.proofs.InViewLemmas.{in_view, known-in_view}
use Rattle.node_binding.proofs.ChangedLemmas.{IsAlike, containers-live}
use Rattle.node_binding.proofs.ChangesLemmas.{binds_child, passes_attach, forgets, passes_label}
use Rattle.client_views.specs.Moves.{Change, inserts, removes, Move, change}
use Rattle.dom_agent.specs.Keepers.{session_keeper, binding_keeper}
use Rattle.dom_agent.specs.Edits.{Edited, id_before, unopened, family, insertion}
use Rattle.dom_agent.specs.EditLaws.{session_edited, binding_edited, EditKeepsBound, SameEditMoves}
use Rattle.dom_agent.proofs.ShownLemmas.{is_root, seen-at}
use Rattle.dom_agent.proofs.EditsShown as seen

-- the binding stands for the session, and tells the same
record Alike (page : PageValue) (p : Edited Session) (q : Edited BindingValue) : Type 0 where
  stands : BindingStandsFor page p.state q.state
  moves : q.moves ≡ p.moves

both_ways : {A B : Type 0} (P : A → B → Type 0) (a c : Bool) (x y : A) (u v : B) → c ≡ a → (a ≡ true → P x u) → (a ≡ false → P y v)
    → P (cond a x y) (cond c u v)
both_ways P true true x y u v e f g = f refl
both_ways P true false x y u v e f g = cc
both_ways P false true x y u v e f g = cc
both_ways P false false x y u v e f g = g refl

-- a change is told where the node is known
told_alike : (k : Bool) (id : ℕ) (o : Option ℕ) (c : Change) → o ≡ cond k (Some id) None
    → cond (is_some o) (change (unwrap_or o 0) c ∷ []) [] ≡ cond k (change id c ∷ []) []
told_alike k id o c e = ap (λ (r : Option ℕ). cond (is_some r) (change (unwrap_or r 0) c ∷ []) []) e ∙ by k
  where
    by : (v : Bool) → cond (is_some (cond v (Some id) None)) (change (unwrap_or (cond v (Some id) None) 0) c ∷ []) []
        ≡ cond v (change id c ∷ []) []
    by true = refl
    by false = refl

-- ---- known nodes

-- an opened node is known
opened_known : (n : Nodes PageRow) (o : ℕ → Bool) (pushed : List ℕ) (since : ℕ) (b : Branch PageRow) → AreDistinct n
    → IsSession n (session_of o pushed since) → find row_serial b.row.serial n ≡ Some b → o b.row.serial ≡ true
    → 0 < times b.row.serial (known o n)
opened_known n o pushed since b distinct session found is =
    let st = stands-find row_serial b.row.serial n b found in
    let alike : IsAlike b b = record { serial = refl; kind = refl } in
    let s = seen-at o (λ k. k) alike st.2 in
    let shown : s.in_view ≡ true = s.seen session.opened_set.closed
    (containers-live o n distinct (λ k h e. session.opened_set.live k e)) is in
    omega (arith, s.known (distinct b.row.serial), ap (λ v. cond {A = ℕ} v 1 0) shown)

-- the roots are known
root_known : (o : ℕ → Bool) (s : ℕ) (n : Nodes PageRow) → is_root s n ≡ true → 0 < times s (known o n)
root_known o s none e = cc
root_known o s (node r c t) e = rw (times-known o (λ k. k) s r c t) (by (r.serial == s) e (root_known o s t))
  where
    by : (v : Bool) → (v || is_root s t) ≡ true → (is_root s t ≡ true → 0 < times s (known o t))
        → 0 < cond {A = ℕ} v 1 0 + (cond {A = ℕ} (opens o r) (times s (known o c)) 0 + times s (known o t))
    by true e rest = omega arith
    by false e rest = let h : 0 < times s (known o t) = rest e in omega arith

-- what is a child of an opened node has its id in the binding
module _ (n : Nodes PageRow) (distinct : AreDistinct n) (o : ℕ → Bool) (pushed : List ℕ) (since : ℕ)
    (session : IsSession n (session_of o pushed since)) (b : BindingValue) (stands : Stands n (session_of o pushed since) b)
    (parent : Branch PageRow) (found : find row_serial parent.row.serial n ≡ Some parent) (container : holds parent.row.label.kind ≡ true)
    (is : o parent.row.serial ≡ true) where
  known_parent : 0 < times parent.row.serial (known o n)
  known_parent = opened_known n o pushed since parent distinct session found is

  parent_id : id_in b parent.row.serial ≡ session_ids (session_of o pushed since) parent.row.serial
  parent_id = ids-stands n o pushed since b stands parent.row.serial known_parent

  open_row : opens o parent.row ≡ true
  open_row = rw (container, is) refl

  child_id : (s : ℕ) → is_root s parent.children ≡ true → id_in b s ≡ session_ids (session_of o pushed since) s
  child_id s e =
      ids-stands n o pushed since b stands s
      (known-in_view o parent (in_view o parent n distinct found known_parent) open_row s (root_known o s parent.children e))

-- the sibling before is the same
id_before-same : (i j : ℕ → ℕ) (serial : ℕ) (n : Nodes PageRow) (p q : ℕ) → p ≡ q → ((s : ℕ) → is_root s n ≡ true → i s ≡ j s)
    → id_before i p serial n ≡ id_before j q serial n
id_before-same i j serial none p q e h = e
id_before-same i j serial (node r c t) p q e h =
    let rest : id_before i (i r.serial) serial t ≡ id_before j (j r.serial) serial t =
    id_before-same i j serial t (i r.serial) (j r.serial) (h r.serial (ap (λ v. v || is_root r.serial t) (eq-eqb r.serial r.serial refl)))
    (λ s k. h s (or_second (r.serial == s) (is_root s t) k)) in
    λ k. cond {A = ℕ} (r.serial == serial) (e k) (rest k)
  where
    or_second : (a b : Bool) → b ≡ true → (a || b) ≡ true
    or_second true b e = refl
    or_second false b e = e

put_root : (before : ℕ) (x : Branch PageRow) (n : Nodes PageRow) → is_root x.row.serial (put_before before x n) ≡ true
put_root before x none = ap (λ v. v || false) (eq-eqb x.row.serial x.row.serial refl)
put_root before x (node r c t) = by (r.serial == before) (put_root before x t)
  where
    or_second : (a b : Bool) → b ≡ true → (a || b) ≡ true
    or_second true b e = refl
    or_second false b e = e

    by : (v : Bool) → is_root x.row.serial (put_before before x t) ≡ true
        → is_root x.row.serial (cond v (node x.row x.children (node r c t)) (node r c (put_before before x t))) ≡ true
    by true rest = ap (λ v. v || is_root x.row.serial (node r c t)) (eq-eqb x.row.serial x.row.serial refl)
    by false rest = or_second (r.serial == x.row.serial) (is_root x.row.serial (put_before before x t)) rest

-- ---- the edits

label_alike : (page : PageValue) (w : Session) (b : BindingValue) (serial : ℕ) (c : Change) (page2 : PageValue) → BindingStandsFor page w b
    → BindingStandsFor page2 w b
    → Alike page2 (record { state = w; moves = cond (knows w (alone page.tree) serial) (change (session_ids w serial) c ∷ []) [] })
    (record { state = b; moves = cond (is_some (map.get b.ids serial)) (change (id_in b serial) c ∷ []) [] })
label_alike page w b serial c page2 for for_after = record {
  stands = for_after;
  moves = told_alike (knows w (alone page.tree) serial) (session_ids w serial) _ c (for.stands.ids_are serial);
}

module _ (page : PageValue) (valid : IsValid page) (parent before : ℕ) (x : Branch PageRow)
    (can : CanApply page.next (Attach parent before x) page.tree) where
  abbrev e2 : TreeEdit
  e2 = Attach parent before x

  abbrev page2 : PageValue
  page2 = after e2 page

  valid2 : IsValid page2
  valid2 = valid-after page e2 valid can

  live : is_live parent page.tree ≡ true
  live = seen.live page valid parent before x can

  live2 : is_live parent page2.tree ≡ true
  live2 = turned-live parent (with_child before x) page.tree live (whole-after page.next page.tree (whole-valid page valid) e2 can) refl

  abbrev p2 : Branch PageRow
  p2 = node_at parent page2.tree

  p2_serial : p2.row.serial ≡ parent
  p2_serial = serial-live parent page2.tree live2

  found2 : find row_serial p2.row.serial (alone page2.tree) ≡ Some p2
  found2 = subst (λ (s : ℕ). find row_serial s (alone page2.tree) ≡ Some p2) (sym p2_serial) (found-live parent page2.tree live2)

  container2 : holds p2.row.label.kind ≡ true
  container2 =
      ap (λ (b : Branch PageRow). holds b.row.label.kind)
      (turned-node parent (with_child before x) page.tree live (whole-after page.next page.tree (whole-valid page valid) e2 can) refl)
      ∙ seen.container page valid parent before x can

  x_root : is_root x.row.serial p2.children ≡ true
  x_root = ap (is_root x.row.serial) (seen.children_after page valid parent before x can) ∙ put_root before x
      (node_at parent page.tree).children

  inserted_alike : (o : ℕ → Bool) (pushed : List ℕ) (since : ℕ) (b : BindingValue) → o parent ≡ true
      → BindingStandsFor page (session_of o pushed since) b
      → (let w : Session = session_of o pushed since in
      let z : Session = attached x.row.serial w in
      let y : BindingValue = with_bound x.row.serial b in
      let kids : Nodes PageRow = children_at parent page2.tree in
      Alike page2 (record { state = z; moves = insertion (session_keeper (alone page.tree)) (family parent x kids) z ∷ [] })
      (record { state = y; moves = insertion (binding_keeper (alone page.tree)) (family parent x kids) y ∷ [] }))
  inserted_alike o pushed since b is for =
      let w : Session = session_of o pushed since in
      let z : Session = attached x.row.serial w in
      let y : BindingValue = with_bound x.row.serial b in
      let kids : Nodes PageRow = children_at parent page2.tree in
      let stood : BindingStandsFor page2 z y = binds_child page parent before x w b valid valid2 is for in
      let distinct2 : AreDistinct (alone page2.tree) = distinct-alone page2 valid2 in
      let is2 : o p2.row.serial ≡ true = ap o p2_serial ∙ is in
      let top : id_in y p2.row.serial
      ≡ session_ids z p2.row.serial = parent_id
      (alone page2.tree) distinct2 o z.pushed since stood.session y stood.stands p2 found2 container2 is2 in
      let child : (s : ℕ) → is_root s p2.children ≡ true
      → id_in y s ≡ session_ids z s = child_id
      (alone page2.tree) distinct2 o z.pushed since stood.session y stood.stands p2 found2 container2 is2 in
      let top_id : id_in y parent ≡ session_ids z parent = subst (λ (s : ℕ). id_in y s ≡ session_ids z s) p2_serial top in
      let prior : id_before (id_in y) 0 x.row.serial kids
      ≡ id_before (session_ids z) 0 x.row.serial kids = id_before-same (id_in y) (session_ids z) x.row.serial kids 0 0 refl child in
      let x_id : id_in y x.row.serial ≡ session_ids z x.row.serial = child x.row.serial x_root in
      record { stands = stood; moves = λ k. change (top_id k) (inserts (prior k) (unopened (x_id k) x)) ∷ [] }

  attach_alike : (opened : Option (ℕ → Bool)) (pushed : List ℕ) (since : ℕ) (b : BindingValue)
      → BindingStandsFor page (record { opened = opened; pushed = pushed; since = since }) b
      → Alike page2 (session_edited e2 page (record { opened = opened; pushed = pushed; since = since })) (binding_edited e2 page b)
  attach_alike opened pushed since b for =
      both_ways (Alike page2) (is_open opened parent) (opened_in b parent) _ _ _ _ (for.stands.opened_is parent)
      (λ is. inserted opened for is)
      (λ shut. (let w : Session = record { opened = opened; pushed = pushed; since = since } in
      label_alike page w b parent _ page2 for (passes_attach page parent before x w b valid valid2 live shut for)))
    where
      inserted : (opened : Option (ℕ → Bool)) → BindingStandsFor page (record { opened = opened; pushed = pushed; since = since }) b
          → is_open opened parent ≡ true
          → (let z : Session = attached x.row.serial (record { opened = opened; pushed = pushed; since = since }) in
          let y : BindingValue = with_bound x.row.serial b in
          let kids : Nodes PageRow = children_at parent page2.tree in
          Alike page2 (record { state = z; moves = insertion (session_keeper (alone page.tree)) (family parent x kids) z ∷ [] })
          (record { state = y; moves = insertion (binding_keeper (alone page.tree)) (family parent x kids) y ∷ [] }))
      inserted None for is = cc
      inserted (Some o) for is = inserted_alike o pushed since b is for

module _ (page : PageValue) (valid : IsValid page) (serial : ℕ) (can : CanApply page.next (Detach serial) page.tree) where
  abbrev e3 : TreeEdit
  e3 = Detach serial

  abbrev page3 : PageValue
  page3 = after e3 page

  abbrev x3 : Branch PageRow
  x3 = node_at serial page.tree

  abbrev parent3 : ℕ
  parent3 = parent_at serial page.tree

  abbrev q : Branch PageRow
  q = node_at parent3 page.tree

  q_serial : q.row.serial ≡ parent3
  q_serial = seen.q_serial page valid serial can

  x_serial : x3.row.serial ≡ serial
  x_serial = serial-live serial page.tree (seen.live3 page valid serial can)

  found3 : find row_serial q.row.serial (alone page.tree) ≡ Some q
  found3 = subst (λ (s : ℕ). find row_serial s (alone page.tree) ≡ Some q) (sym q_serial)
      (found-live parent3 page.tree (seen.part page valid serial can).live)

  x_child : is_root x3.row.serial q.children ≡ true
  x_child = subst (λ (s : ℕ). is_root s q.children ≡ true) (sym x_serial)
      (seen.root_of_child serial q.children x3 (seen.part page valid serial can).child)

  -- it is not the document
  other : serial ≢ page.tree.row.serial
  other same =
      let apart : is_document (kind_at serial page.tree) ≡ false = (clear (edit_faults (Detach serial) page.tree) can.fits).1.0 in
      let top : is_document page.tree.row.label.kind
      ≡ true = (and_parts (is_document page.tree.row.label.kind) (is_formed_label page.tree.row.label) valid.root).0 in
      let here : node_at serial page.tree
      ≡ page.tree = ap (λ (v : Bool). unwrap_or
      (cond v (Some page.tree) (first_of (find row_serial serial page.tree.children) None)) page.tree)
      (eq-eqb page.tree.row.serial serial (sym same)) in
      let bad : is_document page.tree.row.label.kind
      ≡ false = ap (λ (b : Branch PageRow). is_document b.row.label.kind) (sym here) ∙ apart in
      cc

  removed_alike : (o : ℕ → Bool) (pushed : List ℕ) (since : ℕ) (b : BindingValue) → o parent3 ≡ true
      → BindingStandsFor page (session_of o pushed since) b
      → (let w : Session = session_of o pushed since in
      ◌≡◌ {A = List Move} (change (id_in b parent3) (removes (id_in b x3.row.serial)) ∷ [])
      (change (session_ids w parent3) (removes (session_ids w x3.row.serial)) ∷ []))
  removed_alike o pushed since b is for =
      let w : Session = session_of o pushed since in
      let is3 : o q.row.serial ≡ true = ap o q_serial ∙ is in
      let distinct : AreDistinct (alone page.tree) = distinct-alone page valid in
      let top : id_in b q.row.serial
      ≡ session_ids w q.row.serial = parent_id (alone page.tree) distinct o pushed since for.session b for.stands q found3
      (seen.container3 page valid serial can) is3 in
      let top_id : id_in b parent3 ≡ session_ids w parent3 = subst (λ (s : ℕ). id_in b s ≡ session_ids w s) q_serial top in
      let x_id : id_in b x3.row.serial
      ≡ session_ids w x3.row.serial = child_id (alone page.tree) distinct o pushed since for.session b for.stands q found3
      (seen.container3 page valid serial can) is3 x3.row.serial x_child in
      λ k. change (top_id k) (removes (x_id k)) ∷ []

  detach_alike : (opened : Option (ℕ → Bool)) (pushed : List ℕ) (since : ℕ) (b : BindingValue)
      → BindingStandsFor page (record { opened = opened; pushed = pushed; since = since }) b
      → Alike page3 (session_edited e3 page (record { opened = opened; pushed = pushed; since = since })) (binding_edited e3 page b)
  detach_alike opened pushed since b for =
      let w : Session = record { opened = opened; pushed = pushed; since = since } in
      record {
        stands = forgets page serial w b valid (seen.live3 page valid serial can) other for;
        moves = both_ways (λ (p q : List Move). q ≡ p) (is_open opened parent3) (opened_in b parent3) _ _ _ _ (for.stands.opened_is parent3)
            (λ is. removed opened for is)
            (λ shut. told_alike (knows w (alone page.tree) parent3) (session_ids w parent3) _ _ (for.stands.ids_are parent3));
      }
    where
      removed : (opened : Option (ℕ → Bool)) → BindingStandsFor page (record { opened = opened; pushed = pushed; since = since }) b
          → is_open opened parent3 ≡ true
          → (let w : Session = record { opened = opened; pushed = pushed; since = since } in
          ◌≡◌ {A = List Move} (change (id_in b parent3) (removes (id_in b x3.row.serial)) ∷ [])
          (change (session_ids w parent3) (removes (session_ids w x3.row.serial)) ∷ []))
      removed None for is = cc
      removed (Some o) for is = removed_alike o pushed since b is for

-- ---- the laws

edit_alike : (page : PageValue) (e : TreeEdit) (w : Session) (b : BindingValue) → IsValid page → CanApply page.next e page.tree
    → BindingStandsFor page w b → Alike (after e page) (session_edited e page w) (binding_edited e page b)
edit_alike page (SetAttr serial name value) w b valid can for =
    label_alike page w b serial _ (after (SetAttr serial name value) page) for
    (passes_label page serial (with_attribute name value) w b (λ l. refl) valid
    (not-false _ (clear (edit_faults (SetAttr serial name value) page.tree) can.fits).0) for)
edit_alike page (DropAttr serial name) w b valid can for =
    label_alike page w b serial _ (after (DropAttr serial name) page) for
    (passes_label page serial (without_attribute name) w b (λ l. refl) valid
    (not-false _ (clear (edit_faults (DropAttr serial name) page.tree) can.fits).0) for)
edit_alike page (SetText serial value) w b valid can for =
    label_alike page w b serial _ (after (SetText serial value) page) for
    (passes_label page serial (with_value value) w b (λ l. refl) valid
    (not-false _ (clear (edit_faults (SetText serial value) page.tree) can.fits).0) for)
edit_alike page (Attach parent before x) w b valid can for = attach_alike page valid parent before x can w.opened w.pushed w.since b for
edit_alike page (Detach serial) w b valid can for = detach_alike page valid serial can w.opened w.pushed w.since b for

pub edit_keeps_bound : EditKeepsBound
edit_keeps_bound page e w b valid can for = (edit_alike page e w b valid can for).stands

pub same_edit_moves : SameEditMoves
same_edit_moves page e w b valid can for = (edit_alike page e w b valid can for).moves
