-- What the code of an edit comes to.
use Rattle.std.proofs.Common.{◌≡◌, ℕ, suc, ◌-◌, ◌≤◌, ◌==◌, true, false, cond, List, [], ◌∷◌, ◌++◌, Option, Some, None, IsSome}
use Rattle.std.proofs.Common.{is_some, unwrap_or, Result, Ok, Err, refl, sym, ap, subst, ◌∙◌, arith}
use Rattle.std.specs.Option.{option_map}
use Rattle.std.specs.Result.{OnOk}
use Rattle.std.specs.FinMap as map
use Rattle.node_tree.specs.Nodes.{Nodes, none, node, Branch, alone, width}
use Rattle.node_tree.proofs.KeyLemmas.{Stands, find-stands, stands-below}
use Rattle.node_tree.proofs.ChangeLemmas.{at-new}
use Rattle.page_tree.specs.Pages.{PageRow, PageValue, IsValid, row_serial, find_in, node_at, parent_at}
use Rattle.page_tree.specs.Edits.{after, after_tree, with_child, children_at}
use Rattle.page_tree.specs.EditFaults.{CanApply, CanAttach, first_fault}
use Rattle.page_tree.specs.declared.edits.TreeEdit.TheVariants.{Attach, Detach}
use Rattle.page_tree.proofs.ChildLemmas.{Inserted, front, behind, inserted-before, inserted-taken, stands-inserted}
use Rattle.page_tree.proofs.WholeLemmas.{whole-valid}
use Rattle.page_tree.proofs.EditLemmas.{serial-live, whole-after, valid-after}
use Rattle.page_tree.proofs.BackLemmas.{leads-back, turned-live}
use Rattle.shown_pages.specs.Walks.{serial_before}
use Rattle.node_binding.proofs.StartLemmas.{distinct-alone}
use Rattle.node_binding.specs.Bindings.{BindingValue, opened_in, id_in, with_bound}
use Rattle.client_views.specs.Moves.{inserts, removes, counts, Move, change, frames_of_moves}
use Rattle.dom_agent.specs.Keepers.{Keeper, binding_keeper}
use Rattle.dom_agent.specs.Edits.{Edited, id_before, unopened, told_count, family, insertion, child_came, edited}
use Rattle.dom_agent.proofs.EditsShown as seen

-- ---- results

pub on_ok : {T E P Q : Type 0} (r : Result T E) → OnOk r P → (P → Q) → OnOk r Q
on_ok (Ok x) p f = f p
on_ok (Err e) p f = tt

-- ---- the sibling before

-- the id of the tree before is that of its serial
pub id_before-of : (ids : ℕ → ℕ) (previous : Option ℕ) (serial : ℕ) (n : Nodes PageRow)
    → unwrap_or (option_map ids (serial_before previous serial n)) 0
    ≡ id_before ids (unwrap_or (option_map ids previous) 0) serial n
id_before-of ids previous serial none = refl
id_before-of ids previous serial (node r c t) =
    elim (r.serial == serial) as (λ b. unwrap_or (option_map ids (cond b previous (serial_before (Some r.serial) serial t))) 0
    ≡ cond {A = ℕ} b (unwrap_or (option_map ids previous) 0) (id_before ids (ids r.serial) serial t)) [
      | true ↦ refl
      | false ↦ id_before-of ids (Some r.serial) serial t
    ]

-- ---- a node that has come, as an event tells it

pub came_sent : {E : Type 0} (r : Result (Unit {0}) E) (b : BindingValue) (parent above id previous : ℕ) (x : Branch PageRow)
    (kids : Nodes PageRow) (out out2 : List ℕ) → above ≡ id_in b parent → id ≡ id_in b x.row.serial
    → previous ≡ id_before (id_in b) 0 x.row.serial kids
    → OnOk r (out2 ≡ out ++ frames_of_moves (change above (inserts previous (unopened id x)) ∷ []))
    → (n : Nodes PageRow) → OnOk r (out2 ≡ out ++ frames_of_moves (insertion (binding_keeper n) (family parent x kids) b ∷ []))
came_sent r b parent above id previous x kids out out2 above_is id_is previous_is sent n =
    subst (λ (m : Move). OnOk r (out2 ≡ out ++ frames_of_moves (m ∷ [])))
    (λ k. change (above_is k) (inserts (previous_is k) (unopened (id_is k) x))) sent

-- ---- a node that goes

-- one tree less
width-inserted : {w : Branch PageRow} {n m : Nodes PageRow} → Inserted w n m → width m ≡ suc (width n)
width-inserted (front t) = refl
width-inserted (behind r c t u i) = ap suc (width-inserted i)

module _ (page : PageValue) (valid : IsValid page) (serial : ℕ) (fits : first_fault (Detach serial) page.tree ≡ None) where
  can : CanApply page.next (Detach serial) page.tree
  can = record { fits = fits; ready = tt }

  pub removed_live : (parent : ℕ) → parent ≡ parent_at serial page.tree → IsSome (find_in parent page.tree)
  removed_live parent is = subst (λ (p : ℕ). is_some (find_in p page.tree) ≡ true) (sym is) (seen.part page valid serial can).live

  fewer : width (node_at (parent_at serial page.tree) page.tree).children
      ≡ suc (width (children_at (parent_at serial page.tree) (after_tree (Detach serial) page.tree)))
  fewer =
      let q = node_at (parent_at serial page.tree) page.tree in
      width-inserted (inserted-taken serial (node_at serial page.tree) q.children
      (serial-live serial page.tree (seen.live3 page valid serial can)) (seen.part page valid serial can).child)
      ∙ ap (λ (c : Nodes PageRow). suc (width c)) (sym (seen.children_left page valid serial can))

  pub removed_some : (parent : ℕ) → parent ≡ parent_at serial page.tree → 1 ≤ width (node_at parent page.tree).children
  removed_some parent is = omega (arith, ap (λ (p : ℕ). width (node_at p page.tree).children) is, fewer)

  pub removed_tells : (n : Nodes PageRow) (b : BindingValue) (parent above id : ℕ) → parent ≡ parent_at serial page.tree
      → opened_in b parent ≡ true → above ≡ id_in b parent → id ≡ id_in b serial
      → ◌≡◌ {A = List Move} (change above (removes id) ∷ []) (edited (binding_keeper n) (Detach serial) page.tree b).moves
  removed_tells n b parent above id is open_now above_is id_is =
      let kids = children_at (parent_at serial page.tree) (after_tree (Detach serial) page.tree) in
      let open_there : opened_in b (parent_at serial page.tree) ≡ true = ap (opened_in b) (sym is) ∙ open_now in
      let here : serial ≡ (node_at serial page.tree).row.serial =
      sym (serial-live serial page.tree (seen.live3 page valid serial can)) in
      (λ k. change ((above_is ∙ ap (id_in b) is) k) (removes ((id_is ∙ ap (id_in b) here) k)) ∷ [])
      ∙ sym (ap (λ v. cond v (change (id_in b (parent_at serial page.tree)) (removes (id_in b (node_at serial page.tree).row.serial)) ∷ [])
      (cond (is_some (map.get b.ids (parent_at serial page.tree)))
      (change (id_in b (parent_at serial page.tree)) (counts (width kids)) ∷ []) [])) open_there)

  pub removed_untold : (n : Nodes PageRow) (b : BindingValue) (parent : ℕ) → parent ≡ parent_at serial page.tree
      → opened_in b parent ≡ false → map.get b.ids parent ≡ None
      → ◌≡◌ {A = List Move} [] (edited (binding_keeper n) (Detach serial) page.tree b).moves
  removed_untold n b parent is shut unknown =
      let kids = children_at (parent_at serial page.tree) (after_tree (Detach serial) page.tree) in
      let shut_there : opened_in b (parent_at serial page.tree) ≡ false = ap (opened_in b) (sym is) ∙ shut in
      let unknown_there : map.get b.ids (parent_at serial page.tree) ≡ None = ap (map.get b.ids) (sym is) ∙ unknown in
      sym (ap (λ (o : Option ℕ). cond {A = List Move} (is_some o) (change (unwrap_or o 0) (counts (width kids)) ∷ []) []) unknown_there)
      ∙ sym (ap (λ v. cond v (change (id_in b (parent_at serial page.tree)) (removes (id_in b (node_at serial page.tree).row.serial)) ∷ [])
      (cond (is_some (map.get b.ids (parent_at serial page.tree)))
      (change (id_in b (parent_at serial page.tree)) (counts (width kids)) ∷ []) [])) shut_there)

  pub removed_counts : (n : Nodes PageRow) (b : BindingValue) (parent above len : ℕ) → parent ≡ parent_at serial page.tree
      → opened_in b parent ≡ false → Some above ≡ map.get b.ids parent → len ≡ width (node_at parent page.tree).children
      → ◌≡◌ {A = List Move} (change above (counts (len - 1)) ∷ []) (edited (binding_keeper n) (Detach serial) page.tree b).moves
  removed_counts n b parent above len is shut known len_is =
      let kids = children_at (parent_at serial page.tree) (after_tree (Detach serial) page.tree) in
      let left : len - 1 ≡ width kids = omega (arith, len_is, ap (λ (p : ℕ). width (node_at p page.tree).children) is, fewer) in
      let shut_there : opened_in b (parent_at serial page.tree) ≡ false = ap (opened_in b) (sym is) ∙ shut in
      let known_there : map.get b.ids (parent_at serial page.tree) ≡ Some above = ap (map.get b.ids) (sym is) ∙ sym known in
      (λ k. change above (counts (left k)) ∷ [])
      ∙ sym (ap (λ (o : Option ℕ). cond (is_some o) (change (unwrap_or o 0) (counts (width kids)) ∷ []) []) known_there)
      ∙ sym (ap (λ v. cond v (change (id_in b (parent_at serial page.tree)) (removes (id_in b (node_at serial page.tree).row.serial)) ∷ [])
      (cond (is_some (map.get b.ids (parent_at serial page.tree)))
      (change (id_in b (parent_at serial page.tree)) (counts (width kids)) ∷ []) [])) shut_there)

-- ---- a node that came

module _ (n : Nodes PageRow) (b : BindingValue) (parent : ℕ) (x : Branch PageRow) (kids : Nodes PageRow) where
  abbrev of_binding : Keeper BindingValue
  of_binding = binding_keeper n

  pub came_shut : opened_in b parent ≡ false
      → child_came of_binding (family parent x kids) b ≡ record { state = b; moves = told_count of_binding parent kids b }
  came_shut shut = ap (λ v. cond v
      (record { state = with_bound x.row.serial b; moves = insertion of_binding (family parent x kids) (with_bound x.row.serial b) ∷ [] })
      (record { state = b; moves = told_count of_binding parent kids b })) shut

  pub came_open : opened_in b parent ≡ true
      → child_came of_binding (family parent x kids) b
      ≡ record { state = with_bound x.row.serial b; moves = insertion of_binding (family parent x kids) (with_bound x.row.serial b) ∷ [] }
  came_open is = ap (λ v. cond v
      (record { state = with_bound x.row.serial b; moves = insertion of_binding (family parent x kids) (with_bound x.row.serial b) ∷ [] })
      (record { state = b; moves = told_count of_binding parent kids b })) is

pub inserted_sent : (n : Nodes PageRow) (b b2 : BindingValue) (parent serial : ℕ) (x y : Branch PageRow) (kids kids2 : Nodes PageRow)
    (out out2 : List ℕ) → y ≡ x → kids2 ≡ kids → serial ≡ y.row.serial → b2 ≡ with_bound serial b → opened_in b parent ≡ true
    → out2 ≡ out ++ frames_of_moves (insertion (binding_keeper n) (family parent y kids2) b2 ∷ [])
    → out2 ≡ out ++ frames_of_moves (child_came (binding_keeper n) (family parent x kids) b).moves
inserted_sent n b b2 parent serial x y kids kids2 out out2 node_is kids_are serial_is bound is sent =
    let after_is : b2 ≡ with_bound x.row.serial b = bound ∙ ap (λ (s : ℕ). with_bound s b) serial_is ∙ ap
    (λ (t : Branch PageRow). with_bound t.row.serial b) node_is in
    let moves : ◌≡◌ {A = List Move} (insertion (binding_keeper n) (family parent y kids2) b2 ∷ [])
    (child_came (binding_keeper n) (family parent x kids) b).moves =
    (λ k. insertion (binding_keeper n) (family parent (node_is k) (kids_are k)) (after_is k) ∷ []) ∙ sym
    (ap (λ (d : Edited BindingValue). d.moves) (came_open n b parent x kids is)) in
    sent ∙ ap (λ ms. out ++ frames_of_moves ms) moves

module _ (page : PageValue) (valid : IsValid page) (parent before : ℕ) (x : Branch PageRow)
    (fits : first_fault (Attach parent before x) page.tree ≡ None) (ready : CanAttach page.next x page.tree)
    (page2 : PageValue) (after_is : page2 ≡ after (Attach parent before x) page) where
  can_attach : CanApply page.next (Attach parent before x) page.tree
  can_attach = record { fits = fits; ready = ready }

  abbrev there : PageValue
  there = after (Attach parent before x) page

  valid_after : IsValid there
  valid_after = valid-after page (Attach parent before x) valid can_attach

  found_child : find_in x.row.serial there.tree ≡ Some x
  found_child =
      let at = seen.at page valid parent before x can_attach in
      let p : Branch PageRow = node_at parent page.tree in
      let above : Stands (with_child before x p) (alone there.tree) = (at.0, alone there.tree, at-new at.1) in
      find-stands row_serial x (alone there.tree)
      (stands-below (with_child before x p) x (alone there.tree) above (stands-inserted (inserted-before before x p.children)))
      (distinct-alone there valid_after x.row.serial)

  pub came_parent : IsSome (find_in parent page2.tree)
  came_parent =
      subst (λ (y : PageValue). is_some (find_in parent y.tree) ≡ true) (sym after_is)
      (turned-live parent (with_child before x) page.tree (seen.live page valid parent before x can_attach)
      (whole-after page.next page.tree (whole-valid page valid) (Attach parent before x) can_attach) refl)

  pub came_child : (serial : ℕ) → serial ≡ x.row.serial → IsSome (find_in serial page2.tree)
  came_child serial is =
      subst (λ (y : PageValue). is_some (find_in serial y.tree) ≡ true) (sym after_is)
      (subst (λ (s : ℕ). is_some (find_in s there.tree) ≡ true) (sym is) (ap (λ (o : Option (Branch PageRow)). is_some o) found_child))

  pub came_under : (serial : ℕ) → serial ≡ x.row.serial → parent_at serial page2.tree ≡ parent
  came_under serial is =
      let back = (leads-back page (Attach parent before x) page.next valid can_attach (omega arith)).edit_back in
      let under : parent_at x.row.serial there.tree ≡ parent = cc in
      (λ i. parent_at (is i) (after_is i).tree) ∙ under

  pub came_same : (n : Nodes PageRow) (b : BindingValue) (serial : ℕ) → serial ≡ x.row.serial
      → child_came (binding_keeper n) (family parent (node_at serial page2.tree) (children_at parent page2.tree)) b
      ≡ edited (binding_keeper n) (Attach parent before x) page.tree b
  came_same n b serial is =
      ap (λ (y : PageValue). child_came (binding_keeper n) (family parent (node_at serial y.tree) (children_at parent y.tree)) b) after_is
      ∙ ap (λ (s : ℕ). child_came (binding_keeper n) (family parent (node_at s there.tree) (children_at parent there.tree)) b) is
      ∙ ap (λ (o : Option (Branch PageRow)). child_came (binding_keeper n) (family parent (unwrap_or o there.tree)
      (children_at parent there.tree)) b) found_child
