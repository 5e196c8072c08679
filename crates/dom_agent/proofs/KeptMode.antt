-- No command and no edit changes the mode of a binding.
use Rattle.std.proofs.Common.{◌≡◌, ℕ, ℤ, pos, unwrap_or, Bool, true, false, cond, List, [], ◌∷◌, Option, Some, None, Result, Ok, Err, refl}
use Rattle.std.proofs.Common.{◌∙◌}
use Rattle.std.proofs.Common.{◌+◌, ◌≤◌, arith}
use Rattle.node_tree.specs.Nodes.{Nodes, Branch, alone}
use Rattle.node_tree.specs.Keys.{has}
use Rattle.node_tree.specs.Labels.{is_element}
use Rattle.page_tree.specs.Pages.{PageRow, row_serial, PageValue, node_at}
use Rattle.page_tree.specs.Edits.{after_tree, children_at}
use Rattle.page_tree.specs.declared.edits.TreeEdit.{TreeEdit}
use Rattle.page_tree.specs.declared.edits.TreeEdit.TheVariants.{SetAttr, DropAttr, SetText, Attach, Detach}
use Rattle.shown_pages.specs.ShownPages.{shown_page}
use Rattle.shown_pages.specs.ShownEdits.{shown_edit}
use Rattle.node_binding.specs.Cuts.{known}
use Rattle.node_binding.specs.Openings.{less, levels_of, levelled, containers_within, above}
use Rattle.node_binding.specs.Bindings.{BindingValue, cleared, started, opened_down, opened_in, with_bound, all_forgotten}
use Rattle.node_binding.specs.Bindings as bindings
use Rattle.node_binding.specs.Deals.{capped, dealt, more_told}
use Rattle.node_binding.proofs.BoundLemmas.{bound-mode, opened-mode}
use Rattle.node_binding.proofs.ForgetLemmas.{forgotten-mode, forgotten-next}
use Rattle.node_tree.specs.Levels.{most_told}
use Rattle.cdp_messages.specs.declared.dom_ask.DomAsk.TheVariants.{GetDocument, RequestChildNodes, PushByPath, PushBySerials, QuerySelector}
use Rattle.cdp_messages.specs.declared.dom_ask.DomAsk.TheVariants.{QuerySelectorAll, GetAttributes, DescribeNode}
use Rattle.cdp_messages.specs.declared.command.Why.{Why}
use Rattle.cdp_messages.specs.declared.command.Why.TheVariants.{NotPushed, NotElement}
use Rattle.cdp_messages.specs.declared.down.ReplyBody.TheVariants.{Attributes}
use Rattle.dom_agent.specs.Keepers.{Keeper, binding_keeper}
use Rattle.dom_agent.specs.Paths.{node_at_path}
use Rattle.dom_agent.specs.Queries.{Query, first_matching, all_matching}
use Rattle.dom_agent.specs.Requests.{Opening, Outcome, refused, all_opened, pushed, and_id, all_pushed, with_first, of_query, of_children}
use Rattle.dom_agent.specs.Requests.{of_path, of_attributes, of_description, only_replied, first_asked}
use Rattle.dom_agent.specs.Requests.{all_asked, with_ids, pushing, state_after, requested}
use Rattle.dom_agent.specs.Edits.{Family, family, Edited, child_came, insertion, told_count}
use Rattle.dom_agent.specs.EditLaws.{binding_edited}
use Rattle.dom_agent.specs.ModeEdits.{edited_if, ShownEditKeepsMode}
use Rattle.dom_agent.specs.Laws.{CommandKeepsMode, PushKeepsMode}

started-mode : (d : Option ℕ) (n : Nodes PageRow) (b : BindingValue) → (started d n b).mode ≡ b.mode
started-mode d n b =
    bound-mode (known (above d n) n) (bindings.all_opened (containers_within d n) (cleared b))
    ∙ opened-mode (containers_within d n) (cleared b)

opened_down-mode : (d : Option ℕ) (x : Branch PageRow) (b : BindingValue) → (opened_down d x b).mode ≡ b.mode
opened_down-mode d x b =
    bound-mode (levelled (less d) x.children) (bindings.all_opened (containers_within d (alone x)) b)
    ∙ opened-mode (containers_within d (alone x)) b

-- the outcome keeps the mode of that binding
abbrev Keeps : BindingValue → Outcome BindingValue → Type 0
Keeps b o = (state_after b o).mode ≡ b.mode

module _ (document : Branch PageRow) where
  abbrev k : Keeper BindingValue
  k = binding_keeper (alone document)

  openings_keep : (xs : List Opening) (b : BindingValue) → (all_opened k document xs b).state.mode ≡ b.mode
  openings_keep [] b = refl
  openings_keep (x ∷ xs) b = openings_keep xs (opened_down x.levels x.node b) ∙ opened_down-mode x.levels x.node b

  push_keeps : (s : ℕ) (b : BindingValue) → (pushed k document s b).state.mode ≡ b.mode
  push_keeps s b = openings_keep (pushing (opened_in b) s (alone document)) b

  pushes_keep : (ss : List ℕ) (b : BindingValue) → (all_pushed k document ss b).progress.state.mode ≡ b.mode
  pushes_keep [] b = refl
  pushes_keep (s ∷ ss) b =
      let first = pushed k document s b in
      elim (has row_serial s (alone document)) as (λ v. (cond v
      (and_id k document (k.id_of first.state s) first (all_pushed k document ss first.state))
      (and_id k document 0 (record { state = b; shown = [] }) (all_pushed k document ss b))).progress.state.mode ≡ b.mode) [
        | true ↦ pushes_keep ss first.state ∙ push_keeps s b
        | false ↦ pushes_keep ss b
      ]

  begun_keeps : (v : Bool) (b : BindingValue) (o : Outcome BindingValue) → Keeps b o → Keeps b (cond v o (refused NotPushed))
  begun_keeps true b o kept = kept
  begun_keeps false b o kept = refl

  children_keep : (depth : Option ℤ) (o : Option (Branch PageRow)) (b : BindingValue) → Keeps b (of_children k document depth o b)
  children_keep depth None b = refl
  children_keep depth (Some x) b = openings_keep (requested (k.is_open b) (levels_of (unwrap_or depth (pos 1))) (alone x)) b

  path_keeps : (o : Option (Branch PageRow)) (b : BindingValue) → Keeps b (of_path k document o b)
  path_keeps None b = refl
  path_keeps (Some x) b = push_keeps x.row.serial b

  found_keeps : (o : Option ℕ) (b : BindingValue) → Keeps b (with_first k document o b)
  found_keeps None b = refl
  found_keeps (Some s) b = push_keeps s b

  query_keeps : (asks : Query → BindingValue → Outcome BindingValue) (q : Result Query Why) (b : BindingValue)
      → ((x : Query) → Keeps b (asks x b)) → Keeps b (of_query k document asks q b)
  query_keeps asks (Err why) b kept = refl
  query_keeps asks (Ok q) b kept = kept q

  attributes_keep : (o : Option (Branch PageRow)) (b : BindingValue) → Keeps b (of_attributes k document o b)
  attributes_keep None b = refl
  attributes_keep (Some x) b =
      elim (is_element x.row.label.kind) as (λ v. Keeps b (cond v (only_replied k document (Attributes x.row.label.attributes) b)
      (refused NotElement))) [
        | true ↦ refl
        | false ↦ refl
      ]

  description_keeps : (depth : Option ℤ) (o : Option (Branch PageRow)) (b : BindingValue) → Keeps b (of_description k document depth o b)
  description_keeps depth None b = refl
  description_keeps depth (Some x) b = refl

pub command_keeps_mode : CommandKeepsMode
command_keeps_mode page whole (GetDocument depth pierce) b =
    let d : Option ℕ = levels_of (unwrap_or depth (pos 1)) in
    openings_keep page.tree (dealt more_told most_told d (alone page.tree)) (started (capped most_told d) (alone page.tree) b)
    ∙ started-mode (capped most_told d) (alone page.tree) b
command_keeps_mode page whole (RequestChildNodes id depth pierce) b = children_keep page.tree depth _ b
command_keeps_mode page whole (PushByPath path) b =
    begun_keeps page.tree (opened_in b page.tree.row.serial) b
    (of_path (binding_keeper (alone page.tree)) page.tree (node_at_path path page.tree) b)
    (path_keeps page.tree (node_at_path path page.tree) b)
command_keeps_mode page whole (PushBySerials serials) b =
    let k = binding_keeper (alone page.tree) in
    begun_keeps page.tree (opened_in b page.tree.row.serial) b (with_ids k page.tree (all_pushed k page.tree serials b))
    (pushes_keep page.tree serials b)
command_keeps_mode page whole (QuerySelector id text) b =
    query_keeps page.tree (first_asked (binding_keeper (alone page.tree)) page.tree whole) _ b
    (λ q. found_keeps page.tree (first_matching q.selectors q.root whole) b)
command_keeps_mode page whole (QuerySelectorAll id text) b =
    query_keeps page.tree (all_asked (binding_keeper (alone page.tree)) page.tree whole) _ b
    (λ q. pushes_keep page.tree (all_matching q.selectors q.root whole) b)
command_keeps_mode page whole (GetAttributes id) b = attributes_keep page.tree _ b
command_keeps_mode page whole (DescribeNode id serial depth pierce) b = description_keeps page.tree depth _ b

pub push_keeps_mode : PushKeepsMode
push_keeps_mode page serial b = push_keeps page.tree serial b

-- ---- an edit

came_keeps : (n : Nodes PageRow) (f : Family) (b : BindingValue) → (child_came (binding_keeper n) f b).state.mode ≡ b.mode
came_keeps n f b =
    elim (opened_in b f.parent) as (λ v. (cond {A = Edited BindingValue} v
    (let z = with_bound f.child.row.serial b in record { state = z; moves = insertion (binding_keeper n) f z ∷ [] })
    (record { state = b; moves = told_count (binding_keeper n) f.parent f.children b })).state.mode ≡ b.mode) [
      | true ↦ refl
      | false ↦ refl
    ]

edit_keeps : (page : PageValue) (e : TreeEdit) (b : BindingValue) → (binding_edited e page b).state.mode ≡ b.mode
edit_keeps page (SetAttr serial name value) b = refl
edit_keeps page (DropAttr serial name) b = refl
edit_keeps page (SetText serial value) b = refl
edit_keeps page (Attach parent before x) b =
    came_keeps (alone page.tree) (family parent x (children_at parent (after_tree (Attach parent before x) page.tree))) b
edit_keeps page (Detach serial) b = forgotten-mode (alone (node_at serial page.tree)) b

pub edit_if_keeps : (page : PageValue) (o : Option TreeEdit) (b : BindingValue)
    → (edited_if (λ e. binding_edited e page) o b).state.mode ≡ b.mode
edit_if_keeps page None b = refl
edit_if_keeps page (Some e) b = edit_keeps page e b

pub shown_edit_keeps_mode : ShownEditKeepsMode
shown_edit_keeps_mode mode page e b = edit_if_keeps (shown_page mode page) (shown_edit mode e page.tree) b

-- ---- at most one id is drawn by an edit

came_next : (n : Nodes PageRow) (f : Family) (b : BindingValue) → (child_came (binding_keeper n) f b).state.next ≤ b.next + 1
came_next n f b =
    elim (opened_in b f.parent) as (λ v. (cond {A = Edited BindingValue} v
    (let z = with_bound f.child.row.serial b in record { state = z; moves = insertion (binding_keeper n) f z ∷ [] })
    (record { state = b; moves = told_count (binding_keeper n) f.parent f.children b })).state.next ≤ b.next + 1) [
      | true ↦ omega arith
      | false ↦ omega arith
    ]

edit_next : (page : PageValue) (e : TreeEdit) (b : BindingValue) → (binding_edited e page b).state.next ≤ b.next + 1
edit_next page (SetAttr serial name value) b = omega arith
edit_next page (DropAttr serial name) b = omega arith
edit_next page (SetText serial value) b = omega arith
edit_next page (Attach parent before x) b =
    came_next (alone page.tree) (family parent x (children_at parent (after_tree (Attach parent before x) page.tree))) b
edit_next page (Detach serial) b =
    let same : (binding_edited (Detach serial) page b).state.next ≡ b.next = forgotten-next (alone (node_at serial page.tree)) b in
    omega (arith, same)

pub edit_if_next : (page : PageValue) (o : Option TreeEdit) (b : BindingValue)
    → (edited_if (λ e. binding_edited e page) o b).state.next ≤ b.next + 1
edit_if_next page None b = omega arith
edit_if_next page (Some e) b = edit_next page e b
