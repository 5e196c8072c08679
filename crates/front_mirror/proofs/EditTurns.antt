-- What panels are told of an edit that nothing is wrong with.
use Rattle.std.proofs.Common.{◌≡◌, ℕ, true, false, Option, Some, None, IsSome, List, refl, sym, ap, ◌∙◌, subst, unwrap_or}
use Rattle.std.specs.Option.{option_map_or}
use Rattle.node_tree.specs.Nodes.{Nodes, Branch, branch_count, tree_at}
use Rattle.node_tree.specs.Keys.{find}
use Rattle.node_tree.specs.Labels.{is_formed_label}
use Rattle.node_tree.specs.Seen.{Seen, seen_id}
use Rattle.node_tree.proofs.KeyLemmas.{find-child}
use Rattle.client_views.specs.Views.{IsMirror}
use Rattle.client_views.specs.Moves.{Change, removes, suits_change, has_tree}
use Rattle.front_mirror.specs.Shown.{known_at, no_node}
use Rattle.number_map.specs.Places.{number_place}
use Rattle.front_mirror.specs.Tables.{root_ids}
use Rattle.front_mirror.specs.Edits.{is_ready, can_change, with_changed}
use Rattle.front_mirror.specs.declared.panels.Change.{Change as PanelChange}
use Rattle.front_mirror.specs.declared.panels.Change.TheVariants.{Removed}
use Rattle.front_mirror.specs.Panels.{TreeTurns}
use Rattle.front_mirror.specs.PanelTold.{tree_place, panel_change}
use Rattle.client_views.proofs.BoolLemmas.{and_left}
use Rattle.front_mirror.proofs.PanelTurns.{told_turns, goes}

-- the node that changes
pub record ReadyNode (v : Nodes Seen) (id : ℕ) (c : Change) : Type 0 where
  pub branch : Branch Seen
  pub found : find seen_id id v ≡ Some branch
  pub suits : suits_change c branch ≡ true

module _ (v : Nodes Seen) (id : ℕ) (c : Change) (ready : is_ready id c v ≡ true) where
  ready_at : (o : Option (Branch Seen)) → find seen_id id v ≡ o → option_map_or (can_change c) o false ≡ true → ReadyNode v id c
  ready_at None is e = absurd cc
  ready_at (Some b) is e = record { branch = b; found = is; suits = and_left (suits_change c b) (is_formed_label b.row.label) e }

  pub ready_node : ReadyNode v id c
  ready_node = ready_at (find seen_id id v) refl ready

  known_is : known_at id v ≡ ready_node.branch
  known_is = ap (λ (o : Option (Branch Seen)). unwrap_or o no_node) ready_node.found

  pub ready_known : IsSome (find seen_id id v)
  ready_known = subst (λ (o : Option (Branch Seen)). IsSome o) (sym ready_node.found) refl

  pub ready_suits : suits_change c (known_at id v) ≡ true
  ready_suits = ap (suits_change c) known_is ∙ ready_node.suits

  pub ready_turns : (told : PanelChange) (tree : Nodes Seen) → told ≡ panel_change id c (known_at id v) → tree ≡ with_changed id c v
      → TreeTurns v told tree
  ready_turns told tree is after =
      let found : find seen_id id v ≡ Some (known_at id v) = ready_node.found ∙ ap (λ (b : Branch Seen). Some b) (sym known_is) in
      let t : TreeTurns v (panel_change id c (known_at id v)) (with_changed id c v) = told_turns id v (known_at id v) c found ready_suits in
      subst (λ (x : PanelChange). TreeTurns v x tree) (sym is)
      (subst (λ (n : Nodes Seen). TreeTurns v (panel_change id c (known_at id v)) n) (sym after) t)

-- ---- a child that leaves

module _ (v : Nodes Seen) (mirror : IsMirror v) (id child : ℕ) (known : IsSome (find seen_id id v))
    (has : has_tree child (known_at id v).children ≡ true) where
  found_at : (o : Option (Branch Seen)) → find seen_id id v ≡ o → IsSome o → find seen_id id v ≡ Some (known_at id v)
  found_at None is k = absurd cc
  found_at (Some b) is k = is ∙ ap (λ (o : Option (Branch Seen)). Some (unwrap_or o no_node)) (sym is)

  child_found : find seen_id child v ≡ Some (goes child (known_at id v).children has).tree
  child_found =
      let g = goes child (known_at id v).children has in
      subst (λ x. find seen_id x v ≡ Some g.tree) g.named
      (find-child seen_id v mirror.view.ids id (known_at id v) (found_at (find seen_id id v) refl known)
      (tree_place child (known_at id v).children)
      g.tree g.there)

  pub child_known : IsSome (find seen_id child v)
  child_known = subst (λ (o : Option (Branch Seen)). IsSome o) (sym child_found) refl

  pub removal_is : (ids : List ℕ) (place size : ℕ) → ids ≡ root_ids (known_at id v).children → place ≡ number_place child ids
      → size ≡ branch_count (known_at child v)
      → ◌≡◌ {A = PanelChange} (Removed id place child size) (panel_change id (removes child) (known_at id v))
  removal_is ids place size is at counted =
      let g = goes child (known_at id v).children has in
      let p : place ≡ tree_place child (known_at id v).children = at ∙ ap (number_place child) is in
      let s : size ≡ option_map_or (λ (w : Branch Seen). branch_count w)
      (tree_at (tree_place child (known_at id v).children) (known_at id v).children) 0 =
      counted ∙ ap (λ (o : Option (Branch Seen)). branch_count (unwrap_or o no_node)) child_found
      ∙ ap (λ (o : Option (Branch Seen)). option_map_or (λ (w : Branch Seen). branch_count w) o 0) (sym g.there)
      in
      λ i. Removed id (p i) child (s i)
