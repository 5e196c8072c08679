-- No push takes an id back.
use Rattle.std.proofs.Common.{◌≡◌, ℕ, ◌≤◌, List, [], ◌∷◌, ap, arith, Option}
use Rattle.node_tree.specs.Nodes.{Nodes, Branch, alone}
use Rattle.page_tree.specs.Pages.{PageRow}
use Rattle.node_binding.specs.Bindings.{BindingValue, opened_down, opened_in}
use Rattle.node_binding.specs.Bindings as bindings
use Rattle.node_binding.specs.Openings.{less, levelled, containers_within}
use Rattle.node_binding.proofs.BoundLemmas.{bound-next, opened-next}
use Rattle.dom_agent.specs.Keepers.{binding_keeper}
use Rattle.dom_agent.specs.Requests.{Opening, Pushes, all_opened, pushing, pushed, all_pushed}
use Rattle.dom_agent.proofs.PushLemmas.{all_pushed-cons}

opened_down-grows : (d : Option ℕ) (x : Branch PageRow) (b : BindingValue) → b.next ≤ (opened_down d x b).next
opened_down-grows d x b =
    omega (
      arith,
      bound-next (levelled (less d) x.children) (bindings.all_opened (containers_within d (alone x)) b),
      opened-next (containers_within d (alone x)) b,
    )

opened-grow : (xs : List Opening) (n : Nodes PageRow) (d : Branch PageRow) (b : BindingValue)
    → b.next ≤ (all_opened (binding_keeper n) d xs b).state.next
opened-grow [] n d b = omega arith
opened-grow (x ∷ xs) n d b =
    let after : BindingValue = opened_down x.levels x.node b in
    omega (arith, opened_down-grows x.levels x.node b, opened-grow xs n d after)

pub pushes-grow : (tree : Branch PageRow) (ss : List ℕ) (b : BindingValue)
    → b.next ≤ (all_pushed (binding_keeper (alone tree)) tree ss b).progress.state.next
pushes-grow tree [] b = omega arith
pushes-grow tree (s ∷ ss) b =
    let done : BindingValue = (pushed (binding_keeper (alone tree)) tree s b).state in
    let same : (all_pushed (binding_keeper (alone tree)) tree (s ∷ ss) b).progress.state.next
    ≡ (all_pushed (binding_keeper (alone tree)) tree ss done).progress.state.next =
    ap (λ (p : Pushes BindingValue). p.progress.state.next) (all_pushed-cons tree s ss b) in
    let first : b.next ≤ done.next = opened-grow (pushing (opened_in b) s (alone tree)) (alone tree) tree b in
    omega (arith, same, first, pushes-grow tree ss done)
