-- The children of a known node are asked for.
use Rattle.std.proofs.Common.{◌≡◌, ℕ, suc, ◌+◌, ◌<◌, ◌≤◌, ◌^◌, List, [], ◌∷◌, ◌++◌, All, sum_by, Option, Some, None, unwrap_or, ℤ, pos, sym}
use Rattle.std.proofs.Common.{ap, ◌∙◌, subst, arith}
use Rattle.std.proofs.Math.Nat.{mul-le-mul_left}
use Rattle.node_tree.specs.Nodes.{Branch, alone, node_count}
use Rattle.page_tree.specs.Forms.{max_nodes}
use Rattle.page_tree.specs.Pages.{PageRow, PageValue, IsValid}
use Rattle.node_binding.specs.Openings.{levels_of}
use Rattle.node_binding.specs.Bindings.{BindingValue, opened_in}
use Rattle.node_binding.proofs.StartLemmas.{count-alone}
use Rattle.node_binding.proofs.OpenDownLemmas.{count-found}
use Rattle.cdp_messages.specs.declared.down.ReplyBody.TheVariants.{Nothing}
use Rattle.client_views.specs.Moves.{replied, frames_of_moves}
use Rattle.dom_agent.specs.Keepers.{binding_keeper}
use Rattle.dom_agent.specs.Requests.{Opening, requested, all_opened, known_node, of_children, state_after, answer, opening_moves}
use Rattle.dom_agent.specs.Requests.{frames_told}
use Rattle.dom_agent.specs.Openings.{IsOfContainer}
use Rattle.dom_agent.proofs.FrameLemmas.{served_sent}
use Rattle.dom_agent.proofs.RoomLemmas.{below, requested_containers, requested_count}

known_count : (tree : Branch PageRow) (b : BindingValue) (s : Option ℕ) (x : Branch PageRow)
    → known_node (binding_keeper (alone tree)) tree b s ≡ Some x → node_count x.children ≤ node_count (alone tree)
known_count tree b None x e = cc
known_count tree b (Some s) x e = count-found s (alone tree) x e

module _ (page : PageValue) (valid : IsValid page) (b : BindingValue) (depth : Option ℤ) (s : Option ℕ) (x : Branch PageRow)
    (levels : Option ℕ) (os : List Opening) (found : Some x ≡ known_node (binding_keeper (alone page.tree)) page.tree b s)
    (levels_are : levels ≡ levels_of (unwrap_or depth (pos 1))) (listed : os ≡ requested (opened_in b) levels (alone x)) where
  pub request_containers : All IsOfContainer os
  request_containers = subst (All IsOfContainer) (sym listed) (requested_containers (opened_in b) levels (alone x))

  pub request_room : b.next < 2 ^ 52 → b.next + sum_by below os < 2 ^ 63
  request_room room =
      let few : node_count (alone x) ≤ suc max_nodes = omega (arith, known_count page.tree b s x (sym found), count-alone page valid) in
      omega (
        arith,
        ap (sum_by below) listed,
        requested_count (opened_in b) levels (alone x),
        mul-le-mul_left (node_count (alone x)) few,
      )

  pub request_known : (b1 : BindingValue) → b1 ≡ (all_opened (binding_keeper (alone page.tree)) page.tree os b).state
      → b1 ≡ state_after b (of_children (binding_keeper (alone page.tree)) page.tree depth
      (known_node (binding_keeper (alone page.tree)) page.tree b s) b)
  request_known b1 known =
      known
      ∙ ap (λ l. (all_opened (binding_keeper (alone page.tree)) page.tree l b).state)
      (listed ∙ ap (λ d. requested (opened_in b) d (alone x)) levels_are)
      ∙ ap (λ y. state_after b (of_children (binding_keeper (alone page.tree)) page.tree depth y b)) found

  pub request_sent : (id : ℕ) (out out1 out2 : List ℕ)
      → out1 ≡ out ++ frames_told (all_opened (binding_keeper (alone page.tree)) page.tree os b).shown
      → out2 ≡ out1 ++ frames_of_moves (replied id Nothing ∷ [])
      → out2 ≡ out ++ answer id (of_children (binding_keeper (alone page.tree)) page.tree depth
      (known_node (binding_keeper (alone page.tree)) page.tree b s) b)
  request_sent id out out1 out2 sent reply =
      served_sent (all_opened (binding_keeper (alone page.tree)) page.tree os b).shown id Nothing out out1 out2 sent reply
      ∙ ap (λ l. out ++ frames_of_moves
      (opening_moves (all_opened (binding_keeper (alone page.tree)) page.tree l b).shown ++ replied id Nothing ∷ []))
      (listed ∙ ap (λ d. requested (opened_in b) d (alone x)) levels_are)
      ∙ ap (λ y. out ++ answer id (of_children (binding_keeper (alone page.tree)) page.tree depth y b)) found
