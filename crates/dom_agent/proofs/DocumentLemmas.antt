-- The document is opened and told piece by piece.
use Rattle.std.proofs.Common.{◌≡◌, ℕ, ◌+◌, ◌<◌, List, [], ◌∷◌, ◌++◌, All, sum_by, Option, append_assoc, append-nil, sym, ap, ◌∙◌}
use Rattle.std.proofs.Common.{subst, arith}
use Rattle.std.proofs.Math.Nat.{mul-le-mul_left}
use Rattle.node_tree.specs.Levels.{most_told}
use Rattle.node_tree.specs.Numbers.{drawn_before_call, drawn_before_nodes, drawn_limit}
use Rattle.node_tree.specs.Nodes.{Branch, alone, node_count}
use Rattle.node_tree.specs.Seen.{Seen}
use Rattle.page_tree.specs.Pages.{PageRow, PageValue, IsValid}
use Rattle.node_binding.specs.Cuts.{known}
use Rattle.node_binding.specs.Openings.{above, containers_within}
use Rattle.node_binding.specs.Bindings.{BindingValue, opened_in, id_in, cleared, all_opened as containers_opened, started}
use Rattle.node_binding.specs.Deals.{capped, dealt, more_told}
use Rattle.node_binding.proofs.BoundLemmas.{opened-next, bound-next}
use Rattle.node_binding.proofs.Known.{length-known}
use Rattle.node_binding.proofs.StartLemmas.{count-alone}
use Rattle.pipe_frames.specs.Frames.{framed}
use Rattle.client_views.specs.Moves.{root, move_text, frames_of_moves}
use Rattle.dom_agent.specs.Keepers.{Keeper, binding_keeper}
use Rattle.dom_agent.specs.Openings.{IsOfContainer}
use Rattle.dom_agent.specs.Requests.{Opening, Showing, all_opened, shown, with_document, state_after, answer, opening_moves, frames_told}
use Rattle.dom_agent.proofs.RoomLemmas.{below, dealt_containers, dealt_count}

-- ---- the further pieces

module _ (page : PageValue) (valid : IsValid page) (d : Option ℕ) (os : List Opening)
    (listed : os ≡ dealt more_told most_told d (alone page.tree)) where
  pub pieces_containers : All IsOfContainer os
  pieces_containers = subst (All IsOfContainer) (sym listed) (dealt_containers more_told most_told d (alone page.tree))

  pub pieces_room : (next : ℕ) → next < drawn_before_nodes → next + sum_by below os < drawn_limit
  pieces_room next room =
      omega (
        arith,
        ap (sum_by below) listed,
        dealt_count more_told most_told d (alone page.tree),
        count-alone page valid,
        mul-le-mul_left (node_count (alone page.tree)) (count-alone page valid),
      )

-- ---- the document

-- the first piece draws no more ids than the page has nodes
pub started_room : (page : PageValue) → IsValid page → (d : Option ℕ) (b b1 : BindingValue) → b1 ≡ started d (alone page.tree) b
    → b.next < drawn_before_call → b1.next < drawn_before_nodes
started_room page valid d b b1 begun room =
    omega (
      arith,
      ap (λ (m : BindingValue). m.next) begun,
      bound-next (known (above d (alone page.tree)) (alone page.tree))
          (containers_opened (containers_within d (alone page.tree)) (cleared b)),
      opened-next (containers_within d (alone page.tree)) (cleared b),
      length-known (above d (alone page.tree)) (alone page.tree),
      count-alone page valid,
    )

-- the reply, and behind it the pieces
pieces_sent : (id : ℕ) (b : Branch Seen) (xs : List Showing) (out out1 out2 : List ℕ) → out1 ≡ out ++ frames_of_moves (root id b ∷ [])
    → out2 ≡ out1 ++ frames_told xs → out2 ≡ out ++ frames_of_moves (root id b ∷ opening_moves xs)
pieces_sent id b xs out out1 out2 first later =
    later
    ∙ ap (λ l. l ++ frames_told xs) first
    ∙ append_assoc out (frames_of_moves (root id b ∷ [])) (frames_told xs)
    ∙ ap (λ l. out ++ (l ++ frames_told xs)) (append-nil (framed (move_text (root id b))))

module _ (tree : Branch PageRow) (d e : Option ℕ) (b b1 : BindingValue) (begun : b1 ≡ started e (alone tree) b)
    (levels : e ≡ capped most_told d) where
  abbrev keeper : Keeper BindingValue
  keeper = binding_keeper (alone tree)

  abbrev pieces : List Opening
  pieces = dealt more_told most_told d (alone tree)

  begun_is : b1 ≡ started (capped most_told d) (alone tree) b
  begun_is = begun ∙ ap (λ f. started f (alone tree) b) levels

  pub document_known : (b2 : BindingValue) → b2 ≡ (all_opened keeper tree pieces b1).state
      → b2 ≡ state_after b (with_document keeper tree d b)
  document_known b2 opened = opened ∙ ap (λ (m : BindingValue). (all_opened keeper tree pieces m).state) begun_is

  pub document_sent : (x : Branch PageRow) (id : ℕ) (out out1 out2 : List ℕ) → x ≡ tree
      → out1 ≡ out ++ frames_of_moves (root id (shown (opened_in b1) (id_in b1) x) ∷ [])
      → out2 ≡ out1 ++ frames_told (all_opened keeper tree pieces b1).shown
      → out2 ≡ out ++ answer id (with_document keeper tree d b)
  document_sent x id out out1 out2 same first later =
      pieces_sent id (shown (opened_in b1) (id_in b1) x) (all_opened keeper tree pieces b1).shown out out1 out2 first later
      ∙ ap (λ (y : Branch PageRow). out ++ frames_of_moves (root id (shown (opened_in b1) (id_in b1) y)
      ∷ opening_moves (all_opened keeper tree pieces b1).shown)) same
      ∙ ap (λ (m : BindingValue). out ++ frames_of_moves (root id (shown (opened_in m) (id_in m) tree)
      ∷ opening_moves (all_opened keeper tree pieces m).shown)) begun_is
