-- Copies of trees: those so far, and those that are left.
use Rattle.std.proofs.Common.{◌≡◌, ℕ, ◌+◌, ◌<◌, List, [], ◌∷◌, ◌++◌, Some, sym, ap, ◌∙◌}
use Rattle.node_tree.specs.Nodes.{Nodes, none, Branch, nodes_of, from, tree_at, width, beside}
use Rattle.node_tree.proofs.NodeLemmas.{from-zero, beside-none, beside_assoc, nodes_of-append}
use Rattle.page_tree.specs.Pages.{PageRow}
use Rattle.page_tree.proofs.CursorLemmas.{from-next}

pub copies-start : (n : Nodes PageRow) (done : List (Branch PageRow)) → done ≡ [] → beside (nodes_of done) (from 0 n) ≡ n
copies-start n done empty = ap (λ (l : List (Branch PageRow)). beside (nodes_of l) (from 0 n)) empty ∙ from-zero n

pub copies-turn : (n : Nodes PageRow) (i : ℕ) (b : Branch PageRow) → i < width n → tree_at i n ≡ Some b
    → (done new : List (Branch PageRow)) (below : Nodes PageRow) (tree : Branch PageRow)
    → beside (nodes_of done) (from i n) ≡ n → below ≡ b.children → tree ≡ record { row = b.row; children = below } → new ≡ done ++ tree ∷ []
    → beside (nodes_of new) (from (i + 1) n) ≡ n
copies-turn n i b inside at done new below tree so_far below_is tree_is pushed =
    let rest = from (i + 1) n in
    let same : tree ≡ b = tree_is ∙ ap (λ (m : Nodes PageRow). record { row = b.row; children = m }) below_is in
    ap (λ (l : List (Branch PageRow)). beside (nodes_of l) rest) (pushed ∙ ap (λ (t : Branch PageRow). done ++ t ∷ []) same)
    ∙ ap (λ (m : Nodes PageRow). beside m rest) (nodes_of-append done (b ∷ []))
    ∙ beside_assoc (nodes_of done) (nodes_of (b ∷ [])) rest
    ∙ ap (λ (m : Nodes PageRow). beside (nodes_of done) m) (sym (from-next n i b inside at))
    ∙ so_far

pub copies-end : (n : Nodes PageRow) (i : ℕ) (done : List (Branch PageRow)) → from i n ≡ none → beside (nodes_of done) (from i n) ≡ n
    → nodes_of done ≡ n
copies-end n i done ended so_far = sym (beside-none (nodes_of done)) ∙ ap (λ (m : Nodes PageRow). beside (nodes_of done) m)
    (sym ended) ∙ so_far
