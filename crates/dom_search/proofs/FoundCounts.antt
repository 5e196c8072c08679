-- How many nodes a query finds: no more than the page has.
use Rattle.std.proofs.Common.{◌≡◌, ℕ, suc, ◌≤◌, Bool, true, false, cond, List, [], ◌∷◌, map, length, ap, sym, ◌∙◌, subst, arith}
use Rattle.std.proofs.lemmas.List.{length-append}
use Rattle.std.specs.List.{filter}
use Rattle.node_tree.specs.Nodes.{Nodes, none, node, Branch, alone, node_count}
use Rattle.page_tree.specs.Pages.{PageRow}
use Rattle.page_tree.specs.Zippers.{Generation, Zipper, serial_of, all_in, below, root_of, zippers}
use Rattle.select_match.specs.Texts.{has_no_byte}
use Rattle.dom_search.specs.Found.{finds, searched_nodes, found_in}
use Rattle.dom_search.proofs.FoundLemmas.{zippers-root}

length-all : (above : List Generation) (before : List (Branch PageRow)) (n : Nodes PageRow) → length (all_in above before n) ≡ node_count n
length-all above before none = omega arith
length-all above before (node r c t) =
    let b : Branch PageRow = record { row = r; children = c } in
    let g : Generation = record { branch = b; before = before; after = t } in
    omega (
      arith,
      length-append (all_in (g ∷ above) [] c) (all_in above (b ∷ before) t),
      length-all (g ∷ above) [] c,
      length-all above (b ∷ before) t,
    )

few : (p : Zipper → Bool) (zs : List Zipper) → length (map serial_of (filter p zs)) ≤ length zs
few p [] = omega arith
few p (z ∷ zs) = at (p z) (few p zs)
  where
    at : (b : Bool) → length (map serial_of (filter p zs)) ≤ length zs
        → length (map serial_of (cond b (z ∷ filter p zs) (filter p zs))) ≤ suc (length zs)
    at true h = omega (arith, h)
    at false h = omega (arith, h)

nodes-few : (tree : Branch PageRow) → length (searched_nodes tree) ≤ node_count (alone tree)
nodes-few tree =
    let all : length (root_of tree ∷ searched_nodes tree) ≡ node_count (alone tree)
    = ap (λ (l : List Zipper). length l) (sym (zippers-root tree)) ∙ length-all [] [] (alone tree) in
    omega (arith, all)

pub found-count : (tree : Branch PageRow) (query : List ℕ) → length (found_in tree query) ≤ node_count (alone tree)
found-count tree query = at (has_no_byte query)
  where
    at : (b : Bool) → length (cond b [] (map serial_of (filter (finds query) (searched_nodes tree)))) ≤ node_count (alone tree)
    at true = omega arith
    at false = omega (arith, few (finds query) (searched_nodes tree), nodes-few tree)
