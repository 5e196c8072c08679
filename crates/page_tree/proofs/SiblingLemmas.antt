-- The parent and the siblings of a node, as a zipper has them.
use Rattle.std.proofs.Common.{◌≡◌, ℕ, zero, suc, ◌+◌, ◌<◌, ◌≤◌, ◌==◌, false, List, [], ◌∷◌, length, Option, Some, None, unwrap_or, refl}
use Rattle.std.proofs.Common.{sym, ap, ◌∙◌, arith}
use Rattle.std.specs.Option.{option_map}
use Rattle.node_tree.specs.Nodes.{Nodes, none, node, Branch, alone, width, node_count}
use Rattle.node_tree.proofs.NodeLemmas.{width_le-node_count}
use Rattle.page_tree.specs.Pages.{PageRow, find_in, parent_at}
use Rattle.page_tree.specs.Zippers.{Generation, Zipper, serial_of, earlier, earlier_in, later, in_row, find_zipper, zipper_of, parent_of}
use Rattle.page_tree.proofs.ZipperLemmas.{AreApart, siblings_of, Fits, IsOf, find-of, of-parent, branch-found, parent-found, serial_above}

pub some_there : (n : ℕ) → false ≡ (n == 0) → 0 < n
some_there zero e = absurd (cc)
some_there (suc n) e = omega arith

-- ---- parents

-- the parent's serial is that of what stands above, where there is one
pub parent_at-of : (tree : Branch PageRow) (x : ℕ) (z : Zipper) → find_zipper x tree ≡ Some z → parent_at x tree ≡ serial_above z.above
parent_at-of tree x z e = ap (λ o. unwrap_or o 0)
    (parent-found x [] [] (alone tree) ∙ ap (λ (o : Option Zipper). option_map (λ z. serial_above z.above) o) e)

-- a node of the tree is found by its serial
pub live-of : (tree : Branch PageRow) (x : ℕ) (z : Zipper) → find_zipper x tree ≡ Some z → find_in x tree ≡ Some z.branch
live-of tree x z e = branch-found x [] [] (alone tree) ∙ ap (λ (o : Option Zipper). option_map (λ z. z.branch) o) e

-- what a node has above it, by the serial that the page gives: none at 0, and else the node of that serial
pub data ParentBy (tree : Branch PageRow) (z : Zipper) (serial : ℕ) : Type 0 where
  at_top : serial ≡ 0 → parent_of z ≡ None → ParentBy tree z serial
  under : (p : Zipper) → parent_of z ≡ Some p → serial_of p ≡ serial → find_zipper serial tree ≡ Some p → ParentBy tree z serial

pub parent_by : (tree : Branch PageRow) → AreApart tree → (z : Zipper) → IsOf tree z → ParentBy tree z (serial_above z.above)
parent_by tree apart z of = up z.above (of-parent tree z) refl
  where
    up : (above : List Generation) → ((p : Zipper) → IsOf tree z → parent_of z ≡ Some p → IsOf tree p) → above ≡ z.above
        → ParentBy tree z (serial_above above)
    up [] step is = at_top refl (ap (λ (l : List Generation). parent_of (record z { above = l })) (sym is))
    up (g ∷ above) step is =
        let leads : parent_of z ≡ Some (zipper_of g above) = ap (λ (l : List Generation). parent_of (record z { above = l })) (sym is) in
        under (zipper_of g above) leads refl (find-of tree apart (zipper_of g above) (step (zipper_of g above) of leads))

-- ---- how many siblings there are

pub length-earlier_in : (above : List Generation) (before : List (Branch PageRow)) (here : Nodes PageRow)
    → length (earlier_in above before here) ≡ length before
length-earlier_in above [] here = refl
length-earlier_in above (b ∷ before) here = ap suc (length-earlier_in above before (node b.row b.children here))

length-in_row : (above : List Generation) (before : List (Branch PageRow)) (n : Nodes PageRow) → length (in_row above before n) ≡ width n
length-in_row above before none = refl
length-in_row above before (node r c t) = ap suc (length-in_row above (record { row = r; children = c } ∷ before) t)

node_count-siblings : (before : List (Branch PageRow)) (here : Nodes PageRow)
    → length before + node_count here ≤ node_count (siblings_of before here)
node_count-siblings [] here = omega arith
node_count-siblings (b ∷ before) here = omega (arith, node_count-siblings before (node b.row b.children here))

-- no node of a tree has more below it than the tree
node_count-fits : (tree : Branch PageRow) (above : List Generation) (row : Nodes PageRow) → Fits tree above row
    → node_count row ≤ suc (node_count tree.children)
node_count-fits tree [] row fits = omega (arith, ap (λ (n : Nodes PageRow). node_count n) fits)
node_count-fits tree (g ∷ above) row fits =
    omega (
      arith,
      ap (λ (n : Nodes PageRow). node_count n) fits.0,
      node_count-fits tree above _ fits.1,
      node_count-siblings g.before
          (node g.branch.row g.branch.children g.after),
    )

pub few-siblings : (tree : Branch PageRow) (z : Zipper) → IsOf tree z → length (earlier z) + length (later z) ≤ node_count tree.children
few-siblings tree z fits =
    omega (
      arith,
      length-earlier_in z.above z.before (node z.branch.row z.branch.children z.after),
      length-in_row z.above
          (z.branch ∷ z.before) z.after,
      width_le-node_count z.after,
      node_count-fits tree z.above _ fits,
      node_count-siblings z.before
          (node z.branch.row z.branch.children z.after),
    )
