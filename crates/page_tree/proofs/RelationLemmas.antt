-- Parents, ancestors and siblings before as relations between the nodes of a tree.
use Rattle.std.proofs.Common.{◌≡◌, List, [], ◌∷◌, Some, subst, refl, ap, inl, inr}
use Rattle.node_tree.specs.Nodes.{Nodes, none, node, Branch}
use Rattle.page_tree.specs.Members.{IsIn, at_head, in_tail}
use Rattle.page_tree.specs.Pages.{PageRow}
use Rattle.page_tree.specs.Zippers.{Generation, Zipper, generation_of, zipper_of, ancestors, ancestors_in, earlier, earlier_in, later}
use Rattle.page_tree.specs.Zippers.{in_row, children_of, parent_of, all_in, below, zippers}
use Rattle.page_tree.proofs.ZipperLemmas.{IsIn-append, IsIn-append_left, siblings_of, Fits, IsOf-zippers, from_first}

row_first : (above : List Generation) (before : List (Branch PageRow)) (here : Nodes PageRow) (w : Zipper)
    → IsIn w (in_row above before here) → IsIn w (in_row above [] (siblings_of before here))
row_first above [] here w i = i
row_first above (b ∷ before) here w i = row_first above before (node b.row b.children here) w (in_tail _ _ i)

-- a node is one of its parent's children
pub child-parent : (tree : Branch PageRow) (z p : Zipper) → IsIn z (zippers tree) → parent_of z ≡ Some p → IsIn z (children_of p)
child-parent tree z p there e = up z.above (IsOf-zippers tree z there)
    (row_first z.above z.before (node z.branch.row z.branch.children z.after) z (at_head _)) e
  where
    up : (above : List Generation) → Fits tree above (siblings_of z.before (node z.branch.row z.branch.children z.after))
        → IsIn z (in_row above [] (siblings_of z.before (node z.branch.row z.branch.children z.after)))
        → parent_of (record z { above = above }) ≡ Some p → IsIn z (children_of p)
    up [] fits i e = absurd (cc)
    up (g ∷ above) fits i e =
        let same : zipper_of g above ≡ p = cc in
        subst (λ (q : Zipper). IsIn z (children_of q)) same (subst (λ (n : Nodes PageRow). IsIn z (in_row (g ∷ above) [] n)) fits.0 i)

row-above : (above : List Generation) (before : List (Branch PageRow)) (n : Nodes PageRow) (w : Zipper) → IsIn w (in_row above before n)
    → w.above ≡ above
row-above above before none w i = elim i [ ]
row-above above before (node r c t) w (at_head _) = refl
row-above above before (node r c t) w (in_tail _ _ i) = row-above above (record { row = r; children = c } ∷ before) t w i

-- and the parent of its children
pub parent-child : (z p : Zipper) → IsIn z (children_of p) → parent_of z ≡ Some p
parent-child z p i = ap (λ (l : List Generation). parent_of (record z { above = l }))
    (row-above (generation_of p ∷ p.above) [] p.branch.children z i)

below-each : (tree : Branch PageRow) (above : List Generation) (row : Nodes PageRow) → Fits tree above row → (w q : Zipper)
    → IsIn w (all_in above [] row) → IsIn q (ancestors_in above) → IsIn w (below q)
below-each tree [] row fits w q i j = elim j [ ]
below-each tree (g ∷ above) row fits w q i (at_head _) = subst (λ (n : Nodes PageRow). IsIn w (all_in (g ∷ above) [] n)) fits.0 i
below-each tree (g ∷ above) row fits w q i (in_tail _ _ j) =
    let here = subst (λ (n : Nodes PageRow). IsIn w (all_in (g ∷ above) [] n)) fits.0 i in
    below-each tree above _ fits.1 w q
    (from_first above g.before (node g.branch.row g.branch.children g.after) w (in_tail _ _ (IsIn-append_left _ here))) j

-- a node stands below its ancestors
pub below-ancestor : (tree : Branch PageRow) (z q : Zipper) → IsIn z (zippers tree) → IsIn q (ancestors z) → IsIn z (below q)
below-ancestor tree z q there i = below-each tree z.above _ (IsOf-zippers tree z there) z q
    (from_first z.above z.before (node z.branch.row z.branch.children z.after) z (at_head _)) i

above-all : (above : List Generation) (before : List (Branch PageRow)) (n : Nodes PageRow) (w q : Zipper) → IsIn w (all_in above before n)
    → IsIn q (ancestors_in above) → IsIn q (ancestors w)
above-all above before none w q i j = elim i [ ]
above-all above before (node r c t) w q (at_head _) j = j
above-all above before (node r c t) w q (in_tail _ _ i) j =
    let b : Branch PageRow = record { row = r; children = c } in
    let g : Generation = record { branch = b; before = before; after = t } in
    elim (IsIn-append (all_in (g ∷ above) [] c) (all_in above (b ∷ before) t) i) [
      | inl h ↦ above-all (g ∷ above) [] c w q h (in_tail _ _ j)
      | inr h ↦ above-all above (b ∷ before) t w q h j
    ]

-- and is an ancestor of what stands below it
pub ancestor-below : (z q : Zipper) → IsIn z (below q) → IsIn q (ancestors z)
ancestor-below z q i = above-all (generation_of q ∷ q.above) [] q.branch.children z q i (at_head _)

later-each : (above : List Generation) (before : List (Branch PageRow)) (here : Nodes PageRow) (q w : Zipper)
    → IsIn q (earlier_in above before here) → IsIn w (in_row above before here) → IsIn w (later q)
later-each above [] here q w i j = elim i [ ]
later-each above (b ∷ before) here q w (at_head _) j = j
later-each above (b ∷ before) here q w (in_tail _ _ i) j = later-each above before (node b.row b.children here) q w i (in_tail _ _ j)

-- a sibling stands before another where that one stands after it
pub later-earlier : (z q : Zipper) → IsIn q (earlier z) → IsIn z (later q)
later-earlier z q i = later-each z.above z.before (node z.branch.row z.branch.children z.after) q z i (at_head _)

earlier-each : (above : List Generation) (before : List (Branch PageRow)) (n : Nodes PageRow) (q w : Zipper)
    → IsIn w (in_row above before n) → IsIn q (earlier_in above before n) → IsIn q (earlier w)
earlier-each above before none q w i j = elim i [ ]
earlier-each above before (node r c t) q w (at_head _) j = j
earlier-each above before (node r c t) q w (in_tail _ _ i) j = earlier-each above (record { row = r; children = c } ∷ before) t q w i
    (in_tail _ _ j)

pub earlier-later : (z q : Zipper) → IsIn z (later q) → IsIn q (earlier z)
earlier-later z q i = earlier-each q.above (q.branch ∷ q.before) q.after q z i (at_head _)
