-- The nearest shown sibling before a node.
use Rattle.std.proofs.Common.{◌≡◌, ℕ, suc, ◌<◌, ◌≤◌, ◌==◌, Bool, true, false, cond, List, [], ◌∷◌, length, Option, Some, None}
use Rattle.std.proofs.Common.{IsSome, unwrap_or, refl, sym, ap, ◌∙◌, arith}
use Rattle.std.specs.Option.{option_map, option_and_then}
use Rattle.std.proofs.lemmas.Bool.{eq-eqb, ne_eqb}
use Rattle.node_tree.specs.Nodes.{Nodes, node, Branch, alone}
use Rattle.node_tree.specs.Keys.{tally}
use Rattle.node_tree.proofs.KeyLemmas.{At-tally, tally_row, tally_below, other_row, stands-find, found_key}
use Rattle.node_tree.proofs.ChangeLemmas.{tally_in-at}
use Rattle.page_tree.specs.Pages.{PageRow, row_serial, PageValue, IsValid, find_in, parent_at}
use Rattle.page_tree.specs.Edits.{children_at}
use Rattle.page_tree.specs.Zippers.{Generation, Zipper, earlier_in, previous_of, first_node, zipper_of, root_of, find_zipper, zipper_at}
use Rattle.page_tree.proofs.ZipperLemmas.{siblings_of, Fits, find-of, of-find, branch-found, serial_above}
use Rattle.page_tree.proofs.SiblingLemmas.{live-of, parent_at-of}
use Rattle.page_tree.proofs.WholeLemmas.{whole-valid}
use Rattle.shown_pages.specs.declared.modes.Mode.{Mode}
use Rattle.shown_pages.specs.Modes.{hidden_in}
use Rattle.shown_pages.specs.ShownPages.{shown_nodes, shown_branch, shown_page}
use Rattle.shown_pages.specs.ShownLaws.{shown_if}
use Rattle.shown_pages.specs.Walks.{serial_before, first_shown}
use Rattle.shown_pages.proofs.FoundLemmas.{Found, found-both, found-shown, focus-at}
use Rattle.shown_pages.proofs.AboveLemmas.{stands-shown}

-- ---- a walk back over siblings

-- how many siblings are left from that one back
abbrev pub left_back : Option Zipper → ℕ
left_back None = 0
left_back (Some z) = suc (length z.before)

left-earlier : (above : List Generation) (before : List (Branch PageRow)) (here : Nodes PageRow)
    → left_back (first_node (earlier_in above before here)) ≡ length before
left-earlier above [] here = refl
left-earlier above (b ∷ before) here = refl

-- each step back leaves one less
pub left-previous : (z : Zipper) (o : Option Zipper) → o ≡ previous_of z → left_back o ≡ length z.before
left-previous z o e = ap left_back e ∙ left-earlier z.above z.before (node z.branch.row z.branch.children z.after)

module _ (mode : Mode) where
  -- the first shown node from that one back
  abbrev pub shown_back : Option Zipper → Option ℕ
  shown_back None = None
  shown_back (Some z) = first_shown mode (z.branch ∷ z.before)

  shown-earlier : (above : List Generation) (before : List (Branch PageRow)) (here : Nodes PageRow)
      → shown_back (first_node (earlier_in above before here)) ≡ first_shown mode before
  shown-earlier above [] here = refl
  shown-earlier above (b ∷ before) here = refl

  pub shown-previous : (z : Zipper) (o : Option Zipper) → o ≡ previous_of z → shown_back o ≡ first_shown mode z.before
  shown-previous z o e = ap shown_back e ∙ shown-earlier z.above z.before (node z.branch.row z.branch.children z.after)

  -- ---- among the parent's children

  -- one tree that has not the serial is passed by, hidden or shown
  passed : (s : ℕ) (last : Option ℕ) (r : PageRow) (c t : Nodes PageRow) → (r.serial == s) ≡ false
      → serial_before last s (shown_nodes mode (node r c t))
      ≡ serial_before (cond (hidden_in mode r.label) last (Some r.serial)) s (shown_nodes mode t)
  passed s last r c t other =
      elim (hidden_in mode r.label) as (λ h. serial_before last s (cond h (shown_nodes mode t)
      (node r (shown_nodes mode c) (shown_nodes mode t)))
      ≡ serial_before (cond h last (Some r.serial)) s (shown_nodes mode t)) [
        | true ↦ refl
        | false ↦ rw other refl
      ]

  -- among trees of which one has the serial, those before it lead to the first shown one of them, the nearest first
  back-to : (s : ℕ) (before : List (Branch PageRow)) (here : Nodes PageRow) → 0 < tally row_serial s here
      → tally row_serial s (siblings_of before here) ≤ 1
      → (tally row_serial s here ≤ 1) × (serial_before None s (shown_nodes mode (siblings_of before here))
      ≡ serial_before (first_shown mode before) s (shown_nodes mode here))
  back-to s [] here some once = (once, refl)
  back-to s (b ∷ before) here some once =
      let k = tally_below row_serial s b.row b.children here in
      let h = back-to s before (node b.row b.children here) (omega arith) once in
      let other = ne_eqb b.row.serial s (other_row row_serial s b.row b.children here (omega arith) h.0) in
      (omega (arith, h.0), h.1 ∙ passed s (first_shown mode before) b.row b.children here other)

  -- the tree of the serial, which is shown, ends the walk
  ends_at : (s : ℕ) (last : Option ℕ) (r : PageRow) (c t : Nodes PageRow) → r.serial ≡ s → hidden_in mode r.label ≡ false
      → serial_before last s (shown_nodes mode (node r c t)) ≡ last
  ends_at s last r c t is shown = rw (shown, eq-eqb r.serial s is) refl

  nearest-among : (s : ℕ) (before : List (Branch PageRow)) (r : PageRow) (c t : Nodes PageRow) → r.serial ≡ s
      → hidden_in mode r.label ≡ false → tally row_serial s (siblings_of before (node r c t)) ≤ 1
      → serial_before None s (shown_nodes mode (siblings_of before (node r c t))) ≡ first_shown mode before
  nearest-among s before r c t is shown once =
      (back-to s before (node r c t) (tally_row row_serial s r c t is) once).1 ∙ ends_at s (first_shown mode before) r c t is shown

  -- ---- in a page

  -- what is found in what is shown is not hidden
  not_hidden : (h : Bool) (x : Branch PageRow) → Some x ≡ cond h None (Some x) → h ≡ false
  not_hidden true x e = absurd (cc)
  not_hidden false x e = refl

  found_at : (o : Option Zipper) (other : Zipper) (x : Branch PageRow) → option_map (λ (z : Zipper). z.branch) o ≡ Some x
      → o ≡ Some (unwrap_or o other)
  found_at None other x e = absurd (cc)
  found_at (Some z) other x e = refl

  module _ (page : PageValue) (valid : IsValid page) (s : ℕ) where
    -- by what is above the node: where nothing is, its parent would have the serial 0
    up : (before : List (Branch PageRow)) (b : Branch PageRow) (t : Nodes PageRow) (above : List Generation) (p : ℕ)
        → b.row.serial ≡ s → hidden_in mode b.row.label ≡ false → p ≡ serial_above above
        → Fits page.tree above (siblings_of before (node b.row b.children t)) → Found mode p page
        → serial_before None s (children_at p (shown_page mode page).tree) ≡ first_shown mode before
    up before b t [] p is shown at fits q =
        let stands = stands-find row_serial p (alone page.tree) q.branch q.in_page in
        let there = At-tally row_serial stands.2 in
        let least = (whole-valid page valid).least q.branch.row.serial there in
        let key = found_key row_serial p (alone page.tree) q.branch q.in_page in
        absurd (omega (arith, least, key, at))
    up before b t (g ∷ above) p is shown at fits q =
        let live = live-of page.tree g.branch.row.serial (zipper_of g above)
        (find-of page.tree valid.distinct (zipper_of g above) fits.1) in
        let same : ◌≡◌ {A = Option (Branch PageRow)} (Some q.branch) (Some g.branch) =
        sym q.in_page ∙ ap (λ x. find_in x page.tree) at ∙ live in
        let row : q.branch.children ≡ siblings_of before (node b.row b.children t) =
        ap (λ (o : Option (Branch PageRow)). (unwrap_or o g.branch).children) same ∙ sym fits.0 in
        let stands = stands-find row_serial p (alone page.tree) q.branch q.in_page in
        let among = tally_in-at row_serial s stands.2 in
        let one = (whole-valid page valid).distinct s in
        let once = ap (λ n. tally row_serial s n) row in
        ap (λ (o : Option (Branch PageRow)). serial_before None s (unwrap_or o (shown_page mode page).tree).children) q.in_shown
        ∙ ap (λ n. serial_before None s (shown_nodes mode n)) row
        ∙ nearest-among s before b.row b.children t is shown (omega (arith, once, among, one))

    -- the first shown one of the siblings before a shown node is the one before it among the shown children of its parent
    pub nearest-shown : IsSome (find_in s (shown_page mode page).tree)
        → IsSome (find_in (parent_at s (shown_page mode page).tree) (shown_page mode page).tree)
        → first_shown mode (zipper_at s page.tree).before
        ≡ serial_before None s (children_at (parent_at s (shown_page mode page).tree) (shown_page mode page).tree)
    nearest-shown live below =
        let z = zipper_at s page.tree in
        let f = found-both mode page s valid live in
        let shown = not_hidden (hidden_in mode f.branch.row.label) (shown_branch mode f.branch)
        (sym f.in_shown ∙ found-shown mode page s valid ∙ ap (option_and_then (shown_if mode)) f.in_page) in
        let at : find_zipper s page.tree ≡ Some (zipper_at s page.tree) = found_at (find_zipper s page.tree) (root_of page.tree) f.branch
        (sym (branch-found s [] [] (alone page.tree)) ∙ f.in_page) in
        let focus = focus-at s page.tree f.branch f.in_page in
        let key = found_key row_serial s (alone page.tree) f.branch f.in_page in
        let above = (stands-shown mode page s valid live).parent ∙ parent_at-of page.tree s z at in
        sym (up z.before z.branch z.after z.above (parent_at s (shown_page mode page).tree)
        (ap (λ (b : Branch PageRow). b.row.serial) focus ∙ key)
        (ap (λ (b : Branch PageRow). hidden_in mode b.row.label) focus ∙ shown) above (of-find page.tree s z at)
        (found-both mode page (parent_at s (shown_page mode page).tree) valid below))
