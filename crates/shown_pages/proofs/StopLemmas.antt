-- The children of a node one after another, of which some are hidden.
use Rattle.std.proofs.Common.{◌≡◌, ℕ, zero, suc, ◌+◌, ◌<◌, ◌≤◌, true, false, cond, Some, None, refl, ap, ◌∙◌, arith}
use Rattle.node_tree.specs.Nodes.{Nodes, none, node, Branch, from, tree_at, width}
use Rattle.page_tree.specs.Pages.{PageRow}
use Rattle.page_tree.proofs.CursorLemmas.{from-next, from-end}
use Rattle.shown_pages.specs.declared.modes.Mode.{Mode}
use Rattle.shown_pages.specs.Modes.{hidden_in}
use Rattle.shown_pages.specs.ShownPages.{shown_nodes}

module _ (mode : Mode) (n : Nodes PageRow) (i : ℕ) where
  module _ (x : Branch PageRow) (inside : i < width n) (at : tree_at i n ≡ Some x) where
    -- the child at that place, shown or hidden, before what is shown behind it
    opened : shown_nodes mode (from i n) ≡ cond (hidden_in mode x.row.label) (shown_nodes mode (from (i + 1) n))
        (node x.row (shown_nodes mode x.children) (shown_nodes mode (from (i + 1) n)))
    opened = ap (shown_nodes mode) (from-next n i x inside at)

    -- a hidden one is passed by
    pub past-hidden : hidden_in mode x.row.label ≡ true → shown_nodes mode (from i n) ≡ shown_nodes mode (from (i + 1) n)
    past-hidden e = opened ∙ rw e refl

    -- a shown one stands next
    pub next-shown : hidden_in mode x.row.label ≡ false
        → shown_nodes mode (from i n) ≡ node x.row (shown_nodes mode x.children) (shown_nodes mode (from (i + 1) n))
    next-shown e = opened ∙ rw e refl

  -- at the end there is none
  pub past-end : width n ≤ i → shown_nodes mode (from i n) ≡ none
  past-end h = ap (shown_nodes mode) (from-end n i h)

-- past the last place there is no tree
pub tree_at-past : (n : Nodes PageRow) (i : ℕ) → width n ≤ i → tree_at i n ≡ None
tree_at-past none i h = refl
tree_at-past (node r c t) zero h = absurd (omega arith)
tree_at-past (node r c t) (suc i) h = tree_at-past t i (omega arith)
