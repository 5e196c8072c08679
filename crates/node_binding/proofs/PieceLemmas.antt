-- The openings of a deal, one tree after another.
use Rattle.std.proofs.Common.{◌≡◌, ℕ, zero, suc, ◌≤◌, ◌&&◌, not, cond, List, [], ◌++◌}
use Rattle.std.proofs.Common.{append_assoc, append-nil}
use Rattle.std.proofs.Common.{Option, refl, sym, ap, ◌∙◌, arith}
use Rattle.node_tree.specs.Nodes.{Nodes, none, node, Branch, alone}
use Rattle.node_tree.specs.Labels.{holds}
use Rattle.page_tree.specs.Pages.{PageRow}
use Rattle.node_binding.specs.Openings.{less, is_spent}
use Rattle.node_binding.specs.Deals.{Opening, smaller, dealt}
use Rattle.node_binding.specs.Pieces.{begun, left_below}

pub smaller-less : (k d : ℕ) → d ≤ k → smaller k d ≡ d
smaller-less zero d h = omega arith
smaller-less (suc k) zero h = refl
smaller-less (suc k) (suc d) h = ap suc (smaller-less k d (omega arith))

pub smaller-more : (k d : ℕ) → k ≤ d → smaller k d ≡ k
smaller-more zero d h = refl
smaller-more (suc k) zero h = absurd (omega arith)
smaller-more (suc k) (suc d) h = ap suc (smaller-more k d (omega arith))

module _ (m : ℕ) where
  -- the first tree, and then the others
  pub dealt-node : (left : ℕ) (d : Option ℕ) (x : Branch PageRow) (t : Nodes PageRow)
      → dealt m left d (node x.row x.children t)
      ≡ cond (holds x.row.label.kind && not (is_spent d)) (begun m left d x ++ dealt m (left_below m left) (less d) x.children) []
      ++ dealt m left d t
  dealt-node zero d x t = refl
  dealt-node (suc k) d x t = refl

  pub deal_turn : (left : ℕ) (d : Option ℕ) (x : Branch PageRow) (old rest : Nodes PageRow) (before after all : List Opening)
      → old ≡ node x.row x.children rest → after ≡ before ++ dealt m left d (alone x) → before ++ dealt m left d old ≡ all
      → after ++ dealt m left d rest ≡ all
  deal_turn left d x old rest before after all split this was =
      ap (λ l. l ++ dealt m left d rest) this
      ∙ append_assoc before (dealt m left d (alone x)) (dealt m left d rest)
      ∙ ap (λ l. before ++ l) (ap (λ l. l ++ dealt m left d rest) (dealt-node left d x none ∙ append-nil _)
      ∙ sym (dealt-node left d x rest))
      ∙ ap (λ t. before ++ dealt m left d t) (sym split)
      ∙ was

  pub deal_end : (left : ℕ) (d : Option ℕ) (rest : Nodes PageRow) (before all : List Opening) → rest ≡ none
      → before ++ dealt m left d rest ≡ all → before ≡ all
  deal_end left d rest before all ended was =
      sym (append-nil before) ∙ ap (λ t. before ++ dealt m left d t) (sym ended) ∙ was
