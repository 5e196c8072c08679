-- The document becomes known and is opened.
use Rattle.std.proofs.Common.{◌≡◌, ℕ, zero, suc, ◌+◌, ◌<◌, ◌≤◌, ◌^◌, Bool, true, false, not, ◌&&◌, Option, ℤ, pos, negsuc, refl, sym, ap}
use Rattle.std.proofs.Common.{◌∙◌, arith}
use Rattle.node_tree.specs.Nodes.{Nodes, none, alone, node_count}
use Rattle.node_tree.specs.Keys.{tally}
use Rattle.node_tree.specs.Labels.{holds, is_document}
use Rattle.node_tree.specs.declared.Kind.{Kind}
use Rattle.node_tree.specs.declared.Kind.TheVariants.{Document, Element, Text, Comment, Doctype}
use Rattle.page_tree.specs.Pages.{PageRow, row_serial, row_label, PageValue, IsValid}
use Rattle.node_tree.proofs.NodeLemmas.{node_count-map_rows}
use Rattle.node_binding.specs.Openings.{less, is_spent, levels_of, IsDepth, containers_within}
use Rattle.node_binding.specs.Bindings.{BindingValue, with_bound, all_bound, with_opened, all_opened, cleared, started, revealed}
use Rattle.node_binding.proofs.OpeningLemmas.{known-above}
use Rattle.node_binding.proofs.RevealLemmas.{revealed-node, after_first}

pub levels-left : (depth : ℤ) → IsDepth depth → is_spent (levels_of depth) ≡ false
levels-left (pos zero) h = absurd (omega arith)
levels-left (pos (suc d)) h = refl
levels-left (negsuc d) h = refl

document_holds : (k : Kind) (rest : Bool) → (is_document k && rest) ≡ true → holds k ≡ true
document_holds Document rest h = refl
document_holds Element rest h = refl
document_holds Text rest h = h
document_holds Comment rest h = h
document_holds Doctype rest h = h

module _ (page : PageValue) (valid : IsValid page) where
  pub root_holds : holds page.tree.row.label.kind ≡ true
  root_holds = document_holds _ _ valid.root

  pub distinct-alone : (s : ℕ) → tally row_serial s (alone page.tree) ≤ 1
  distinct-alone s = omega (arith, valid.distinct s)

  pub count-alone : node_count (alone page.tree) ≤ 100000
  count-alone = omega (arith, valid.nodes.room, node_count-map_rows row_label page.tree.children)

  started-root : (d : Option ℕ) (b : BindingValue) → is_spent d ≡ false
      → started d (alone page.tree) b
      ≡ revealed (less d) page.tree.children (with_opened page.tree.row.serial (with_bound page.tree.row.serial (cleared b)))
  started-root d b left =
      ap (λ ks. all_bound ks (all_opened (containers_within d (alone page.tree)) (cleared b)))
      (known-above d (alone page.tree) distinct-alone)
      ∙ revealed-node d page.tree.row page.tree.children none (cleared b)
      ∙ ap (λ g. after_first (g && not (is_spent d)) d page.tree.row page.tree.children (cleared b)) root_holds
      ∙ ap (λ g. after_first (not g) d page.tree.row page.tree.children (cleared b)) left

  pub start_root : (levels : Option ℕ) → is_spent levels ≡ false
      → (left : Option ℕ) (serial : ℕ) (kids : Nodes PageRow) (b b1 b2 b3 b4 : BindingValue)
      → left ≡ less levels → serial ≡ page.tree.row.serial → kids ≡ page.tree.children → b1 ≡ cleared b → b2 ≡ with_bound serial b1
      → b3 ≡ with_opened serial b2 → b4 ≡ revealed left kids b3 → b4 ≡ started levels (alone page.tree) b
  start_root levels unspent left serial kids b b1 b2 b3 b4 left_is serial_is kids_are cleared_is bound opened below =
      below
      ∙ ap (λ l. revealed l kids b3) left_is
      ∙ ap (λ n. revealed (less levels) n b3) kids_are
      ∙ ap (revealed (less levels) page.tree.children)
      (opened ∙ ap (with_opened serial) (bound ∙ ap (with_bound serial) cleared_is) ∙ ap
      (λ s. with_opened s (with_bound s (cleared b))) serial_is)
      ∙ sym (started-root levels b unspent)

  pub start_room : (kids : Nodes PageRow) (serial : ℕ) (b b1 b2 b3 : BindingValue) → b.next < 2 ^ 60 → kids ≡ page.tree.children
      → b1 ≡ cleared b → b2 ≡ with_bound serial b1 → b3 ≡ with_opened serial b2 → b3.next + node_count kids < 2 ^ 63
  start_room kids serial b b1 b2 b3 room kids_are cleared_is bound opened =
      omega (arith, count-alone, ap node_count kids_are, ap (λ m. m.next) cleared_is, ap (λ m. m.next) bound, ap (λ m. m.next) opened)
