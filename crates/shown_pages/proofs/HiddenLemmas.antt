-- What a mode hides, and how few nodes are left.
use Rattle.std.proofs.Common.{◌≡◌, ℕ, ◌≤◌, Bool, true, false, cond, refl, ap, sym, ◌∙◌, arith}
use Rattle.node_tree.specs.Nodes.{Nodes, none, node, Branch, node_count, height}
use Rattle.node_tree.specs.Keys.{tally}
use Rattle.node_tree.specs.Labels.{Label, holds}
use Rattle.node_tree.specs.declared.Kind.{Kind}
use Rattle.node_tree.specs.declared.Kind.TheVariants.{Document, Element, Text, Comment, Doctype}
use Rattle.node_tree.proofs.KeyLemmas.{tally_below}
use Rattle.page_tree.specs.Pages.{PageRow, row_serial}
use Rattle.shown_pages.specs.declared.modes.Mode.{Mode}
use Rattle.shown_pages.specs.declared.modes.Mode.TheVariants.{All, NoBlank}
use Rattle.shown_pages.specs.Modes.{is_blank_text, hidden_in}
use Rattle.shown_pages.specs.ShownPages.{shown_nodes, shown_branch}
use Rattle.shown_pages.specs.ShownLaws.{AllIsShown}

-- ---- a container is shown

blank_holds : (k : Kind) (value : _) → holds k ≡ true → is_blank_text k value ≡ false
blank_holds Document value e = refl
blank_holds Element value e = refl
blank_holds Text value e = absurd (cc)
blank_holds Comment value e = refl
blank_holds Doctype value e = refl

pub holder-shown : (mode : Mode) (l : Label) → holds l.kind ≡ true → hidden_in mode l ≡ false
holder-shown All l e = refl
holder-shown NoBlank l e = blank_holds l.kind l.value e

not_holding : (mode : Mode) (l : Label) (b : Bool) → holds l.kind ≡ b → hidden_in mode l ≡ true → b ≡ false
not_holding mode l true e h = absurd (let f : true ≡ false = sym h ∙ holder-shown mode l e in cc)
not_holding mode l false e h = refl

pub hidden-bare : (mode : Mode) (l : Label) → hidden_in mode l ≡ true → holds l.kind ≡ false
hidden-bare mode l h = not_holding mode l (holds l.kind) refl h

-- ---- one of two lists of trees, by a test

pub either : (P : Nodes PageRow → Type 0) (b : Bool) (u v : Nodes PageRow) → (b ≡ true → P u) → (b ≡ false → P v) → P (cond b u v)
either P true u v f g = f refl
either P false u v f g = g refl

-- ---- no more nodes

module _ (mode : Mode) where
  pub tally-shown : (x : ℕ) (n : Nodes PageRow) → tally row_serial x (shown_nodes mode n) ≤ tally row_serial x n
  tally-shown x none = omega arith
  tally-shown x (node r c t) =
      let hc = tally-shown x c in
      let ht = tally-shown x t in
      let k = tally_below row_serial x r c t in
      either (λ m. tally row_serial x m ≤ tally row_serial x (node r c t)) (hidden_in mode r.label) (shown_nodes mode t)
      (node r (shown_nodes mode c) (shown_nodes mode t)) (λ _. omega arith) (λ _. omega arith)

  pub count-shown : (n : Nodes PageRow) → node_count (shown_nodes mode n) ≤ node_count n
  count-shown none = omega arith
  count-shown (node r c t) =
      let hc = count-shown c in
      let ht = count-shown t in
      either (λ m. node_count m ≤ node_count (node r c t)) (hidden_in mode r.label) (shown_nodes mode t)
      (node r (shown_nodes mode c) (shown_nodes mode t)) (λ _. omega arith) (λ _. omega arith)

  pub height-shown : (n : Nodes PageRow) → height (shown_nodes mode n) ≤ height n
  height-shown none = omega arith
  height-shown (node r c t) =
      let hc = height-shown c in
      let ht = height-shown t in
      either (λ m. height m ≤ height (node r c t)) (hidden_in mode r.label) (shown_nodes mode t)
      (node r (shown_nodes mode c) (shown_nodes mode t)) (λ _. omega arith) (λ _. omega arith)

-- ---- where nothing is hidden

pub all-nodes : (n : Nodes PageRow) → shown_nodes All n ≡ n
all-nodes none = refl
all-nodes (node r c t) = λ i. node r (all-nodes c i) (all-nodes t i)

pub all-branch : (b : Branch PageRow) → shown_branch All b ≡ b
all-branch b = λ i. record { row = b.row; children = all-nodes b.children i }

-- the children of a node are the shown ones
pub all-children : (mode : Mode) (b seen : Branch PageRow) → mode ≡ All → shown_branch mode b ≡ seen → b.children ≡ seen.children
all-children mode b seen e f = sym (all-nodes b.children) ∙ ap (λ m. shown_nodes m b.children) (sym e) ∙ ap
    (λ (x : Branch PageRow). x.children) f

pub all-shown : AllIsShown
all-shown page = λ i. record { tree = all-branch page.tree i; next = page.next }
