-- Places among trees side by side: 0, or the serial of one of them.
use Rattle.std.proofs.Common.{◌≡◌, ◌⊎◌, ℕ, ◌<◌, ◌≤◌, ◌==◌, ◌||◌, Bool, true, false, cond, inl, inr, refl, arith}
use Rattle.std.proofs.lemmas.Bool.{eq-eqb, ne_eqb}
use Rattle.node_tree.specs.Nodes.{Nodes, none, node, Branch}
use Rattle.node_tree.specs.Keys.{tally}
use Rattle.node_tree.proofs.KeyLemmas.{tally_row, tally_below, other_row}
use Rattle.page_tree.specs.Pages.{PageRow, row_serial}
use Rattle.page_tree.specs.Edits.{put_before, first_serial, is_among}
use Rattle.shown_pages.specs.declared.modes.Mode.{Mode}
use Rattle.shown_pages.specs.Modes.{hidden_in}
use Rattle.shown_pages.specs.ShownPages.{shown_nodes}
use Rattle.shown_pages.specs.ShownEdits.{shown_from, shown_after}
use Rattle.shown_pages.proofs.HiddenLemmas.{either, tally-shown}

-- ---- serials that stand once

-- each serial of these trees stands once, and is not 0
pub record AreKeys (n : Nodes PageRow) : Type 0 where
  pub once : (x : ℕ) → tally row_serial x n ≤ 1
  pub least : (x : ℕ) → 0 < tally row_serial x n → 1 ≤ x

pub keys-later : (r : PageRow) (c t : Nodes PageRow) → AreKeys (node r c t) → AreKeys t
keys-later r c t k = record {
  once = λ x. let h = k.once x in let b = tally_below row_serial x r c t in omega arith;
  least = λ x p. let b = tally_below row_serial x r c t in k.least x (omega arith);
}

-- the serial is 0, or that of one of these trees or of a node below them
abbrev IsOneOf : ℕ → Nodes PageRow → Type 0
IsOneOf x n = (x ≡ 0) ⊎ (0 < tally row_serial x n)

first-one : (n : Nodes PageRow) → IsOneOf (first_serial n) n
first-one none = inl refl
first-one (node r c t) = inr (tally_row row_serial r.serial r c t refl)

one-later : (x : ℕ) (r : PageRow) (c t : Nodes PageRow) → IsOneOf x t → IsOneOf x (node r c t)
one-later x r c t (inl z) = inl z
one-later x r c t (inr p) = inr (let k = tally_below row_serial x r c t in omega arith)

-- none of the trees behind the first has its serial
pub other_first : (x : ℕ) (r : PageRow) (c t : Nodes PageRow) → AreKeys (node r c t) → IsOneOf x t → (r.serial == x) ≡ false
other_first x r c t k (inl z) = ne_eqb r.serial x
    (λ e. let h = k.least r.serial (tally_row row_serial r.serial r c t refl) in omega arith)
other_first x r c t k (inr p) = ne_eqb r.serial x (other_row row_serial x r c t (omega arith) (k.once x))

-- one of two numbers, by a test
one_of : (P : ℕ → Type 0) (b : Bool) (x y : ℕ) → P x → P y → P (cond b x y)
one_of P true x y p q = p
one_of P false x y p q = q

-- ---- the place of a child

-- 0, or the serial of one of these trees themselves
abbrev pub IsPlace : ℕ → Nodes PageRow → Type 0
IsPlace x n = (x ≡ 0) ⊎ (is_among x n ≡ true)

first-place : (n : Nodes PageRow) → IsPlace (first_serial n) n
first-place none = inl refl
first-place (node r c t) = inr (rw (eq-eqb r.serial r.serial refl) refl)

or_later : (a b : Bool) → b ≡ true → (a || b) ≡ true
or_later true b e = refl
or_later false b e = e

-- a tree that is put before the first one stands first
pub put_first : (w : Branch PageRow) (t : Nodes PageRow) → put_before (first_serial t) w t ≡ node w.row w.children t
put_first w none = refl
put_first w (node r c t) = rw (eq-eqb r.serial r.serial refl) refl

-- ---- places among what is shown

module _ (mode : Mode) where
  one-shown : (x : ℕ) (n : Nodes PageRow) → IsOneOf x (shown_nodes mode n) → IsOneOf x n
  one-shown x n (inl z) = inl z
  one-shown x n (inr p) = inr (let k = tally-shown mode x n in omega arith)

  pub from-one : (before : ℕ) (n : Nodes PageRow) → IsOneOf (shown_from mode before n) n
  from-one before none = inl refl
  from-one before (node r c t) = one_of (λ x. IsOneOf x (node r c t)) (r.serial == before) (first_serial (shown_nodes mode (node r c t)))
      (shown_from mode before t)
      (one-shown (first_serial (shown_nodes mode (node r c t))) (node r c t) (first-one (shown_nodes mode (node r c t))))
      (one-later (shown_from mode before t) r c t (from-one before t))

  pub after-one : (serial : ℕ) (n : Nodes PageRow) → IsOneOf (shown_after mode serial n) n
  after-one serial none = inl refl
  after-one serial (node r c t) = one_of (λ x. IsOneOf x (node r c t)) (r.serial == serial) (first_serial (shown_nodes mode t))
      (shown_after mode serial t)
      (one-later (first_serial (shown_nodes mode t)) r c t
      (one-shown (first_serial (shown_nodes mode t)) t (first-one (shown_nodes mode t))))
      (one-later (shown_after mode serial t) r c t (after-one serial t))

  place-later : (x : ℕ) (r : PageRow) (c t : Nodes PageRow) → IsPlace x (shown_nodes mode t) → IsPlace x (shown_nodes mode (node r c t))
  place-later x r c t (inl z) = inl z
  place-later x r c t (inr p) = inr (either (λ m. is_among x m ≡ true) (hidden_in mode r.label) (shown_nodes mode t)
      (node r (shown_nodes mode c) (shown_nodes mode t)) (λ _. p) (λ _. or_later (r.serial == x) (is_among x (shown_nodes mode t)) p))

  pub from-place : (before : ℕ) (n : Nodes PageRow) → IsPlace (shown_from mode before n) (shown_nodes mode n)
  from-place before none = inl refl
  from-place before (node r c t) = one_of (λ x. IsPlace x (shown_nodes mode (node r c t))) (r.serial == before)
      (first_serial (shown_nodes mode (node r c t))) (shown_from mode before t) (first-place (shown_nodes mode (node r c t)))
      (place-later (shown_from mode before t) r c t (from-place before t))

  pub after-place : (serial : ℕ) (n : Nodes PageRow) → IsPlace (shown_after mode serial n) (shown_nodes mode n)
  after-place serial none = inl refl
  after-place serial (node r c t) = one_of (λ x. IsPlace x (shown_nodes mode (node r c t))) (r.serial == serial)
      (first_serial (shown_nodes mode t)) (shown_after mode serial t)
      (place-later (first_serial (shown_nodes mode t)) r c t (first-place (shown_nodes mode t)))
      (place-later (shown_after mode serial t) r c t (after-place serial t))
