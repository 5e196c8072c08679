-- A shown page is valid, and a change of a shown node is a change in what is shown.
use Rattle.std.proofs.Common.{◌≡◌, ℕ, ◌≤◌, ◌&&◌, not, Bool, true, false, cond, Option, Some, None, unwrap_or}
use Rattle.std.proofs.Common.{subst, refl, sym, ap, ◌∙◌, arith}
use Rattle.node_tree.specs.Nodes.{Nodes, none, node, Branch, alone}
use Rattle.node_tree.specs.Labels.{holds, is_document}
use Rattle.node_tree.specs.Keys.{tally, At, here, within, past}
use Rattle.node_tree.specs.declared.Kind.{Kind}
use Rattle.node_tree.specs.declared.Kind.TheVariants.{Document, Element, Text, Comment, Doctype}
use Rattle.node_tree.proofs.KeyLemmas.{find-stands, put-at}
use Rattle.node_tree.proofs.ChangeLemmas.{at-old, alone-put}
use Rattle.page_tree.specs.Pages.{PageRow, row_serial, find_in, node_at}
use Rattle.page_tree.specs.Edits.{put_in, changed_at}
use Rattle.page_tree.proofs.WholeLemmas.{Sound, Whole, whole-valid, valid-whole}
use Rattle.shown_pages.specs.declared.modes.Mode.{Mode}
use Rattle.shown_pages.specs.Modes.{hidden_in}
use Rattle.shown_pages.specs.ShownPages.{shown_nodes, shown_branch, shown_page}
use Rattle.shown_pages.specs.ShownLaws.{ShownIsValid}
use Rattle.shown_pages.proofs.HiddenLemmas.{holder-shown, either, tally-shown, count-shown, height-shown}

-- ---- what holds others

pub held_by : (d h x : Bool) → (not d && (h && x)) ≡ true → h ≡ true
held_by true h x e = absurd (cc)
held_by false true x e = refl
held_by false false x e = absurd (cc)

document_holds : (k : Kind) → is_document k ≡ true → holds k ≡ true
document_holds Document e = refl
document_holds Element e = absurd (cc)
document_holds Text e = absurd (cc)
document_holds Comment e = absurd (cc)
document_holds Doctype e = absurd (cc)

-- what holds another node is a container
pub holder-at : {old new : Branch PageRow} {depth : ℕ} {n m : Nodes PageRow} (above : Kind) → At old new depth n m → Sound (Some above) n
    → holds above ≡ true
holder-at above (here t) (fits, below, beside) = held_by _ (holds above) _ fits.stands
holder-at above (within depth r c m t e) (fits, below, beside) = held_by _ (holds above) _ fits.stands
holder-at above (past depth r c t m e) (fits, below, beside) = held_by _ (holds above) _ fits.stands

module _ (mode : Mode) where
  -- ---- valid

  pub sound-shown : (above : Option Kind) (n : Nodes PageRow) → Sound above n → Sound above (shown_nodes mode n)
  sound-shown above none s = tt
  sound-shown above (node r c t) (fits, below, beside) =
      either (Sound above) (hidden_in mode r.label) (shown_nodes mode t) (node r (shown_nodes mode c) (shown_nodes mode t))
      (λ _. sound-shown above t beside) (λ _. (fits, sound-shown (Some r.label.kind) c below, sound-shown above t beside))

  module _ {next : ℕ} (tree : Branch PageRow) (whole : Whole next (alone tree)) where
    pub root-shown : hidden_in mode tree.row.label ≡ false
    root-shown = holder-shown mode tree.row.label (document_holds tree.row.label.kind whole.sound.0.stands)

    pub alone-shown : shown_nodes mode (alone tree) ≡ alone (shown_branch mode tree)
    alone-shown = rw root-shown refl

    pub whole-shown : Whole next (alone (shown_branch mode tree))
    whole-shown =
        let low = whole.low in
        let few = whole.few in
        let h = height-shown mode (alone tree) in
        let k = count-shown mode (alone tree) in
        subst (λ (m : Nodes PageRow). Whole next m) alone-shown (record {
          sound = sound-shown None (alone tree) whole.sound;
          low = omega arith;
          few = omega arith;
          distinct = λ x. let d = whole.distinct x in let t = tally-shown mode x (alone tree) in omega arith;
          least = λ x p. let t = tally-shown mode x (alone tree) in whole.least x (omega arith);
          below = λ x p. let t = tally-shown mode x (alone tree) in whole.below x (omega arith);
        })

  -- ---- one shown node changed

  pub at-shown : {old new : Branch PageRow} {depth : ℕ} {n m : Nodes PageRow} (above : Option Kind) → At old new depth n m → Sound above n
      → hidden_in mode old.row.label ≡ false → hidden_in mode new.row.label ≡ false
      → At (shown_branch mode old) (shown_branch mode new) depth (shown_nodes mode n) (shown_nodes mode m)
  at-shown above (here t) s e f = rw (e, f) (here (shown_nodes mode t))
  at-shown above (within depth r c m t i) (fits, below, beside) e f =
      rw (holder-shown mode r.label (holder-at r.label.kind i below))
      (within depth r (shown_nodes mode c) (shown_nodes mode m) (shown_nodes mode t) (at-shown (Some r.label.kind) i below e f))
  at-shown {old} {new} above (past depth r c t m i) (fits, below, beside) e f =
      let later = at-shown above i beside e f in
      elim (hidden_in mode r.label) as (λ b. At (shown_branch mode old) (shown_branch mode new) depth
      (cond b (shown_nodes mode t) (node r (shown_nodes mode c) (shown_nodes mode t)))
      (cond b (shown_nodes mode m) (node r (shown_nodes mode c) (shown_nodes mode m)))) [
        | true ↦ later
        | false ↦ past depth r (shown_nodes mode c) (shown_nodes mode t) (shown_nodes mode m) later
      ]

pub shown-valid : ShownIsValid
shown-valid mode page valid = valid-whole (shown_page mode page) (whole-shown mode page.tree (whole-valid page valid))

-- ---- a change of the node that stands there

-- the first tree of a list; d where there is none
abbrev pub top : Branch PageRow → Nodes PageRow → Branch PageRow
top d none = d
top d (node r c t) = record { row = r; children = c }

-- what becomes of a node is what is found under its serial, and the change there leads to the second tree
pub record IsChange (serial : ℕ) (f : Branch PageRow → Branch PageRow) (b t1 t2 : Branch PageRow) : Type 0 where
  pub found : find_in serial t1 ≡ Some b
  pub node : node_at serial t1 ≡ b
  pub leads : changed_at serial f t1 ≡ t2

pub change-at : {depth : ℕ} (b w t1 t2 : Branch PageRow) (f : Branch PageRow → Branch PageRow) → At b w depth (alone t1) (alone t2)
    → ((x : ℕ) → tally row_serial x (alone t1) ≤ 1) → f b ≡ w → IsChange b.row.serial f b t1 t2
change-at {depth} b w t1 t2 f e once is =
    let found : find_in b.row.serial t1 ≡ Some b = find-stands row_serial b (alone t1) (depth, alone t1, at-old e) (once b.row.serial) in
    let is_node : node_at b.row.serial t1 ≡ b = ap (λ (o : Option (Branch PageRow)). unwrap_or o t1) found in
    let there : changed_at b.row.serial f t1
    ≡ put_in b.row.serial w t1 = ap (λ (v : Branch PageRow). put_in b.row.serial (f v) t1) is_node ∙ ap
    (λ (v : Branch PageRow). put_in b.row.serial v t1) is in
    let whole : alone (put_in b.row.serial w t1)
    ≡ alone t2 = sym (alone-put row_serial b.row.serial w t1) ∙ put-at row_serial e (once b.row.serial) in
    record { found = found; node = is_node; leads = there ∙ ap (top t1) whole }
