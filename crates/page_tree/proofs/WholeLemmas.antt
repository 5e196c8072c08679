-- A valid page as a property of each node, and what one changed node leaves of it.
use Rattle.std.proofs.Common.{◌≡◌, ◌⊎◌, ℕ, zero, suc, ◌+◌, ◌<◌, ◌≤◌, List, [], ◌∷◌, Bool, true, false, not, ◌&&◌, ◌||◌, Option, Some, None}
use Rattle.std.proofs.Common.{inl, inr, subst, refl, sym, arith}
use Rattle.std.proofs.lemmas.Bool.{not-true}
use Rattle.node_tree.specs.Nodes.{Nodes, none, node, Branch, alone, node_count, branch_count, height, map_rows, is_no_node}
use Rattle.node_tree.specs.Labels.{Pair, Label, is_document, is_doctype, holds, is_formed_label, is_named_label}
use Rattle.node_tree.specs.Keys.{tally, tally_in, At, here, within, past}
use Rattle.node_tree.specs.declared.Kind.{Kind}
use Rattle.node_tree.specs.declared.Kind.TheVariants.{Document, Element, Text, Comment, Doctype}
use Rattle.node_tree.proofs.NodeLemmas.{node_count-map_rows, height-map_rows}
use Rattle.node_tree.proofs.KeyLemmas.{tally-at, height-at}
use Rattle.node_tree.proofs.ChangeLemmas.{count-at}
use Rattle.page_tree.specs.Forms.{max_nodes, may_stand, are_formed, are_named}
use Rattle.node_tree.specs.Levels.{max_level}
use Rattle.page_tree.specs.Pages.{PageRow, row_serial, row_label, PageValue, IsValid}
use Rattle.page_tree.specs.EditFaults.{may_hold}
use Rattle.node_tree.proofs.PairLemmas.{both, left, right}
use Rattle.page_tree.proofs.ChildLemmas.{Inserted, front, behind}

-- a node of that kind may stand under one of the other, or under none
abbrev pub stands_under : Option Kind → Kind → Bool
stands_under None kind = is_document kind
stands_under (Some above) kind = not (is_document kind) && may_hold above kind

pub record Fits (above : Option Kind) (l : Label) : Type 0 where
  pub formed : is_formed_label l ≡ true
  pub named : is_named_label l ≡ true
  pub stands : stands_under above l.kind ≡ true

-- each node is as a page may hold it, under what stands above it
abbrev pub Sound : Option Kind → Nodes PageRow → Type 0
Sound above none = Unit {0}
Sound above (node r c t) = Fits above r.label × Sound (Some r.label.kind) c × Sound above t

pub record Whole (next : ℕ) (n : Nodes PageRow) : Type 0 where
  pub sound : Sound None n
  pub low : height n ≤ suc max_level
  pub few : node_count n ≤ max_nodes
  pub distinct : (x : ℕ) → tally row_serial x n ≤ 1
  pub least : (x : ℕ) → 0 < tally row_serial x n → 1 ≤ x
  pub below : (x : ℕ) → 0 < tally row_serial x n → x < next

-- ---- a valid page is whole

stand_parts : (top d h p : Bool) → (not d && (top || not p)) ≡ true → (h || false) ≡ true → (not d && (h && (top || not p))) ≡ true
stand_parts top true h p e f = absurd (cc)
stand_parts top false true p e f = e
stand_parts top false false p e f = absurd (cc)

labels : Nodes PageRow → Nodes Label
labels = map_rows row_label

pub sound-formed : (above : Kind) (n : Nodes PageRow) → are_formed (is_document above) (map_rows row_label n) ≡ true
    → are_named (map_rows row_label n) ≡ true → (holds above || is_no_node (map_rows row_label n)) ≡ true → Sound (Some above) n
sound-formed above none e f g = tt
sound-formed above (node r c t) e f g =
    let e0 = left (is_formed_label r.label && may_stand (is_document above) r.label.kind
    && (holds r.label.kind || is_no_node (map_rows row_label c)) && are_formed false (map_rows row_label c))
    (are_formed (is_document above) (map_rows row_label t)) e in
    let rest = right (is_formed_label r.label && may_stand (is_document above) r.label.kind
    && (holds r.label.kind || is_no_node (map_rows row_label c)) && are_formed false (map_rows row_label c))
    (are_formed (is_document above) (map_rows row_label t)) e in
    let below = right (is_formed_label r.label && may_stand (is_document above) r.label.kind
    && (holds r.label.kind || is_no_node (map_rows row_label c))) (are_formed false (map_rows row_label c)) e0 in
    let e1 = left (is_formed_label r.label && may_stand (is_document above) r.label.kind
    && (holds r.label.kind || is_no_node (map_rows row_label c))) (are_formed false (map_rows row_label c)) e0 in
    let bare = right (is_formed_label r.label && may_stand (is_document above) r.label.kind)
    (holds r.label.kind || is_no_node (map_rows row_label c)) e1 in
    let e2 = left (is_formed_label r.label && may_stand (is_document above) r.label.kind)
    (holds r.label.kind || is_no_node (map_rows row_label c)) e1 in
    let formed = left (is_formed_label r.label) (may_stand (is_document above) r.label.kind) e2 in
    let stands = right (is_formed_label r.label) (may_stand (is_document above) r.label.kind) e2 in
    let f0 = left (is_named_label r.label && are_named (map_rows row_label c)) (are_named (map_rows row_label t)) f in
    let not_document : is_document r.label.kind ≡ false = not-true _ (left (not (is_document r.label.kind)) _ stands) in (
      record {
        formed = formed;
        named = left _ _ f0;
        stands = stand_parts (is_document above) (is_document r.label.kind) (holds above) (is_doctype r.label.kind) stands g;
      },
      sound-formed r.label.kind c (subst (λ (b : Bool). are_formed b (map_rows row_label c) ≡ true) (sym not_document) below)
          (right (is_named_label r.label) (are_named (map_rows row_label c)) f0) bare,
      sound-formed above t rest (right (is_named_label r.label && are_named (map_rows row_label c)) (are_named (map_rows row_label t)) f)
          (holds_still (holds above) (is_no_node (map_rows row_label t)) g),
    )
  where
    holds_still : (h b : Bool) → (h || false) ≡ true → (h || b) ≡ true
    holds_still true b e = refl
    holds_still false b e = absurd (cc)

-- what is formed, with the top as the document has it
pub record Formed (above : Kind) (n : Nodes Label) : Type 0 where
  pub formed : are_formed (is_document above) n ≡ true
  pub named : are_named n ≡ true
  pub holder : (holds above || is_no_node n) ≡ true

stand_whole : (top d h p : Bool) → (not d && (h && (top || not p))) ≡ true → ((not d && (top || not p)) ≡ true) × (h ≡ true)
stand_whole top true h p e = absurd (cc)
stand_whole top false true p e = (e, refl)
stand_whole top false false p e = absurd (cc)

always_held : (h b : Bool) → h ≡ true → (h || b) ≡ true
always_held true b e = refl
always_held false b e = absurd (cc)

bare_none : (h : Bool) → (h || true) ≡ true
bare_none true = refl
bare_none false = refl

pub formed-sound : (above : Kind) (n : Nodes PageRow) → Sound (Some above) n → Formed above (map_rows row_label n)
formed-sound above none s = record { formed = refl; named = refl; holder = bare_none (holds above) }
formed-sound above (node r c t) (fits, below, beside) =
    let u = formed-sound r.label.kind c below in
    let v = formed-sound above t beside in
    let parts = stand_whole (is_document above) (is_document r.label.kind) (holds above) (is_doctype r.label.kind) fits.stands in
    let not_document : is_document r.label.kind ≡ false = not-true _ (left (not (is_document r.label.kind)) _ fits.stands) in
    record {
      formed = both _ _ (both _ _ (both _ _ (both _ _ fits.formed parts.0) u.holder)
          (subst (λ (b : Bool). are_formed b (map_rows row_label c) ≡ true) not_document u.formed)) v.formed;
      named = both _ _ (both _ _ fits.named u.named) v.named;
      holder = always_held (holds above) false parts.1;
    }

document_label_at : (k : Kind) (name value : List ℕ) (a : List Pair) → is_document k ≡ true
    → is_formed_label (record { kind = k; name = name; value = value; attributes = a }) ≡ true
    → is_named_label (record { kind = k; name = name; value = value; attributes = a }) ≡ true
document_label_at Document name value [] e f = refl
document_label_at Document name value (p ∷ ps) e f = absurd (cc)
document_label_at Element name value a e f = absurd (cc)
document_label_at Text name value a e f = absurd (cc)
document_label_at Comment name value a e f = absurd (cc)
document_label_at Doctype name value a e f = absurd (cc)

document_is : (k : Kind) → is_document k ≡ true → k ≡ Document
document_is Document e = refl
document_is Element e = absurd (cc)
document_is Text e = absurd (cc)
document_is Comment e = absurd (cc)
document_is Doctype e = absurd (cc)

pub whole-valid : (page : PageValue) → IsValid page → Whole page.next (alone page.tree)
whole-valid page valid =
    let l = page.tree.row.label in
    let c = page.tree.children in
    let root = left (is_document l.kind) (is_formed_label l) valid.root in
    let formed = right (is_document l.kind) (is_formed_label l) valid.root in
    let is = document_is l.kind root in
    let h = height-map_rows row_label c in
    let k = node_count-map_rows row_label c in
    let levels = valid.nodes.levels in
    let room = valid.nodes.room in
    record {
      sound = (
        record { formed = formed; named = document_label_at l.kind l.name l.value l.attributes root formed; stands = root },
        subst (λ (above : Kind). Sound (Some above) c) (sym is) (sound-formed Document c valid.nodes.formed valid.nodes.named refl),
        tt,
      );
      low = omega arith;
      few = omega arith;
      distinct = λ x. let d = valid.distinct x in omega arith;
      least = λ x p. valid.least x (omega arith);
      below = λ x p. valid.below_next x (omega arith);
    }

pub valid-whole : (page : PageValue) → Whole page.next (alone page.tree) → IsValid page
valid-whole page whole =
    let l = page.tree.row.label in
    let c = page.tree.children in
    let fits = whole.sound.0 in
    let is = document_is l.kind fits.stands in
    let v = formed-sound Document c (subst (λ (above : Kind). Sound (Some above) c) is whole.sound.1) in
    let h = height-map_rows row_label c in
    let k = node_count-map_rows row_label c in
    let low = whole.low in
    let few = whole.few in
    record {
      root = both _ _ fits.stands fits.formed;
      nodes = record { formed = v.formed; named = v.named; levels = omega arith; room = omega arith };
      distinct = λ x. let d = whole.distinct x in omega arith;
      least = λ x p. whole.least x (omega arith);
      below_next = λ x p. whole.below x (omega arith);
    }

-- ---- one node changed

module _ {old new : Branch PageRow} where
  pub sound-at : {depth : ℕ} {n m : Nodes PageRow} (above : Option Kind) → At old new depth n m → old.row.label.kind ≡ new.row.label.kind
      → is_formed_label new.row.label ≡ true → is_named_label new.row.label ≡ true → Sound (Some new.row.label.kind) new.children
      → Sound above n → Sound above m
  sound-at above (here t) kind formed named below (fits, c, beside) = (
    record {
      formed = formed;
      named = named;
      stands = subst (λ (k : Kind). stands_under above k ≡ true) kind fits.stands;
    },
    below,
    beside,
  )
  sound-at above (within depth r c m t e) kind formed named below (fits, s, beside) =
      (fits, sound-at (Some r.label.kind) e kind formed named below s, beside)
  sound-at above (past depth r c t m e) kind formed named below (fits, s, beside) =
      (fits, s, sound-at above e kind formed named below beside)

  -- what holds of the node before the change
  pub sound-there : {depth : ℕ} {n m : Nodes PageRow} (above : Option Kind) → At old new depth n m → Sound above n
      → (a : Option Kind) × Fits a old.row.label × Sound (Some old.row.label.kind) old.children
  sound-there above (here t) (fits, c, beside) = (above, fits, c)
  sound-there above (within depth r c m t e) (fits, s, beside) = sound-there (Some r.label.kind) e s
  sound-there above (past depth r c t m e) (fits, s, beside) = sound-there above e beside

sum_cases : (a b : ℕ) → 0 < a + b → (0 < a) ⊎ (0 < b)
sum_cases zero b h = inr (omega arith)
sum_cases (suc a) b h = inl (omega arith)

-- serials that come to those of the trees
pub record AreNew (next : ℕ) (n : Nodes PageRow) (more : ℕ → ℕ) : Type 0 where
  pub once : (x : ℕ) → more x + tally row_serial x n ≤ 1
  pub least : (x : ℕ) → 0 < more x → 1 ≤ x
  pub below : (x : ℕ) → 0 < more x → x < next

-- what the changed node owes
pub record Owes (next depth : ℕ) (old new : Branch PageRow) (n : Nodes PageRow) : Type 0 where
  pub kind : old.row.label.kind ≡ new.row.label.kind
  pub formed : is_formed_label new.row.label ≡ true
  pub named : is_named_label new.row.label ≡ true
  pub sound : Sound (Some new.row.label.kind) new.children
  pub low : depth + suc (height new.children) ≤ suc max_level
  pub few : node_count n + branch_count new ≤ max_nodes + branch_count old
  pub more : ℕ → ℕ
  pub serials : (x : ℕ) → tally_in row_serial x new ≤ tally_in row_serial x old + more x
  pub are_new : AreNew next n more

pub whole-at : {old new : Branch PageRow} {depth next then : ℕ} {n m : Nodes PageRow} → next ≤ then → Whole next n → At old new depth n m
    → Owes then depth old new n → Whole then m
whole-at {old} {new} {depth} {next} {then} {n} {m} later whole e owes =
    let low = whole.low in
    let h = height-at e in
    let owed = owes.low in
    let k = count-at e in
    let owed_few = owes.few in
    record {
      sound = sound-at None e owes.kind owes.formed owes.named owes.sound whole.sound;
      low = omega arith;
      few = omega arith;
      distinct = λ x. let t = tally-at row_serial x e in let s = owes.serials x in let o = owes.are_new.once x in omega arith;
      least = λ x p. let t = tally-at row_serial x e in let s = owes.serials x in elim
          (sum_cases (owes.more x) (tally row_serial x n) (omega arith)) [ inl q ↦ owes.are_new.least x q | inr q ↦ whole.least x q ];
      below = λ x p. let t = tally-at row_serial x e in let s = owes.serials x in elim
          (sum_cases (owes.more x) (tally row_serial x n)
          (omega arith)) [ inl q ↦ owes.are_new.below x q | inr q ↦ let b = whole.below x q in omega arith ];
    }

-- a page goes on being whole as its next serial goes on
pub whole-later : {next then : ℕ} {n : Nodes PageRow} → next ≤ then → Whole next n → Whole then n
whole-later later whole = record {
  sound = whole.sound;
  low = whole.low;
  few = whole.few;
  distinct = whole.distinct;
  least = whole.least;
  below = λ x p. let b = whole.below x p in omega arith;
}

-- ---- a tree among others

module _ {w : Branch PageRow} {above : Option Kind} where
  pub sound-inserted : {n m : Nodes PageRow} → Inserted w n m → Sound above n → Sound above (alone w) → Sound above m
  sound-inserted (front t) s (fits, below, x) = (fits, below, s)
  sound-inserted (behind r c t u i) (fits, below, beside) s = (fits, below, sound-inserted i beside s)

  pub inserted-sound : {n m : Nodes PageRow} → Inserted w n m → Sound above m → Sound above n × Sound above (alone w)
  inserted-sound (front t) (fits, below, beside) = (beside, (fits, below, tt))
  inserted-sound (behind r c t u i) (fits, below, beside) = let s = inserted-sound i beside in ((fits, below, s.0), s.1)
