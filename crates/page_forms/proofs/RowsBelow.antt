-- Rows that are read one behind the other, with what stands below each, are those of nodes.
use Rattle.std.proofs.Common.{◌≡◌, ℕ, suc, ◌+◌, ◌≤◌, ◌==◌, ◌&&◌, ◌||◌, Bool, true, false, List, [], ◌∷◌, ◌++◌, length, take, drop}
use Rattle.std.proofs.Common.{append_assoc, append-nil, length-append, Option, Some, None, ◌⊎◌, inl, inr}
use Rattle.std.proofs.Common.{codes, cond, option_and_then}
use Rattle.std.proofs.Common.{refl, sym, ap, ◌∙◌, subst, arith}
use Rattle.std.proofs.lemmas.Bool.{ne_eqb}
use Rattle.std.proofs.lemmas.List.{take-append-le, drop-append-le}
use Rattle.json.specs.Token.{Token, end_object, key, string}
use Rattle.node_tree.specs.Nodes.{Nodes, none, node, Branch, nodes_of, alone, beside, node_count, is_no_node}
use Rattle.cdp_json.specs.Kinds.{is_counted}
use Rattle.node_tree.specs.Labels.{Pair, Label, holds}
use Rattle.node_tree.specs.declared.Kind.{Kind}
use Rattle.node_tree.specs.declared.Kind.TheVariants.{Document, Element, Text, Comment, Doctype}
use Rattle.node_tree.proofs.NodeLemmas.{nodes_of-append, node_count-beside}
use Rattle.page_tree.specs.Forms.{may_stand}
use Rattle.page_tree.specs.Loads.{labelled, node_spelled}
use Rattle.page_tree.specs.Flat.{flat_rows, are_held}
use Rattle.page_tree.proofs.FlatLemmas.{flat-is}
use Rattle.page_forms.specs.Spelt.{ReadsAs, SpellsItems, SpellsField}
use Rattle.page_forms.specs.NodeForms.{leaf, text_field, text_data, attribute_field}
use Rattle.page_forms.specs.RowForms.{row_start, row_form, rows_form, flat_form, Place, SpellsBelow}
use Rattle.page_forms.proofs.SpeltLists.{list_end, value_shorter}
use Rattle.page_forms.proofs.SpeltRows.{leaf_label, row_with_label, element_row_spelt, leaf_row_spelt, row_turn, nodes_spelt}

-- ---- nodes side by side

rows-beside : (up i : ℕ) (a b : Nodes Label) → flat_rows up i (beside a b) ≡ flat_rows up i a ++ flat_rows up (i + node_count a) b
rows-beside up i none b =
    let same : i ≡ i + 0 = omega arith in
    ap (λ j. flat_rows up j b) same
rows-beside up i (node l c t) b =
    let next : i + 1 + node_count c + node_count t ≡ i + node_count (node l c t) = omega arith in
    ap (λ rs. record { up = up; label = l } ∷ (flat_rows i (i + 1) c ++ rs))
    (rows-beside up (i + 1 + node_count c) t b ∙ ap (λ j. flat_rows up (i + 1 + node_count c) t ++ flat_rows up j b) next)
    ∙ ap (λ rs. record { up = up; label = l } ∷ rs)
    (sym (append_assoc (flat_rows i (i + 1) c) (flat_rows up (i + 1 + node_count c) t) (flat_rows up (i + node_count (node l c t)) b)))

both : (a b : Bool) → a ≡ true → b ≡ true → (a && b) ≡ true
both true b e f = f
both false b e f = absurd cc

first-of : (a b : Bool) → (a && b) ≡ true → a ≡ true
first-of true b e = refl
first-of false b e = absurd cc

second-of : (a b : Bool) → (a && b) ≡ true → b ≡ true
second-of true b e = e
second-of false b e = absurd cc

held-beside : (top : Bool) (a b : Nodes Label) → are_held top a ≡ true → are_held top b ≡ true → are_held top (beside a b) ≡ true
held-beside top none b e f = f
held-beside top (node l c t) b e f =
    both (may_stand top l.kind && (holds l.kind || is_no_node c) && are_held false c) (are_held top (beside t b))
    (first-of _ (are_held top t) e) (held-beside top t b (second-of _ (are_held top t) e) f)

-- ---- places between rows

-- no row
pub none_below : (up : ℕ) (at : Place) → SpellsBelow up at none at
none_below up at = record {
  rows = λ rest behind s. s;
  held = refl;
  last = omega arith;
  passed = omega arith;
}

-- nodes, and others beside them
pub beside_below : (up : ℕ) (old middle new : Place) (a b : Nodes Label) → SpellsBelow up old a middle → SpellsBelow up middle b new
    → SpellsBelow up old (beside a b) new
beside_below up old middle new a b s r = record {
  rows =
      let next : suc middle.last ≡ suc old.last + node_count a = omega (arith, s.last) in
      let all : flat_rows up (suc old.last) (beside a b) ≡ flat_rows up (suc old.last) a ++ flat_rows up (suc middle.last) b =
      rows-beside up (suc old.last) a b ∙ ap (λ j. flat_rows up (suc old.last) a ++ flat_rows up j b) (sym next) in
      λ rest behind e. subst (λ rs. SpellsItems rows_form old.tokens rs behind)
      (sym (append_assoc (flat_rows up (suc old.last) a) (flat_rows up (suc middle.last) b) rest) ∙ ap (λ rs. rs ++ rest) (sym all))
      (s.rows (flat_rows up (suc middle.last) b ++ rest) behind (r.rows rest behind e));
  held = held-beside (up == 0) a b s.held r.held;
  last = omega (arith, s.last, r.last, node_count-beside a b);
  passed = omega (arith, s.passed, r.passed, node_count-beside a b);
}

-- a row, and what stands below it
pub row_below : (up last : ℕ) (old middle : List Token) (new : Place) (l : Label) (c : Nodes Label)
    → ReadsAs row_form old (row_with_label up l) middle → may_stand (up == 0) l.kind ≡ true → (holds l.kind || is_no_node c) ≡ true
    → SpellsBelow (suc last) (record { tokens = middle; last = suc last }) c new
    → SpellsBelow up (record { tokens = old; last = last }) (node l c none) new
row_below up last old middle new l c s may may_hold r = record {
  rows =
      let next : suc (suc last) ≡ suc last + 1 = omega arith in
      let own : flat_rows (suc last) (suc (suc last)) c ≡ flat_rows (suc last) (suc last + 1) c ++ [] =
      ap (λ j. flat_rows (suc last) j c) next ∙ sym (append-nil (flat_rows (suc last) (suc last + 1) c)) in
      λ rest behind e. subst (λ rs. SpellsItems rows_form old (row_with_label up l ∷ (rs ++ rest)) behind) own
      (row_turn old middle behind (row_with_label up l) (flat_rows (suc last) (suc (suc last)) c ++ rest) s (r.rows rest behind e));
  held =
      let later : (suc last == 0) ≡ false = ne_eqb (suc last) 0 (λ e. omega (arith, e)) in
      both (may_stand (up == 0) l.kind && (holds l.kind || is_no_node c) && are_held false c) true
      (both (may_stand (up == 0) l.kind && (holds l.kind || is_no_node c)) (are_held false c)
      (both (may_stand (up == 0) l.kind) (holds l.kind || is_no_node c) may may_hold) (subst (λ b. are_held b c ≡ true) later r.held)) refl;
  last = omega (arith, r.last);
  passed = omega (arith, r.passed, value_shorter row_form old middle (row_with_label up l) s);
}

-- ---- kinds

element_stands : (top : Bool) → may_stand top Element ≡ true
element_stands true = refl
element_stands false = refl

-- what is known of a leaf by how it is read
pub record IsLeaf (k : Kind) (text : List ℕ) (top : Bool) (b : Branch Label) : Type 0 where
  pub label : leaf_label k text ≡ Some b.row
  pub alone : b.children ≡ none
  pub may : may_stand top b.row.kind ≡ true

leaf_known : (k : Kind) (text : List ℕ) (top : Bool) (b : Branch Label) (l : Label) → leaf_label k text ≡ Some l
    → may_stand top l.kind ≡ true → Some (leaf l) ≡ Some b → IsLeaf k text top b
leaf_known k text top b l e may is =
    let same : leaf l ≡ b = cc in
    subst (IsLeaf k text top) same (record { label = e; alone = refl; may = may })

text_stands : (top : Bool) (k : Kind) → (k ≡ Text) ⊎ (k ≡ Comment) → may_stand top k ≡ true
text_stands true Text s = refl
text_stands false Text s = refl
text_stands true Comment s = refl
text_stands false Comment s = refl
text_stands top Document (inl e) = absurd cc
text_stands top Document (inr e) = absurd cc
text_stands top Element (inl e) = absurd cc
text_stands top Element (inr e) = absurd cc
text_stands top Doctype (inl e) = absurd cc
text_stands top Doctype (inr e) = absurd cc

pub leaf_is : (k : Kind) (text name : List ℕ) (top : Bool) (b : Branch Label) → text_field k ≡ Some name → (k ≡ Element → ⊥)
    → ((n : List ℕ) → text_field k ≡ Some n → node_spelled top (text_data n text) ≡ Some b) → IsLeaf k text top b
leaf_is Document text name top b f other h = absurd cc
leaf_is Element text name top b f other h = absurd (other refl)
leaf_is Text text name top b f other h = leaf_known Text text top b (labelled Text [] text []) refl (text_stands top Text (inl refl))
    (h (codes "t") refl)
leaf_is Comment text name top b f other h = leaf_known Comment text top b (labelled Comment [] text []) refl
    (text_stands top Comment (inr refl)) (h (codes "k") refl)
leaf_is Doctype text name true b f other h = leaf_known Doctype text true b (labelled Doctype text [] []) refl refl (h (codes "d") refl)
leaf_is Doctype text name false b f other h = let no : None ≡ Some b = h (codes "d") refl in absurd cc

or-true : (a : Bool) → (a || true) ≡ true
or-true true = refl
or-true false = refl

-- ---- a row in code

-- a row that is read behind its number, and what stands below it
row_and_below : (u : Option ℕ) (up last : ℕ) (r2 r5 : List Token) (mid new : Place) (l : Label) (c : Nodes Label) → u ≡ Some up
    → ReadsAs row_form (row_start (Some up) r2) (row_with_label up l) r5 → may_stand (up == 0) l.kind ≡ true
    → (holds l.kind || is_no_node c) ≡ true → r5 ≡ mid.tokens → mid.last ≡ suc last → SpellsBelow mid.last mid c new
    → SpellsBelow up (record { tokens = row_start u r2; last = last }) (node l c none) new
row_and_below u up last r2 r5 mid new l c is s may may_hold e f r =
    subst (λ v. SpellsBelow up (record { tokens = row_start v r2; last = last }) (node l c none) new) (sym is)
    (row_below up last (row_start (Some up) r2) mid.tokens new l c
    (subst (λ ts. ReadsAs row_form (row_start (Some up) r2) (row_with_label up l) ts) e s) may may_hold
    (subst (λ n. SpellsBelow n (record { tokens = mid.tokens; last = n }) c new) f r))

pub leaf_below : (u : Option ℕ) (up last : ℕ) (name text : List ℕ) (k : Kind) (b : Branch Label) (r2 r3 r4 r5 : List Token) (new : Place)
    → u ≡ Some up → is_counted up ≡ true → r2 ≡ key name ∷ r3 → r3 ≡ string text ∷ r4 → r4 ≡ end_object ∷ r5 → text_field k ≡ Some name
    → IsLeaf k text (up == 0) b → r5 ≡ new.tokens → new.last ≡ suc last
    → SpellsBelow up (record { tokens = row_start u r2; last = last }) (alone b) new
leaf_below u up last name text k b r2 r3 r4 r5 new is small e2 e3 e4 f leaf e n =
    row_and_below u up last r2 r5 new new b.row b.children is (leaf_row_spelt up name text k b.row small e2 e3 e4 f leaf.label) leaf.may
    (ap (λ c. holds b.row.kind || is_no_node c) leaf.alone ∙ or-true (holds b.row.kind)) e n
    (subst (λ c. SpellsBelow new.last new c new) (sym leaf.alone) (none_below new.last new))

pub element_below : (u : Option ℕ) (up last : ℕ) (name text : List ℕ) (k : Kind) (b : Branch Label) (ps : List Pair)
    (r2 r3 r4 r5 : List Token) (mid new : Place) → u ≡ Some up → is_counted up ≡ true → r2 ≡ key name ∷ r3 → r3 ≡ string text ∷ r4
    → text_field k ≡ Some name → k ≡ Element → SpellsField attribute_field r4 ps (end_object ∷ r5) → b.row ≡ labelled Element text [] ps
    → r5 ≡ mid.tokens → mid.last ≡ suc last → SpellsBelow mid.last mid b.children new
    → SpellsBelow up (record { tokens = row_start u r2; last = last }) (alone b) new
element_below u up last name text k b ps r2 r3 r4 r5 mid new is small e2 e3 f g s made e n r =
    row_and_below u up last r2 r5 mid new b.row b.children is (element_row_spelt up name text k b.row ps small e2 e3 f g s made)
    (ap (λ l. may_stand (up == 0) l.kind) made ∙ element_stands (up == 0))
    (ap (λ l. holds l.kind || is_no_node b.children) made) e n r

-- ---- rows below one row

-- The pile has what was on it, and the nodes of the rows from one place to another.
abbrev pub Piled : ℕ → ℕ → List (Branch Label) → List (Branch Label) → Place → Place → Type 0
Piled up from base pile old new = (from ≤ length pile) × (take from pile ≡ base) × SpellsBelow up old (nodes_of (drop from pile)) new

pub piled_turn : (up from : ℕ) (base pile more : List (Branch Label)) (b : Branch Label) (old middle new : Place)
    → Piled up from base pile old middle → SpellsBelow up middle (alone b) new → more ≡ pile ++ b ∷ [] → Piled up from base more old new
piled_turn up from base pile more b old middle new p s e =
    subst (λ ps. Piled up from base ps old new) (sym e) (
      omega (arith, p.0, length-append pile (b ∷ [])),
      take-append-le from pile (b ∷ []) p.0 ∙ p.1,
      subst (λ bs. SpellsBelow up old bs new)
          (sym (nodes_of-append (drop from pile) (b ∷ [])) ∙ ap nodes_of (sym (drop-append-le from pile (b ∷ []) p.0)))
          (beside_below up old middle new (nodes_of (drop from pile)) (alone b) p.2 s),
    )

-- ---- all rows

pub flat_spelt : (u v : Option ℕ) (old r1 r2 : List Token) (last : ℕ) (n : Nodes Label) → old ≡ row_start u r1
    → SpellsBelow 0 (record { tokens = row_start u r1; last = 0 }) n (record { tokens = row_start v r2; last = last }) → v ≡ None
    → SpellsItems flat_form old n r2
flat_spelt u v old r1 r2 last n e s is =
    let ends : SpellsItems rows_form (row_start v r2) [] r2 =
    subst (λ w. SpellsItems rows_form (row_start w r2) [] r2) (sym is) (list_end rows_form [] (row_start None r2) r2 refl refl) in
    let read : SpellsItems rows_form old (flat_rows 0 1 n) r2 =
    subst (λ rs. SpellsItems rows_form old rs r2) (append-nil (flat_rows 0 1 n))
    (subst (λ ts. SpellsItems rows_form ts (flat_rows 0 1 n ++ []) r2) (sym e) (s.rows [] r2 ends)) in
    nodes_spelt old r2 (flat_rows 0 1 n) n read
    (ap (option_and_then (λ m. cond (are_held true m) (Some m) None)) ((flat-is (flat_rows 0 1 n) n).1 refl)
    ∙ ap (λ h. cond h (Some n) None) s.held)
