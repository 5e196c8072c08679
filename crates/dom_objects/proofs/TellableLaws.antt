-- A shown tree that suits a message is told in a form that fits.
use Rattle.std.proofs.Common.{◌≡◌, ℕ, suc, ◌==◌, ◌<◌, Bool, true, false, cond, nat_lt, refl, sym, ap, ◌∙◌, arith, ltb-true}
use Rattle.std.proofs.lemmas.Bool.{ne_eqb, eqb-false}
use Rattle.cdp_json.specs.Kinds.{is_counted}
use Rattle.node_tree.specs.Labels.{is_document, holds, is_formed_label, is_named_label}
use Rattle.node_tree.specs.Nodes.{Nodes, none, node, width, is_no_node}
use Rattle.node_tree.specs.Seen.{Hold, leaf, counted, opened, Seen, is_opened}
use Rattle.dom_objects.specs.Told.{count_in, told_nodes}
use Rattle.dom_objects.specs.NodeObject.{same, fits_hold, fits_row}
use Rattle.dom_objects.specs.NodeData.{fits_nodes}
use Rattle.dom_objects.specs.Tellable.{suits_hold, suits_row, suits_below, suits_nodes}
use Rattle.dom_objects.specs.Tellable.{ShownTreesFit}
use Rattle.cdp_json.proofs.Options.{both, both_parts}

pub width-told_nodes : (p : ℕ) (n : Nodes Seen) → width (told_nodes p n) ≡ width n
width-told_nodes p none = refl
width-told_nodes p (node r c t) = ap suc (width-told_nodes p t)

equal_itself : (n : ℕ) → (n == n) ≡ true
equal_itself n = at (n == n) refl where
  at : (b : Bool) → (n == n) ≡ b → b ≡ true
  at true e = refl
  at false e = absurd (eqb-false n n e refl)

told_hold : (h : Hold) (container : Bool) (c : Nodes Seen) (w : ℕ) → width c ≡ w → suits_hold h container ≡ true
    → fits_hold h container (count_in h c) w ≡ true
told_hold leaf container c w e s = both s refl
told_hold (counted n) container c w e s = both s (equal_itself n)
told_hold opened container c w e s = both s (ap (λ x. width c == x) (sym e) ∙ equal_itself (width c))

told_below : (h : Hold) (p : ℕ) (c : Nodes Seen) → cond (is_opened h) true (is_no_node c) ≡ true
    → cond (is_opened h) true (is_no_node (told_nodes p c)) ≡ true
told_below leaf p none e = refl
told_below leaf p (node r c t) e = absurd cc
told_below (counted n) p none e = refl
told_below (counted n) p (node r c t) e = absurd cc
told_below opened p c e = refl

-- a row told under a parent, or the document without one
told_row : (top : Bool) (parent : ℕ) (r : Seen) (c : Nodes Seen) (w : ℕ) → width c ≡ w → is_counted parent ≡ true
    → same (parent == 0) top ≡ true → suits_row top r (count_in r.hold c) ≡ true
    → fits_row top w (record { parent = parent; count = count_in r.hold c; seen = r }) ≡ true
told_row top parent r c w e p z s =
    let p8 = both_parts _ (suits_hold r.hold (holds r.label.kind)) s in
    let p7 = both_parts _ (same (is_document r.label.kind) top) p8.0 in
    let p6 = both_parts _ (is_named_label r.label) p7.0 in
    let p5 = both_parts _ (is_formed_label r.label) p6.0 in
    let p4 = both_parts _ (nat_lt 0 r.serial) p5.0 in
    let p3 = both_parts _ (nat_lt 0 r.id) p4.0 in
    let p2 = both_parts _ (is_counted (count_in r.hold c)) p3.0 in
    let p1 = both_parts (is_counted r.id) (is_counted r.serial) p2.0 in
    both (both (both (both p1.0 p1.1) p2.1) p)
    (both (both (both (both (both (both p3.1 p4.1) p5.1) p6.1) p7.1) z) (told_hold r.hold (holds r.label.kind) c w e p8.1))

above_zero : (p : ℕ) → nat_lt 0 p ≡ true → same (p == 0) false ≡ true
above_zero p h = let big : 0 < p = ltb-true 0 p h in ap (λ b. same b false) (ne_eqb p 0 (λ e. omega arith))

-- the id of a row that suits is from 1 to 2^53-1
ids_suit : (top : Bool) (r : Seen) (count : ℕ) → suits_row top r count ≡ true → (is_counted r.id ≡ true) × (nat_lt 0 r.id ≡ true)
ids_suit top r count s =
    let p8 = both_parts _ (suits_hold r.hold (holds r.label.kind)) s in
    let p7 = both_parts _ (same (is_document r.label.kind) top) p8.0 in
    let p6 = both_parts _ (is_named_label r.label) p7.0 in
    let p5 = both_parts _ (is_formed_label r.label) p6.0 in
    let p4 = both_parts _ (nat_lt 0 r.serial) p5.0 in
    let p3 = both_parts _ (nat_lt 0 r.id) p4.0 in
    let p2 = both_parts _ (is_counted count) p3.0 in
    ((both_parts (is_counted r.id) (is_counted r.serial) p2.0).0, p3.1)

pub fits-told_nodes : (p : ℕ) (n : Nodes Seen) → is_counted p ≡ true → nat_lt 0 p ≡ true → suits_nodes n ≡ true
    → fits_nodes (told_nodes p n) ≡ true
fits-told_nodes p none k z s = refl
fits-told_nodes p (node r c t) k z s =
    let p3 = both_parts _ (suits_nodes t) s in
    let p2 = both_parts _ (suits_nodes c) p3.0 in
    let p1 = both_parts (suits_row false r (count_in r.hold c)) (suits_below r c) p2.0 in
    let id = ids_suit false r (count_in r.hold c) p1.0 in
    both (both (both (told_row false p r c (width (told_nodes r.id c)) (sym (width-told_nodes r.id c)) k (above_zero p z) p1.0)
    (told_below r.hold r.id c p1.1))
    (fits-told_nodes r.id c id.0 id.1 p2.1)) (fits-told_nodes p t k z p3.1)

pub shown_trees_fit : ShownTreesFit
shown_trees_fit b s =
    let p2 = both_parts _ (suits_nodes b.children) s in
    let p1 = both_parts (suits_row true b.row (count_in b.row.hold b.children)) (suits_below b.row b.children) p2.0 in
    let id = ids_suit true b.row (count_in b.row.hold b.children) p1.0 in
    both (both (told_row true 0 b.row b.children (width (told_nodes b.row.id b.children))
    (sym (width-told_nodes b.row.id b.children)) refl refl p1.0) (told_below b.row.hold b.row.id b.children p1.1))
    (fits-told_nodes b.row.id b.children id.0 id.1 p2.1)
