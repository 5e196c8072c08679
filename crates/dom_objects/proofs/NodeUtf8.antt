-- The JSON of nodes is UTF-8 where their texts are.
use Rattle.std.proofs.Common.{◌≡◌, ℕ, ◌-◌, ◌==◌, ◌<◌, ◌≤◌, List, [], ◌∷◌, Bool, true, false, cond, ◌&&◌, ◌||◌, ◌⊎◌, inl, inr, nat_lt, map}
use Rattle.std.proofs.Common.{length, Option, Some, None, option_map, refl, arith, lt-ltb, eqb-true}
use Rattle.std.specs.Prelude.{codes, IsUtf8, nat_le, ⊤}
use Rattle.std.specs.Char.{to_ascii_uppercase}
use Rattle.std.specs.List.{list_all}
use Rattle.std.specs.Str.{str_to_ascii_uppercase}
use Rattle.std.proofs.lemmas.Bool.{leb-true}
use Rattle.json.proofs.Printed.Utf8.{are_ascii, IsUtf8-are_ascii}
use Rattle.serde_json.specs.Data.{Data, string, Items, Members, no_members, member}
use Rattle.serde_json.specs.View.{items_of}
use Rattle.cdp_json.specs.Plain.{HasUtf8, ItemsHaveUtf8, MembersHaveUtf8}
use Rattle.cdp_json.specs.Kinds.{whole, any_items}
use Rattle.cdp_json.specs.Rows.{maybe_member}
use Rattle.node_tree.specs.declared.Kind.{Kind}
use Rattle.node_tree.specs.declared.Kind.TheVariants.{Document, Element, Text, Comment, Doctype}
use Rattle.node_tree.specs.Labels.{Pair, is_element, holds, has_name, is_named_label}
use Rattle.node_tree.specs.Names.{is_letter, is_name_byte, is_element_name}
use Rattle.node_tree.specs.Nodes.{Nodes, none, node, Branch, alone, width}
use Rattle.node_tree.specs.Seen.{is_opened}
use Rattle.dom_objects.specs.declared.node_rules.Manner.{Manner}
use Rattle.dom_objects.specs.Told.{Told}
use Rattle.dom_objects.specs.NodeObject.{flat, attribute_list, node_type, name_shown, local_name_of, node_name, local_name, only_if}
use Rattle.dom_objects.specs.NodeObject.{node_data, is_counted_row, fits_told, row_fits}
use Rattle.dom_objects.specs.NodeData.{tree_items, tree_data, nodes_fit, tree_fits}
use Rattle.node_tree.specs.Labels.{PairsHaveUtf8, LabelHasUtf8}
use Rattle.dom_objects.specs.NodeTexts.{NodesHaveUtf8}
use Rattle.cdp_json.proofs.Options.{both, both_parts}
use Rattle.dom_objects.proofs.NodeObjects.{standing}
use Rattle.dom_objects.proofs.NodeTrees.{fitting_in, tree_in}

or_cases : (a b : Bool) → (a || b) ≡ true → (a ≡ true) ⊎ (b ≡ true)
or_cases true b e = inl refl
or_cases false b e = inr e

within : (low b high : ℕ) → high < 128 → (nat_le low b && nat_le b high) ≡ true → b < 128
within low b high h e = let below : b ≤ high = leb-true b high (both_parts (nat_le low b) (nat_le b high) e).1 in omega arith

equal_within : (b c : ℕ) → c < 128 → (b == c) ≡ true → b < 128
equal_within b c h e = let same : b ≡ c = eqb-true b c e in omega arith

name_byte_below : (b : ℕ) → is_name_byte b ≡ true → b < 128
name_byte_below b e =
    elim (or_cases _ (b == 46) e) as (λ _. b < 128) [
      | inr e4 ↦ equal_within b 46 (omega arith) e4
      | inl r3 ↦ elim (or_cases _ (b == 95) r3) as (λ _. b < 128) [
        | inr e3 ↦ equal_within b 95 (omega arith) e3
        | inl r2 ↦ elim (or_cases _ (b == 45) r2) as (λ _. b < 128) [
          | inr e2 ↦ equal_within b 45 (omega arith) e2
          | inl r1 ↦ elim (or_cases (is_letter b) (nat_le 48 b && nat_le b 57) r1) as (λ _. b < 128) [
            | inl e0 ↦ within 97 b 122 (omega arith) e0
            | inr e1 ↦ within 48 b 57 (omega arith) e1
          ]
        ]
      ]
    ]

upper_below : (b : ℕ) → b < 128 → nat_lt (to_ascii_uppercase b) 128 ≡ true
upper_below b h = lt-ltb (to_ascii_uppercase b) 128 (at (nat_lt b 97) (nat_lt b 123)) where
  at : (x y : Bool) → cond x b (cond y (b - 32) b) < 128
  at true y = h
  at false true = omega arith
  at false false = h

upper_ascii : (bs : List ℕ) → list_all is_name_byte bs ≡ true → are_ascii (map to_ascii_uppercase bs) ≡ true
upper_ascii [] e = refl
upper_ascii (b ∷ bs) e =
    let p = both_parts (is_name_byte b) (list_all is_name_byte bs) e in
    both (upper_below b (name_byte_below b p.0)) (upper_ascii bs p.1)

upper_name : (name : List ℕ) → is_element_name name ≡ true → IsUtf8 (str_to_ascii_uppercase name)
upper_name [] e = absurd cc
upper_name (b ∷ bs) e =
    let p = both_parts (is_letter b && nat_le (length (b ∷ bs)) 64) (list_all is_name_byte bs) e in
    let q = both_parts (is_letter b) (nat_le (length (b ∷ bs)) 64) p.0 in
    IsUtf8-are_ascii (str_to_ascii_uppercase (b ∷ bs)) (both (upper_below b (within 97 b 122 (omega arith) q.0)) (upper_ascii bs p.1))

shown_utf8 : (k : Kind) (name : List ℕ) → cond (has_name k) (is_element_name name) true ≡ true → IsUtf8 name → IsUtf8 (name_shown k name)
shown_utf8 Document name e u = IsUtf8-are_ascii (codes "#document") refl
shown_utf8 Element name e u = upper_name name e
shown_utf8 Text name e u = IsUtf8-are_ascii (codes "#text") refl
shown_utf8 Comment name e u = IsUtf8-are_ascii (codes "#comment") refl
shown_utf8 Doctype name e u = u

local_utf8 : (k : Kind) (name : List ℕ) → IsUtf8 name → IsUtf8 (local_name_of k name)
local_utf8 k name u = at (is_element k) where
  at : (b : Bool) → IsUtf8 (cond b name [])
  at true = u
  at false = IsUtf8-are_ascii [] refl

abbrev IfThere : Option Data → Type 0
IfThere None = ⊤
IfThere (Some d) = HasUtf8 d

utf8_maybe : (k : List ℕ) (o : Option Data) (ms : Members) → IsUtf8 k → IfThere o → MembersHaveUtf8 ms
    → MembersHaveUtf8 (maybe_member k o ms)
utf8_maybe k None ms u h r = r
utf8_maybe k (Some d) ms u h r = (u, h, r)

pub pairs_utf8 : (ps : List Pair) → PairsHaveUtf8 ps → ItemsHaveUtf8 (items_of (map string (flat ps)))
pairs_utf8 [] u = tt
pairs_utf8 (p ∷ ps) u = (u.0, (u.1, pairs_utf8 ps u.2))

attributes_utf8 : (b : Bool) (ps : List Pair) → PairsHaveUtf8 ps → IfThere (option_map attribute_list.spell (only_if b ps))
attributes_utf8 true ps u = pairs_utf8 ps u
attributes_utf8 false ps u = tt

whole_utf8 : (b : Bool) (n : ℕ) → IfThere (option_map whole.spell (only_if b n))
whole_utf8 true n = tt
whole_utf8 false n = tt

children_utf8 : (b : Bool) (ds : Items) → ItemsHaveUtf8 ds → IfThere (option_map any_items.spell (only_if b ds))
children_utf8 true ds u = u
children_utf8 false ds u = tt

node_utf8 : (r : Told) (ds : Items) → is_named_label r.seen.label ≡ true → LabelHasUtf8 r.seen.label → ItemsHaveUtf8 ds
    → HasUtf8 (node_data r ds)
node_utf8 r ds f u below =
    let l = r.seen.label in
    let k = l.kind in
    let named = (both_parts (cond (has_name k) (is_element_name l.name) true) _ f).0 in
    let p1 = option_map whole.spell (only_if (nat_lt 0 r.parent) r.parent) in
    let m9 = maybe_member (codes "parentId") p1 no_members in
    let m4 = member (codes "localName") (string (local_name l))
    (member (codes "nodeId") (whole.spell r.seen.id) (member (codes "nodeName") (string (node_name l))
    (member (codes "nodeType") (node_type.spell k) (member (codes "nodeValue") (string l.value) m9)))) in
    let m3 = maybe_member (codes "children") (option_map any_items.spell (only_if (is_opened r.seen.hold) ds)) m4 in
    let m2 = maybe_member (codes "childNodeCount") (option_map whole.spell (only_if (holds k) r.count)) m3 in
    let m1 = member (codes "backendNodeId") (whole.spell r.seen.serial) m2 in
    utf8_maybe (codes "attributes") (option_map attribute_list.spell (only_if (is_element k) l.attributes)) m1
    (IsUtf8-are_ascii (codes "attributes") refl) (attributes_utf8 (is_element k) l.attributes u.2) (
      IsUtf8-are_ascii (codes "backendNodeId") refl,
      tt,
      utf8_maybe (codes "childNodeCount") (option_map whole.spell (only_if (holds k) r.count)) m3
          (IsUtf8-are_ascii (codes "childNodeCount") refl) (whole_utf8 (holds k) r.count)
          (utf8_maybe (codes "children") (option_map any_items.spell (only_if (is_opened r.seen.hold) ds)) m4
          (IsUtf8-are_ascii (codes "children") refl) (children_utf8 (is_opened r.seen.hold) ds below) (
            IsUtf8-are_ascii (codes "localName") refl,
            local_utf8 k l.name u.0,
            (
              IsUtf8-are_ascii (codes "nodeId") refl,
              tt,
              (
                IsUtf8-are_ascii (codes "nodeName") refl,
                shown_utf8 k l.name named u.0,
                (
                  IsUtf8-are_ascii (codes "nodeType") refl,
                  tt,
                  (
                    IsUtf8-are_ascii (codes "nodeValue") refl,
                    u.1,
                    utf8_maybe (codes "parentId") p1 no_members (IsUtf8-are_ascii (codes "parentId") refl)
                        (whole_utf8 (nat_lt 0 r.parent) r.parent) tt,
                  ),
                ),
              ),
            ),
          )),
    )

-- the names of a row that fits have their forms
named_row : (m : Manner) (top : Bool) (w : ℕ) (r : Told) → row_fits m top w r ≡ true → is_named_label r.seen.label ≡ true
named_row m top w r f = (standing m top w r (both_parts (is_counted_row r) (fits_told m top w r) f).1).named

pub trees_utf8 : (m : Manner) (n : Nodes Told) → nodes_fit m n ≡ true → NodesHaveUtf8 n → ItemsHaveUtf8 (tree_items n)
trees_utf8 m none f u = tt
trees_utf8 m (node r c t) f u =
    let p = fitting_in m r c t f in
    (node_utf8 r (tree_items c) (named_row m false (width c) r p.row) u.0 (trees_utf8 m c p.children u.1), trees_utf8 m t p.later u.2)

pub tree_utf8 : (m : Manner) (top : Bool) (b : Branch Told) → tree_fits m top b ≡ true → NodesHaveUtf8 (alone b) → HasUtf8 (tree_data b)
tree_utf8 m top b f u =
    let p = tree_in m top b f in
    node_utf8 b.row (tree_items b.children) (named_row m top (width b.children) b.row p.row) u.0 (trees_utf8 m b.children p.children u.1)
