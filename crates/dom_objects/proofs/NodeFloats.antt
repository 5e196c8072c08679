-- Nodes have no number that is not whole.
use Rattle.std.proofs.Common.{◌≡◌, ℕ, List, [], ◌∷◌, Bool, true, false, ◌||◌, nat_lt, map, Option, Some, None, option_map, refl}
use Rattle.std.specs.Prelude.{codes, ⊤}
use Rattle.serde_json.specs.Data.{Data, string, Items, Members, no_members, member}
use Rattle.serde_json.specs.View.{items_of}
use Rattle.serde_json.specs.Written.{has_float, items_have_float, members_have_float}
use Rattle.cdp_json.specs.Kinds.{whole, any_items}
use Rattle.cdp_json.specs.Rows.{maybe_member}
use Rattle.node_tree.specs.Labels.{Pair, is_element, holds}
use Rattle.node_tree.specs.Nodes.{Nodes, none, node, Branch}
use Rattle.node_tree.specs.Seen.{is_opened}
use Rattle.dom_objects.specs.Told.{Told}
use Rattle.dom_objects.specs.NodeObject.{flat, attribute_list, node_type, node_name, local_name, only_if, node_data}
use Rattle.dom_objects.specs.NodeData.{tree_items, tree_data}

pub either : {a b : Bool} → a ≡ false → b ≡ false → (a || b) ≡ false
either p q = rw (p, q)

-- a value, if any, has no such number
abbrev is_free : Option Data → Type 0
is_free None = ⊤
is_free (Some d) = has_float d ≡ false

maybe_free : (k : List ℕ) (o : Option Data) (ms : Members) → is_free o → members_have_float ms ≡ false
    → members_have_float (maybe_member k o ms) ≡ false
maybe_free k None ms f r = r
maybe_free k (Some d) ms f r = either f r

pub texts_free : (ss : List (List ℕ)) → items_have_float (items_of (map string ss)) ≡ false
texts_free [] = refl
texts_free (s ∷ ss) = texts_free ss

attributes_free : (b : Bool) (ps : List Pair) → is_free (option_map attribute_list.spell (only_if b ps))
attributes_free true ps = texts_free (flat ps)
attributes_free false ps = tt

whole_free : (b : Bool) (n : ℕ) → is_free (option_map whole.spell (only_if b n))
whole_free true n = refl
whole_free false n = tt

children_free : (b : Bool) (ds : Items) → items_have_float ds ≡ false → is_free (option_map any_items.spell (only_if b ds))
children_free true ds f = f
children_free false ds f = tt

node_free : (r : Told) (ds : Items) → items_have_float ds ≡ false → has_float (node_data r ds) ≡ false
node_free r ds f =
    let k = r.seen.label.kind in
    let m5 = member (codes "localName") (string (local_name r.seen.label))
    (member (codes "nodeId") (whole.spell r.seen.id) (member (codes "nodeName") (string (node_name r.seen.label))
    (member (codes "nodeType") (node_type.spell k)
    (member (codes "nodeValue") (string r.seen.label.value)
    (maybe_member (codes "parentId") (option_map whole.spell (only_if (nat_lt 0 r.parent) r.parent)) no_members))))) in
    let m4 = maybe_member (codes "children") (option_map any_items.spell (only_if (is_opened r.seen.hold) ds)) m5 in
    let m3 = maybe_member (codes "childNodeCount") (option_map whole.spell (only_if (holds k) r.count)) m4 in
    let m2 = member (codes "backendNodeId") (whole.spell r.seen.serial) m3 in
    maybe_free (codes "attributes") (option_map attribute_list.spell (only_if (is_element k) r.seen.label.attributes)) m2
    (attributes_free (is_element k) r.seen.label.attributes)
    (maybe_free (codes "childNodeCount") (option_map whole.spell (only_if (holds k) r.count)) m4 (whole_free (holds k) r.count)
    (maybe_free (codes "children") (option_map any_items.spell (only_if (is_opened r.seen.hold) ds)) m5
    (children_free (is_opened r.seen.hold) ds f)
    (maybe_free (codes "parentId") (option_map whole.spell (only_if (nat_lt 0 r.parent) r.parent)) no_members
    (whole_free (nat_lt 0 r.parent) r.parent) refl)))

pub trees_free : (n : Nodes Told) → items_have_float (tree_items n) ≡ false
trees_free none = refl
trees_free (node r c t) = either (node_free r (tree_items c) (trees_free c)) (trees_free t)

pub tree_free : (b : Branch Told) → has_float (tree_data b) ≡ false
tree_free b = node_free b.row (tree_items b.children) (trees_free b.children)
