-- How deep the JSON of nodes nests.
use Rattle.std.proofs.Common.{ℕ, suc, ◌+◌, ◌*◌, ◌≤◌, max, List, [], ◌∷◌, Bool, true, false, nat_lt, map, Option, Some, None, option_map}
use Rattle.std.proofs.Common.{arith}
use Rattle.std.specs.Prelude.{codes, ⊤}
use Rattle.serde_json.specs.Data.{Data, string, Items, Members, no_members, member, depth, items_depth, members_depth}
use Rattle.serde_json.specs.View.{items_of}
use Rattle.cdp_json.specs.Kinds.{whole, any_items}
use Rattle.cdp_json.specs.Rows.{maybe_member}
use Rattle.node_tree.specs.Labels.{Pair, is_element, holds}
use Rattle.node_tree.specs.Nodes.{Nodes, none, node, Branch, alone, height}
use Rattle.node_tree.specs.Seen.{is_opened}
use Rattle.dom_objects.specs.Told.{Told}
use Rattle.dom_objects.specs.NodeObject.{flat, attribute_list, node_type, node_name, local_name, only_if, node_data}
use Rattle.dom_objects.specs.NodeData.{tree_items, tree_data}

-- a value, if any, nests no deeper
abbrev Within : ℕ → Option Data → Type 0
Within x None = ⊤
Within x (Some d) = depth d ≤ x

within_member : (x : ℕ) (k : List ℕ) (d : Data) (ms : Members) → depth d ≤ x → members_depth ms ≤ x → members_depth (member k d ms) ≤ x
within_member x k d ms h r = omega arith

within_maybe : (x : ℕ) (k : List ℕ) (o : Option Data) (ms : Members) → Within x o → members_depth ms ≤ x
    → members_depth (maybe_member k o ms) ≤ x
within_maybe x k None ms h r = r
within_maybe x k (Some d) ms h r = omega arith

pub texts_depth : (ss : List (List ℕ)) → items_depth (items_of (map string ss)) ≤ 0
texts_depth [] = omega arith
texts_depth (s ∷ ss) = omega (arith, texts_depth ss)

attributes_within : (x : ℕ) (b : Bool) (ps : List Pair) → 1 ≤ x → Within x (option_map attribute_list.spell (only_if b ps))
attributes_within x true ps h = omega (arith, texts_depth (flat ps))
attributes_within x false ps h = tt

whole_within : (x : ℕ) (b : Bool) (n : ℕ) → Within x (option_map whole.spell (only_if b n))
whole_within x true n = omega arith
whole_within x false n = tt

children_within : (b : Bool) (ds : Items) → Within (suc (items_depth ds)) (option_map any_items.spell (only_if b ds))
children_within true ds = omega arith
children_within false ds = tt

node_depth : (r : Told) (ds : Items) → depth (node_data r ds) ≤ 2 + items_depth ds
node_depth r ds =
    let k = r.seen.label.kind in
    let x = suc (items_depth ds) in
    let p1 = option_map whole.spell (only_if (nat_lt 0 r.parent) r.parent) in
    let m9 = maybe_member (codes "parentId") p1 no_members in
    let m8 = member (codes "nodeValue") (string r.seen.label.value) m9 in
    let m7 = member (codes "nodeType") (node_type.spell k) m8 in
    let m6 = member (codes "nodeName") (string (node_name r.seen.label)) m7 in
    let m5 = member (codes "nodeId") (whole.spell r.seen.id) m6 in
    let m4 = member (codes "localName") (string (local_name r.seen.label)) m5 in
    let m3 = maybe_member (codes "children") (option_map any_items.spell (only_if (is_opened r.seen.hold) ds)) m4 in
    let m2 = maybe_member (codes "childNodeCount") (option_map whole.spell (only_if (holds k) r.count)) m3 in
    let m1 = member (codes "backendNodeId") (whole.spell r.seen.serial) m2 in
    let m0 = maybe_member (codes "attributes") (option_map attribute_list.spell (only_if (is_element k) r.seen.label.attributes)) m1 in
    let e9 : members_depth m9 ≤ x = within_maybe x (codes "parentId") p1 no_members (whole_within x (nat_lt 0 r.parent) r.parent)
    (omega arith) in
    let e4 : members_depth m4 ≤ x =
    within_member x (codes "localName") (string (local_name r.seen.label)) m5 (omega arith)
    (within_member x (codes "nodeId") (whole.spell r.seen.id) m6 (omega arith)
    (within_member x (codes "nodeName") (string (node_name r.seen.label)) m7 (omega arith)
    (within_member x (codes "nodeType") (node_type.spell k) m8 (omega arith)
    (within_member x (codes "nodeValue") (string r.seen.label.value) m9 (omega arith) e9)))) in
    let e0 : members_depth m0 ≤ x =
    within_maybe x (codes "attributes") (option_map attribute_list.spell (only_if (is_element k) r.seen.label.attributes)) m1
    (attributes_within x (is_element k) r.seen.label.attributes (omega arith))
    (within_member x (codes "backendNodeId") (whole.spell r.seen.serial) m2 (omega arith)
    (within_maybe x (codes "childNodeCount") (option_map whole.spell (only_if (holds k) r.count)) m3 (whole_within x (holds k) r.count)
    (within_maybe x (codes "children") (option_map any_items.spell (only_if (is_opened r.seen.hold) ds)) m4
    (children_within (is_opened r.seen.hold) ds) e4))) in
    up (members_depth m0) (items_depth ds) e0 where
      up : (m i : ℕ) → m ≤ suc i → suc m ≤ 2 + i
      up m i h = omega arith

pub trees_depth : (n : Nodes Told) → items_depth (tree_items n) ≤ 2 * height n
trees_depth none = omega arith
trees_depth (node r c t) = larger _ _ (height c) (height t) (node_depth r (tree_items c)) (trees_depth c) (trees_depth t) where
  larger : (d e h g : ℕ) {i : ℕ} → d ≤ 2 + i → i ≤ 2 * h → e ≤ 2 * g → max d e ≤ 2 * max (suc h) g
  larger d e h g p q r = omega arith

pub tree_depth : (b : Branch Told) → depth (tree_data b) ≤ 2 * height (alone b)
tree_depth b = twice _ _ (node_depth b.row (tree_items b.children)) (trees_depth b.children) where
  twice : (d h : ℕ) {i : ℕ} → d ≤ 2 + i → i ≤ 2 * h → d ≤ 2 * max (suc h) 0
  twice d h p q = omega arith
