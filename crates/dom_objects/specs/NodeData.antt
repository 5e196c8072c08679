-- A tree of nodes as JSON, and read from it.
use Rattle.std.specs.Prelude.{codes, Bool, true, false, ◌&&◌, cond, Option, Some, None, option_map, bytes_eq}
use Rattle.serde_json.specs.Data.{Data, null, boolean, number, string, array, object, Items, no_items, item, Members, no_members, member}
use Rattle.node_tree.specs.Nodes.{Nodes, none, node, Branch, width, is_no_node}
use Rattle.node_tree.specs.Seen.{is_opened}
use Rattle.dom_objects.specs.declared.node_rules.Manner.{Manner}
use Rattle.dom_objects.specs.declared.node_rules.Manner.TheVariants.{Pushed, Described}
use Rattle.dom_objects.specs.Told.{Told}
use Rattle.dom_objects.specs.NodeObject.{NodeObject, node_data, told_in, row_fits, node_object}

-- ---- written

-- nodes side by side, as the items of an array
abbrev pub tree_items : Nodes Told → Items
tree_items none = no_items
tree_items (node r c t) = item (node_data r (tree_items c)) (tree_items t)

-- a node's object, with all that is shown below it
abbrev pub tree_data : Branch Told → Data
tree_data b = node_data b.row (tree_items b.children)

-- ---- which trees are written: each row fits, and what is not opened has no children here

-- children may stand under the row
abbrev pub fits_below : Told → Nodes Told → Bool
fits_below r c = cond (is_opened r.seen.hold) true (is_no_node c)

-- nodes below the top, told in this manner, each in its place
abbrev pub nodes_fit : Manner → Nodes Told → Bool
nodes_fit manner none = true
nodes_fit manner (node r c t) = row_fits manner false (width c) r && fits_below r c && nodes_fit manner c && nodes_fit manner t

-- nodes of a session, none of which is its document
abbrev pub fits_nodes : Nodes Told → Bool
fits_nodes n = nodes_fit Pushed n

-- a tree that is told in this manner, from the top down or from below it (`top`)
abbrev pub tree_fits : Manner → Bool → Branch Told → Bool
tree_fits manner top b = row_fits manner top (width b.children) b.row && fits_below b.row b.children && nodes_fit manner b.children

-- a tree of a session, whose root is the document, or is not (`top`)
abbrev pub fits_tree : Bool → Branch Told → Bool
fits_tree top b = tree_fits Pushed top b

-- nodes below one that is described alone
abbrev pub fits_described_nodes : Nodes Told → Bool
fits_described_nodes n = nodes_fit Described n

-- a tree that is described alone
abbrev pub fits_described_tree : Branch Told → Bool
fits_described_tree b = tree_fits Described true b

-- ---- read

-- a row over the nodes that stand below it
abbrev pub over : Option NodeObject → Option (Nodes Told) → Option (Branch Told)
over None c = None
over (Some o) c = option_map (λ n. record { row = told_in o; children = n }) c

-- a tree before those that follow it
abbrev pub tree_before : Option (Branch Told) → Option (Nodes Told) → Option (Nodes Told)
tree_before None t = None
tree_before (Some b) t = option_map (node b.row b.children) t

-- a node and the nodes below it, as JSON spells them
abbrev mutual
  -- a node that is told in this manner, at the top or below it
  pub tree_told : Manner → Bool → Data → Option (Branch Told)
  tree_told manner top null = None
  tree_told manner top (boolean b) = None
  tree_told manner top (number n) = None
  tree_told manner top (string s) = None
  tree_told manner top (array ds) = None
  tree_told manner top (object ms) = over ((node_object manner top).reads (object ms)) (children_told manner ms)

  -- the trees of the array named `children`; none where there is no such member
  pub children_told : Manner → Members → Option (Nodes Told)
  children_told manner no_members = Some none
  children_told manner (member k d ms) = cond (bytes_eq (codes "children") k) (trees_told manner d) (children_told manner ms)

  -- the trees of an array, and of nothing else
  pub trees_told : Manner → Data → Option (Nodes Told)
  trees_told manner null = None
  trees_told manner (boolean b) = None
  trees_told manner (number n) = None
  trees_told manner (string s) = None
  trees_told manner (array ds) = trees_of manner ds
  trees_told manner (object ms) = None

  -- nodes below the top
  pub trees_of : Manner → Items → Option (Nodes Told)
  trees_of manner no_items = Some none
  trees_of manner (item d ds) = tree_before (tree_told manner false d) (trees_of manner ds)
