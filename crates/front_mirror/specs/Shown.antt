-- What a mirror shows, and how its nodes are found.
use Rattle.std.specs.Prelude.{ℕ, List, [], unwrap_or}
use Rattle.node_tree.specs.Nodes.{Nodes, none, node, Branch, nodes_of}
use Rattle.node_tree.specs.declared.Kind.TheVariants.{Document}
use Rattle.node_tree.specs.Keys.{find}
use Rattle.node_tree.specs.Seen.{Seen, leaf, seen_id}
use Rattle.dom_objects.specs.Told.{Told, seen_nodes}

-- what these trees of a message show
abbrev pub shown_of : List (Branch Told) → Nodes Seen
shown_of trees = seen_nodes (nodes_of trees)

-- what stands for a node that is not there
abbrev pub no_node : Branch Seen
no_node = record {
  row = record { id = 0; serial = 0; label = record { kind = Document; name = []; value = []; attributes = [] }; hold = leaf };
  children = none;
}

-- the node of that id
abbrev pub known_at : ℕ → Nodes Seen → Branch Seen
known_at id tree = unwrap_or (find seen_id id tree) no_node

-- the id of the first tree's root, or 0
abbrev pub root_id : Nodes Seen → ℕ
root_id none = 0
root_id (node r c t) = r.id

-- the keys by which a told node is found: those of what is shown of it
abbrev pub told_id : Told → ℕ
told_id r = r.seen.id

-- the serial of a told node
abbrev pub told_serial : Told → ℕ
told_serial r = r.seen.serial
