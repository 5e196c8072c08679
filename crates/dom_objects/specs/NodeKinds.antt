-- Nodes as descriptions of JSON: of a session, or told alone.
use Rattle.std.specs.Prelude.{Bool, false, not, None, true}
use Rattle.serde_json.specs.Data.{array}
use Rattle.cdp_json.specs.Kinds.{Kind, refined}
use Rattle.node_tree.specs.Nodes.{Nodes, Branch}
use Rattle.node_tree.specs.Seen.{is_opened}
use Rattle.dom_objects.specs.declared.node_rules.Manner.TheVariants.{Pushed, Described}
use Rattle.dom_objects.specs.Told.{Told}
use Rattle.dom_objects.specs.NodeData.{tree_data, tree_told, tree_items, trees_told, fits_tree, fits_nodes, fits_described_tree}

-- nodes that are no document, each with all that is shown of it
abbrev pub nodes_kind : Kind (Nodes Told)
nodes_kind = record { spell = λ n. array (tree_items n); reads = trees_told Pushed; fits = fits_nodes; loose = None }

-- one node that is no document, with all that is shown of it
abbrev pub tree_kind : Kind (Branch Told)
tree_kind = record { spell = tree_data; reads = tree_told Pushed false; fits = fits_tree false; loose = None }

-- no children are shown
abbrev pub shows_no_children : Branch Told → Bool
shows_no_children b = not (is_opened b.row.seen.hold)

-- one such node, none of whose children are shown
abbrev pub bare_kind : Kind (Branch Told)
bare_kind = refined tree_kind shows_no_children

-- a document with all that is shown of it
abbrev pub document_kind : Kind (Branch Told)
document_kind = record { spell = tree_data; reads = tree_told Pushed true; fits = fits_tree true; loose = None }

-- a node that is described alone, with all that is shown of it
abbrev pub described_kind : Kind (Branch Told)
described_kind = record { spell = tree_data; reads = tree_told Described true; fits = fits_described_tree; loose = None }
