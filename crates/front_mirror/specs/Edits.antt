-- Changes of a node as code holds them, and the tree after one.
use Rattle.std.specs.Prelude.{ℕ, Bool, true, false, ◌&&◌, Option, Some, None}
use Rattle.std.specs.Option.{option_map_or}
use Rattle.node_tree.specs.Nodes.{Nodes, none, Branch, nodes_of, alone}
use Rattle.node_tree.specs.Keys.{Spot, find, put}
use Rattle.node_tree.specs.Labels.{is_formed_label}
use Rattle.node_tree.specs.Seen.{Seen, seen_id}
use Rattle.dom_objects.specs.Told.{Told, seen_nodes, seen_branch}
use Rattle.client_views.specs.Moves.{Change, shows, inserts, removes, counts, sets, drops, says, changed, suits_change, has_named_attribute}
use Rattle.dom_objects.specs.NodeData.{fits_tree, fits_nodes}
use Rattle.client_views.specs.declared.effects.Effect.{Effect}
use Rattle.client_views.specs.declared.effects.Effect.TheVariants as effect
use Rattle.front_mirror.specs.declared.edits.NodeChange.{NodeChange}
use Rattle.front_mirror.specs.declared.edits.NodeChange.TheVariants as edit
use Rattle.front_mirror.specs.declared.faults.FrontKind.{FrontKind}
use Rattle.front_mirror.specs.declared.faults.FrontKind.TheVariants.{UnknownNode}
use Rattle.front_mirror.specs.Front.{ToldChange, told_change, change_fault}
use Rattle.front_mirror.specs.Shown.{known_at}

-- a document that comes has the forms of one
abbrev pub fits_effect : Effect → Bool
fits_effect (effect.Document tree) = fits_tree true tree
fits_effect (effect.SheetText text) = true
fits_effect effect.AllOff = true
fits_effect effect.SheetsOff = true
fits_effect effect.NothingElse = true

-- the nodes that come with an edit
abbrev pub edit_nodes : NodeChange → Nodes Told
edit_nodes (edit.Show nodes) = nodes_of nodes.items
edit_nodes (edit.Insert previous tree) = alone tree
edit_nodes (edit.Remove id) = none
edit_nodes (edit.Count count) = none
edit_nodes (edit.SetAttribute name value) = none
edit_nodes (edit.DropAttribute name) = none
edit_nodes (edit.SetValue value) = none

-- what becomes of the node
abbrev pub edit_change : NodeChange → Change
edit_change (edit.Show nodes) = shows (seen_nodes (nodes_of nodes.items))
edit_change (edit.Insert previous tree) = inserts previous (seen_branch tree)
edit_change (edit.Remove id) = removes id
edit_change (edit.Count count) = counts count
edit_change (edit.SetAttribute name value) = sets name value
edit_change (edit.DropAttribute name) = drops name
edit_change (edit.SetValue value) = says value

-- the edit of the node of that id, as an event tells it
abbrev pub edit_told : ℕ → NodeChange → ToldChange
edit_told id e = told_change id (edit_change e) (edit_nodes e)

-- the nodes that come have the forms of a message, and the name that it tells has its form
abbrev pub fits_edit : NodeChange → Bool
fits_edit e = fits_nodes (edit_nodes e) && has_named_attribute (edit_change e)

-- the change may be told of the node, whose label has its form
abbrev pub can_change : Change → Branch Seen → Bool
can_change c b = suits_change c b && is_formed_label b.row.label

-- the node of that id is there, and the change may be told of it
abbrev pub is_ready : ℕ → Change → Nodes Seen → Bool
is_ready id c tree = option_map_or (can_change c) (find seen_id id tree) false

-- what is wrong with a change of a node, which is known or is not
abbrev pub spot_fault : Nodes Seen → ToldChange → Option (Spot Seen) → Option FrontKind
spot_fault tree t None = Some UnknownNode
spot_fault tree t (Some s) = change_fault tree t s

-- the tree with the node of that id changed
abbrev pub with_changed : ℕ → Change → Nodes Seen → Nodes Seen
with_changed id c tree = put seen_id id (changed c (known_at id tree)) tree
