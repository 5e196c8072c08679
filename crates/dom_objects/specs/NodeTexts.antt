-- Nodes whose texts are UTF-8.
use Rattle.std.specs.Prelude.{⊤}
use Rattle.node_tree.specs.Nodes.{Nodes, none, node}
use Rattle.dom_objects.specs.Told.{Told}
use Rattle.node_tree.specs.Labels.{LabelHasUtf8}

-- the texts of all nodes are UTF-8
abbrev pub NodesHaveUtf8 : Nodes Told → Type 0
NodesHaveUtf8 none = ⊤
NodesHaveUtf8 (node r c t) = LabelHasUtf8 r.seen.label × NodesHaveUtf8 c × NodesHaveUtf8 t
