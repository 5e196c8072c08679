-- What panels are told of a change of one node.
use Rattle.std.specs.Prelude.{ℕ}
use Rattle.std.specs.Option.{option_map_or}
use Rattle.node_tree.specs.Nodes.{Nodes, Branch, branch_count, tree_at}
use Rattle.node_tree.specs.Seen.{Seen}
use Rattle.client_views.specs.Moves.{Change, shows, inserts, removes, counts, sets, drops, says}
use Rattle.number_map.specs.Places.{number_place}
use Rattle.front_mirror.specs.Tables.{root_ids}
use Rattle.front_mirror.specs.declared.panels.Change.{Change as PanelChange}
use Rattle.front_mirror.specs.declared.panels.Change.TheVariants.{Opened, Inserted, Removed, Changed}

-- the place of the first of these trees with that id, and else the number of them
abbrev pub tree_place : ℕ → Nodes Seen → ℕ
tree_place id n = number_place id (root_ids n)

-- what is told of a change of the node of that id
abbrev pub panel_change : ℕ → Change → Branch Seen → PanelChange
panel_change id (shows kids) b = Opened id
panel_change id (inserts previous w) b = Inserted id w.row.id
panel_change id (removes child) b =
    Removed id (tree_place child b.children) child (option_map_or (λ (w : Branch Seen). branch_count w)
    (tree_at (tree_place child b.children) b.children) 0)
panel_change id (counts n) b = Changed id
panel_change id (sets name value) b = Changed id
panel_change id (drops name) b = Changed id
panel_change id (says value) b = Changed id
