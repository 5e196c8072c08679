-- The ids of the known nodes in document order, cut into shelves, and what an edit makes of them.
use Rattle.std.specs.Prelude.{◌≡◌, ℕ, ◌+◌, ◌≤◌, ◌==◌, cond, List, length}
use Rattle.std.specs.List.{flat_map}
use Rattle.node_tree.specs.Nodes.{Nodes, branch_count}
use Rattle.node_tree.specs.Seen.{Seen, seen_id}
use Rattle.client_views.specs.Views.{keys}
use Rattle.client_views.specs.Moves.{Change, shows, inserts, removes, counts, sets, drops, says}
use Rattle.front_mirror.specs.Shown.{known_at}
use Rattle.front_mirror.specs.declared.orders.Shelf.{Shelf}
use Rattle.front_mirror.specs.declared.order_changes.OrderChange.{OrderChange}
use Rattle.front_mirror.specs.Walks.{rank_of, spliced}

-- the ids of all shelves, one behind the other
abbrev pub ids_in : List Shelf → List ℕ
ids_in shelves = flat_map (λ (s : Shelf). s.ids) shelves

-- where a child goes in document order that comes behind that of an id, or first where the id is 0
abbrev pub place_behind : ℕ → ℕ → Nodes Seen → ℕ
place_behind parent previous n = cond {A = ℕ} (previous == 0) (rank_of seen_id parent n + 1)
    (rank_of seen_id previous n + branch_count (known_at previous n))

-- the place at which a change of the node of that id changes what stands in document order
abbrev pub change_place : ℕ → Change → Nodes Seen → ℕ
change_place id (shows kids) n = rank_of seen_id id n + 1
change_place id (inserts previous w) n = place_behind id previous n
change_place id (removes child) n = rank_of seen_id child n
change_place id (counts k) n = 0
change_place id (sets name value) n = 0
change_place id (drops name) n = 0
change_place id (says value) n = 0

-- how many nodes leave with a change
abbrev pub nodes_gone : Change → Nodes Seen → ℕ
nodes_gone (shows kids) n = 0
nodes_gone (inserts previous w) n = 0
nodes_gone (removes child) n = branch_count (known_at child n)
nodes_gone (counts k) n = 0
nodes_gone (sets name value) n = 0
nodes_gone (drops name) n = 0
nodes_gone (says value) n = 0

-- The ids of the second tree in document order are those of the first, of which some gave way to those that came.
pub record ChangesOrder (s : OrderChange) (before after : Nodes Seen) : Type 0 where
  pub fits : s.place + s.gone ≤ length (keys seen_id before)
  pub turned : keys seen_id after ≡ spliced s.place s.gone s.ids.items (keys seen_id before)
