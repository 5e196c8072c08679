-- The ids so far, before those of the nodes that are left.
use Rattle.std.proofs.Common.{◌≡◌, ◌+◌, ◌-◌, ◌*◌, ◌<◌, ◌++◌, suc, drop}
use Rattle.node_tree.specs.Seen.{seen_id}
use Rattle.client_views.specs.Views.{keys}
use Rattle.front_mirror.specs.Tables.{table_trees}
use Rattle.front_mirror.proofs.table.Table.+listing.Given as goal

abbrev pub decreases-list_one : goal.decreases-list_one
decreases-list_one l = 2 * l.levels + 1

abbrev pub decreases-list_all : goal.decreases-list_all
decreases-list_all l = 2 * l.levels

abbrev pub invariant-list_all-loop-i : goal.invariant-list_all-loop-i
invariant-list_all-loop-i l = record {
  some : 0 < l.levels;
  listed :
      l.ids.items ++ keys seen_id (table_trees l.self (suc (l.levels - 1)) (drop l.i l.roots))
      ≡ l.initial.ids.items ++ keys seen_id (table_trees l.self (suc (l.levels - 1)) l.roots);
}
