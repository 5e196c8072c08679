-- The lines so far, before those of the nodes that are left.
use Rattle.std.proofs.Common.{◌≡◌, ◌+◌, ◌-◌, ◌*◌, ◌<◌, ◌++◌, suc, drop}
use Rattle.front_mirror.specs.Outline.{lines_at, seen_line}
use Rattle.front_mirror.specs.Tables.{table_trees}
use Rattle.front_mirror.proofs.table.Table.+writing.Given as goal

abbrev pub decreases-write_one : goal.decreases-write_one
decreases-write_one l = 2 * l.levels + 1

abbrev pub decreases-write_all : goal.decreases-write_all
decreases-write_all l = 2 * l.levels

abbrev pub invariant-write_all-loop-i : goal.invariant-write_all-loop-i
invariant-write_all-loop-i l = record {
  some : 0 < l.levels;
  written :
      l.out.items ++ lines_at seen_line l.level (table_trees l.self (suc (l.levels - 1)) (drop l.i l.roots))
      ≡ l.initial.out.items ++ lines_at seen_line l.level (table_trees l.self (suc (l.levels - 1)) l.roots);
}
