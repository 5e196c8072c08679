-- The ids so far, before those that are left.
use Rattle.std.proofs.Common.{◌≡◌, ◌++◌, drop}
use Rattle.front_mirror.specs.Shown.{shown_of}
use Rattle.front_mirror.specs.Tables.{root_ids}
use Rattle.front_mirror.proofs.plants.ids_of.Given as goal

abbrev pub invariant-loop-tree : goal.invariant-loop-tree
invariant-loop-tree l = l.ids ++ root_ids (shown_of (drop l.tree-index l.trees)) ≡ root_ids (shown_of l.trees)
