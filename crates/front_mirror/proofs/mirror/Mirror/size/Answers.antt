-- A known node has its number.
use Rattle.std.proofs.Common.{◌∙◌}
use Rattle.std.specs.FinMap as map
use Rattle.node_tree.specs.Nodes.{branch_count}
use Rattle.front_mirror.specs.Shown.{known_at}
use Rattle.front_mirror.specs.Tables.{tree_in}
use Rattle.front_mirror.proofs.EditCounts.{number_there}
use Rattle.front_mirror.proofs.mirror.Mirror.size.Goals as goal

pub unreachable-requires : goal.unreachable-requires
unreachable-requires c =
    c.in_default.not-Some (branch_count (known_at c.args.id c.args.self.now))
    (c.get.ensures ∙ number_there (map.get c.self.inside.counts) (tree_in c.self.inside.table c.self.inside.roots) c.args.self.now c.args.id
    c.self.invariant.counted c.self.view_is c.requires.known)
