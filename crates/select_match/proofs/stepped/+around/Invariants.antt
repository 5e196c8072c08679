-- A parent has fewer ancestors.
use Rattle.std.proofs.Common.{◌+◌, ◌*◌, length}
use Rattle.page_tree.specs.Zippers.{ancestors}
use Rattle.select_match.proofs.stepped.+around.Given as goal

abbrev pub decreases-around_node : goal.decreases-around_node
decreases-around_node l = 3 * length (ancestors l.node.now) + 1

abbrev pub decreases-around_first : goal.decreases-around_first
decreases-around_first l = 3 * length (ancestors l.node.now)

abbrev pub decreases-inside_node : goal.decreases-inside_node
decreases-inside_node l = 3 * length (ancestors l.node.now) + 2
