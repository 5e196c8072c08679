-- One level less is left.
use Rattle.front_mirror.proofs.table.Table.+climb.Given as goal

abbrev pub decreases-climb : goal.decreases-climb
decreases-climb l = l.levels
