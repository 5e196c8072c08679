-- One level less is left.
use Rattle.page_tree.proofs.arenas.Arena.+climb.Given as goal

abbrev pub decreases-climb : goal.decreases-climb
decreases-climb l = l.levels
