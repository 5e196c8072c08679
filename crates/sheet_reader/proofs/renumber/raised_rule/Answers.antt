use Rattle.sheet_reader.proofs.RepairMoves.{can_shift}
use Rattle.sheet_reader.proofs.renumber.raised_rule.Goals as goal

pub shift-requires : goal.shift-requires
shift-requires c = can_shift c.args.start c.args.size _ c.requires.fits c.requires.within.selectors
