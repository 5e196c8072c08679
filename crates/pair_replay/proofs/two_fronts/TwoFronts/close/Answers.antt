-- The first front end finds the panel at its place, and drops it there.
use Rattle.std.proofs.Common.{◌∙◌}
use Rattle.pair_replay.proofs.SameEnds.{fronts-same}
use Rattle.replay_parts.proofs.ClosedPanels.{stands-open}
use Rattle.pair_replay.proofs.two_fronts.TwoFronts.close.Goals as goal

pub returns-clause-stood : goal.returns-clause-stood
returns-clause-stood g c = c.close.ensures.closed ∙ stands-open c.args.place c.args.self.now.fronts.pair.one.panels

pub returns-clause-dropped : goal.returns-clause-dropped
returns-clause-dropped g c = fronts-same c.args.self.now _ _ _ c.close.ensures.panels
