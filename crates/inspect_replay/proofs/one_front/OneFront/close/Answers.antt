-- The front end finds the panel at its place, and drops it there.
use Rattle.std.proofs.Common.{◌∙◌, ap}
use Rattle.inspect_world.specs.Held.{with_panels}
use Rattle.inspect_replay.proofs.SameEnds.{front-same}
use Rattle.replay_parts.proofs.ClosedPanels.{stands-open, dropped-is}
use Rattle.inspect_replay.proofs.one_front.OneFront.close.Goals as goal

pub returns-clause-stood : goal.returns-clause-stood
returns-clause-stood g c = c.close.ensures.closed ∙ stands-open c.args.place c.args.self.now.front.panels

pub returns-clause-dropped : goal.returns-clause-dropped
returns-clause-dropped g c =
    front-same c.args.self.now _ _ _
    (c.close.ensures.panels ∙ ap (λ ps. with_panels ps c.args.self.now.front) (dropped-is c.args.place c.args.self.now.front.panels))
