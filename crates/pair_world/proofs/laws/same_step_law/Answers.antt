use Rattle.pair_world.proofs.SameSteps.{starts-are-same, frame-steps-are-same, turns-are-same}
use Rattle.pair_world.proofs.laws.same_step_law.Goals as goal

pub returns : goal.returns
returns c = record { starts = starts-are-same; frames = frame-steps-are-same; turns = turns-are-same }
