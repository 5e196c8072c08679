use Rattle.back_end.proofs.OutsideSteps.{outside-steps-well, turn-sides}
use Rattle.back_end.proofs.laws.outside_law.Goals as goal

pub returns : goal.returns
returns c = record { steps = outside-steps-well; alike = turn-sides }
