use Rattle.back_end.proofs.FrameLemmas.{frame-steps-well}
use Rattle.back_end.proofs.StepLemmas.{turn-steps-well}
use Rattle.back_end.proofs.AnswerLemmas.{turn-answers}
use Rattle.back_end.proofs.laws.step_law.Goals as goal

pub returns-clause-frames : goal.returns-clause-frames
returns-clause-frames c = frame-steps-well

pub returns-clause-turns : goal.returns-clause-turns
returns-clause-turns c = λ state x is room can. let turn = turn-steps-well state x is room can in (turn.0, turn-answers x state, turn.1)
