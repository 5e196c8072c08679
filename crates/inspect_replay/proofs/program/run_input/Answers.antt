-- A stop is the status that the fold says.
use Rattle.std.proofs.Common.{map, sym, subst}
use Rattle.inspect_world.specs.Scripts.{report}
use Rattle.replay_parts.specs.Answers.{IsHonest}
use Rattle.inspect_replay.proofs.AnswerLemmas.{run-honest}
use Rattle.inspect_replay.proofs.FollowLemmas.{status-folds, status-less, never-done}
use Rattle.inspect_replay.proofs.FaultAnswers.{stop-answers}
use Rattle.inspect_replay.proofs.program.run_input.Goals as goal

pub returns-in-Err-clause-refused : goal.returns-in-Err-clause-refused
returns-in-Err-clause-refused g c = status-folds c.in-Err.stop c.status_of.result _ c.status_of.ensures c.in-Err.ensures.refused

pub returns-in-Err-clause-closes : goal.returns-in-Err-clause-closes
returns-in-Err-clause-closes g c = λ done. absurd (never-done c.in-Err.stop c.status_of.result c.status_of.ensures done)

pub returns-in-Err-clause-replies : goal.returns-in-Err-clause-replies
returns-in-Err-clause-replies g c = λ done. absurd (never-done c.in-Err.stop c.status_of.result c.status_of.ensures done)

pub returns-in-Err-clause-less : goal.returns-in-Err-clause-less
returns-in-Err-clause-less g c = status-less c.in-Err.stop c.status_of.result _ c.status_of.ensures c.in-Err.ensures.refused

pub returns-in-Err-clause-sound : goal.returns-in-Err-clause-sound
returns-in-Err-clause-sound g c = λ honest up_level down_level.
    subst IsHonest (sym c.status_of.ensures)
    (run-honest c.in-Err.stop (g.K.Sink.taken c.args.out.now) (g.K.Sink.taken c.run_script.new.out)
    (report (map g.P.Panel.kind_of c.args.panels.items) c.args.input.now)
    (c.in-Err.ensures.took honest up_level down_level))

pub returns-in-Err-clause-answered : goal.returns-in-Err-clause-answered
returns-in-Err-clause-answered g c = stop-answers _ c.in-Err.stop c.status_of.result c.status_of.ensures c.in-Err.ensures.cause.others
