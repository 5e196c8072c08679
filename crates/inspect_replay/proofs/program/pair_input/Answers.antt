-- A stop is the status that the fold of two front ends says.
use Rattle.std.proofs.Common.{map, sym, subst}
use Rattle.pair_world.specs.PairScripts.{pair_report}
use Rattle.pair_world.specs.PairFresh.{ScriptHasRoom}
use Rattle.replay_parts.specs.Says.{says}
use Rattle.replay_parts.specs.Answers.{AtEnd}
use Rattle.pair_replay.specs.PairAnswers.{IsPairHonest, TellsRoom, moment_of}
use Rattle.pair_replay.specs.Judged.{IsJudged}
use Rattle.inspect_replay.proofs.PairLemmas.{pair-status-folds, pair-status-less, pair-run-honest}
use Rattle.inspect_replay.proofs.FollowLemmas.{never-done}
use Rattle.inspect_replay.proofs.FaultAnswers.{stop-answers}
use Rattle.inspect_replay.proofs.program.pair_input.Goals as goal

pub returns-in-Err-clause-refused : goal.returns-in-Err-clause-refused
returns-in-Err-clause-refused g c = pair-status-folds c.in-Err.stop c.status_of.result _ c.status_of.ensures c.in-Err.ensures.refused

pub returns-in-Err-clause-less : goal.returns-in-Err-clause-less
returns-in-Err-clause-less g c = pair-status-less c.in-Err.stop c.status_of.result _ c.status_of.ensures c.in-Err.ensures.refused

pub returns-in-Err-clause-closes : goal.returns-in-Err-clause-closes
returns-in-Err-clause-closes g c = λ done. absurd (never-done c.in-Err.stop c.status_of.result c.status_of.ensures done)

pub returns-in-Err-clause-replies : goal.returns-in-Err-clause-replies
returns-in-Err-clause-replies g c = λ done. absurd (never-done c.in-Err.stop c.status_of.result c.status_of.ensures done)

pub returns-in-Err-clause-sound : goal.returns-in-Err-clause-sound
returns-in-Err-clause-sound g c = λ honest up_level down_level.
    subst IsPairHonest (sym c.status_of.ensures)
    (pair-run-honest c.in-Err.stop (g.K.Sink.taken c.args.out.now) (g.K.Sink.taken c.run_pair.new.out)
    (pair_report (map g.P.Panel.kind_of c.args.panels.items) c.args.input.now)
    (c.in-Err.ensures.took honest up_level down_level))

pub returns-in-Err-clause-room : goal.returns-in-Err-clause-room
returns-in-Err-clause-room g c = λ honest up_level down_level.
    subst (λ status. TellsRoom status (ScriptHasRoom (map g.P.Panel.kind_of c.args.panels.items) c.args.input.now))
    (sym c.status_of.ensures)
    (c.in-Err.ensures.room honest up_level down_level)

pub returns-in-Err-clause-line : goal.returns-in-Err-clause-line
returns-in-Err-clause-line g c =
    subst
    (λ status. AtEnd (says status).phase (IsJudged (moment_of (g.L.Link.up c.args.link.now) (g.L.Link.down c.args.link.now)
    (g.L.Link.up c.run_pair.new.link) (g.L.Link.down c.run_pair.new.link)) (map g.P.Panel.kind_of c.args.panels.items) c.args.input.now
    (says status).line))
    (sym c.status_of.ensures) c.in-Err.ensures.tells

pub returns-in-Err-clause-answered : goal.returns-in-Err-clause-answered
returns-in-Err-clause-answered g c = stop-answers _ c.in-Err.stop c.status_of.result c.status_of.ensures c.in-Err.ensures.cause.others
