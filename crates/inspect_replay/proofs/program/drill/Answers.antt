-- A stop of a drill is the status that it is.
use Rattle.std.proofs.Common.{map, sym, subst}
use Rattle.replay_parts.specs.Answers.{IsHonest, Took}
use Rattle.inspect_replay.specs.Drilled.{DrillWrites, IsDrillStatus}
use Rattle.inspect_replay.specs.Tallies.{drill_text}
use Rattle.inspect_replay.proofs.DrillEnds.{drill-took, drill-rose, drill-writes, drill-status}
use Rattle.inspect_replay.proofs.FollowLemmas.{status-folds, status-less, never-done}
use Rattle.inspect_replay.proofs.FaultAnswers.{stop-answers}
use Rattle.inspect_replay.proofs.program.drill.Goals as goal

pub returns-in-Err-clause-refused : goal.returns-in-Err-clause-refused
returns-in-Err-clause-refused g c = status-folds c.in-Err.stop c.status_of.result _ c.status_of.ensures c.in-Err.ensures.refused

pub returns-in-Err-clause-less : goal.returns-in-Err-clause-less
returns-in-Err-clause-less g c = status-less c.in-Err.stop c.status_of.result _ c.status_of.ensures c.in-Err.ensures.refused

pub returns-in-Err-clause-counted : goal.returns-in-Err-clause-counted
returns-in-Err-clause-counted g c = λ done. absurd (never-done c.in-Err.stop c.status_of.result c.status_of.ensures done)

pub returns-in-Err-clause-replies : goal.returns-in-Err-clause-replies
returns-in-Err-clause-replies g c = λ done. absurd (never-done c.in-Err.stop c.status_of.result c.status_of.ensures done)

pub returns-in-Err-clause-sound : goal.returns-in-Err-clause-sound
returns-in-Err-clause-sound g c = λ honest up_level down_level.
    subst IsHonest (sym c.status_of.ensures) (c.in-Err.ensures.well honest up_level down_level)

pub returns-in-Err-clause-took : goal.returns-in-Err-clause-took
returns-in-Err-clause-took g c = λ honest up_level down_level.
    let text = drill_text (map g.P.Panel.kind_of c.args.panels.items) c.args.divs in
    subst (λ status. Took status (g.K.Sink.taken c.args.out.now) (g.K.Sink.taken c.run_drill.new.out) text) (sym c.status_of.ensures)
    (drill-took c.in-Err.stop (g.K.Sink.faults c.args.out.now) (g.K.Sink.faults c.run_drill.new.out) (g.L.Link.faults c.args.link.now)
    (g.L.Link.faults c.run_drill.new.link) (g.K.Sink.taken c.args.out.now) (g.K.Sink.taken c.run_drill.new.out) text
    c.in-Err.ensures.cause (c.in-Err.ensures.well honest up_level down_level)
    (c.in-Err.ensures.took honest up_level down_level))

pub returns-in-Err-clause-nothing : goal.returns-in-Err-clause-nothing
returns-in-Err-clause-nothing g c =
    subst (λ status. DrillWrites status (g.K.Sink.taken c.args.out.now) (g.K.Sink.taken c.run_drill.new.out)) (sym c.status_of.ensures)
    (drill-writes c.in-Err.stop (g.K.Sink.taken c.args.out.now) (g.K.Sink.taken c.run_drill.new.out) c.in-Err.ensures.nothing)

pub returns-in-Err-clause-cause : goal.returns-in-Err-clause-cause
returns-in-Err-clause-cause g c = λ before after.
    drill-rose c.in-Err.stop c.status_of.result before after (g.K.Sink.faults c.args.out.now) (g.K.Sink.faults c.run_drill.new.out)
    (g.L.Link.faults c.args.link.now) (g.L.Link.faults c.run_drill.new.link) c.status_of.ensures c.in-Err.ensures.cause

pub returns-in-Err-clause-status : goal.returns-in-Err-clause-status
returns-in-Err-clause-status g c = subst IsDrillStatus (sym c.status_of.ensures)
    (drill-status c.in-Err.stop (g.K.Sink.faults c.args.out.now) (g.K.Sink.faults c.run_drill.new.out) (g.L.Link.faults c.args.link.now)
    (g.L.Link.faults c.run_drill.new.link) c.in-Err.ensures.cause)

pub returns-in-Err-clause-answered : goal.returns-in-Err-clause-answered
returns-in-Err-clause-answered g c = stop-answers _ c.in-Err.stop c.status_of.result c.status_of.ensures c.in-Err.ensures.cause.others
