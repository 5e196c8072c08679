-- An input that is not read is refused by its limits.
use Rattle.std.proofs.Common.{map, sym, subst}
use Rattle.inspect_world.specs.Scripts.{report}
use Rattle.replay_parts.specs.Answers.{FitsLimits, Took, IsHonest}
use Rattle.inspect_replay.proofs.AnswerLemmas.{stop-limits, stop-took, stop-honest}
use Rattle.inspect_replay.specs.Followed.{fold_since}
use Rattle.inspect_replay.proofs.FollowLemmas.{status-folds, status-less, input-folds, start-good, never-done}
use Rattle.inspect_replay.proofs.FaultAnswers.{read-still, read-answers}
use Rattle.inspect_replay.proofs.program.replay.Goals as goal

pub returns-in-Err-clause-limits : goal.returns-in-Err-clause-limits
returns-in-Err-clause-limits g c = λ input left.
    subst (λ status. FitsLimits status input) (sym c.status_of.ensures)
    (stop-limits c.in-Err.stop input (c.in-Err.ensures.tells input left))

pub returns-in-Err-clause-refused : goal.returns-in-Err-clause-refused
returns-in-Err-clause-refused g c =
    let same = (fold_since (g.L.Link.up c.args.link.now) (g.L.Link.down c.args.link.now) (g.L.Link.up c.args.link.now)
    (g.L.Link.down c.args.link.now)) in
    status-folds c.in-Err.stop c.status_of.result same c.status_of.ensures
    (input-folds c.in-Err.stop _ _ same c.in-Err.ensures.rose (start-good (g.L.Link.up c.args.link.now) (g.L.Link.down c.args.link.now)))

pub returns-in-Err-clause-closes : goal.returns-in-Err-clause-closes
returns-in-Err-clause-closes g c = λ done. absurd (never-done c.in-Err.stop c.status_of.result c.status_of.ensures done)

pub returns-in-Err-clause-replies : goal.returns-in-Err-clause-replies
returns-in-Err-clause-replies g c = λ done. absurd (never-done c.in-Err.stop c.status_of.result c.status_of.ensures done)

pub returns-in-Err-clause-report : goal.returns-in-Err-clause-report
returns-in-Err-clause-report g c = λ honest up_level down_level input left.
    let text = report (map g.P.Panel.kind_of c.args.panels.items) input in
    subst (λ status. Took status (g.K.Sink.taken c.args.out.now) (g.K.Sink.taken c.args.out.now) text) (sym c.status_of.ensures)
    (stop-took c.in-Err.stop input (g.K.Sink.taken c.args.out.now) text (c.in-Err.ensures.tells input left))

pub returns-in-Err-clause-less : goal.returns-in-Err-clause-less
returns-in-Err-clause-less g c =
    let same = (fold_since (g.L.Link.up c.args.link.now) (g.L.Link.down c.args.link.now) (g.L.Link.up c.args.link.now)
    (g.L.Link.down c.args.link.now)) in
    status-less c.in-Err.stop c.status_of.result same c.status_of.ensures
    (input-folds c.in-Err.stop _ _ same c.in-Err.ensures.rose (start-good (g.L.Link.up c.args.link.now) (g.L.Link.down c.args.link.now)))

pub returns-in-Err-clause-sound : goal.returns-in-Err-clause-sound
returns-in-Err-clause-sound g c = λ honest up_level down_level. subst IsHonest (sym c.status_of.ensures)
    (stop-honest c.in-Err.stop _ _ c.in-Err.ensures.rose)

pub returns-in-Ok-clause-answered : goal.returns-in-Ok-clause-answered
returns-in-Ok-clause-answered g c = read-still (g.S.Source.faults c.args.src.now) (g.S.Source.faults c.read_input.new.src) c.in-Ok.input _
    c.run_input.result c.in-Ok.ensures.answered c.run_input.ensures.answered

pub returns-in-Err-clause-answered : goal.returns-in-Err-clause-answered
returns-in-Err-clause-answered g c = read-answers (g.S.Source.faults c.args.src.now) (g.S.Source.faults c.read_input.new.src) _ _
    c.in-Err.stop c.status_of.result c.status_of.ensures c.in-Err.ensures.answered
