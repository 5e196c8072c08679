-- An input that is not read is refused by its limits.
use Rattle.std.proofs.Common.{map, sym, subst}
use Rattle.pair_world.specs.PairScripts.{pair_report}
use Rattle.pair_world.specs.PairFresh.{ScriptHasRoom}
use Rattle.replay_parts.specs.Says.{says}
use Rattle.replay_parts.specs.Answers.{AtEnd, FitsLimits}
use Rattle.pair_replay.specs.PairAnswers.{PairTook, IsPairHonest, TellsRoom, pair_since, moment_of}
use Rattle.pair_replay.specs.Judged.{IsJudged}
use Rattle.pair_replay.proofs.ScriptLemmas.{start-well}
use Rattle.inspect_replay.proofs.AnswerLemmas.{stop-limits}
use Rattle.inspect_replay.proofs.FollowLemmas.{never-done}
use Rattle.inspect_replay.proofs.PairLemmas.{pair-status-folds, pair-status-less, pair-input-folds, pair-stop-took}
use Rattle.inspect_replay.proofs.PairLemmas.{pair-stop-honest, pair-stop-room, pair-stop-line}
use Rattle.inspect_replay.proofs.FaultAnswers.{read-still, read-answers}
use Rattle.inspect_replay.proofs.program.pair.Goals as goal

pub returns-in-Err-clause-limits : goal.returns-in-Err-clause-limits
returns-in-Err-clause-limits g c = λ input left.
    subst (λ status. FitsLimits status input) (sym c.status_of.ensures)
    (stop-limits c.in-Err.stop input (c.in-Err.ensures.tells input left))

pub returns-in-Err-clause-refused : goal.returns-in-Err-clause-refused
returns-in-Err-clause-refused g c =
    let same = (pair_since (g.L.Link.up c.args.link.now) (g.L.Link.down c.args.link.now) (g.L.Link.up c.args.link.now)
    (g.L.Link.down c.args.link.now)) in
    pair-status-folds c.in-Err.stop c.status_of.result same c.status_of.ensures
    (pair-input-folds c.in-Err.stop _ _ same c.in-Err.ensures.rose
    (start-well (g.L.Link.up c.args.link.now) (g.L.Link.down c.args.link.now)))

pub returns-in-Err-clause-less : goal.returns-in-Err-clause-less
returns-in-Err-clause-less g c =
    let same = (pair_since (g.L.Link.up c.args.link.now) (g.L.Link.down c.args.link.now) (g.L.Link.up c.args.link.now)
    (g.L.Link.down c.args.link.now)) in
    pair-status-less c.in-Err.stop c.status_of.result same c.status_of.ensures
    (pair-input-folds c.in-Err.stop _ _ same c.in-Err.ensures.rose
    (start-well (g.L.Link.up c.args.link.now) (g.L.Link.down c.args.link.now)))

pub returns-in-Err-clause-closes : goal.returns-in-Err-clause-closes
returns-in-Err-clause-closes g c = λ done. absurd (never-done c.in-Err.stop c.status_of.result c.status_of.ensures done)

pub returns-in-Err-clause-replies : goal.returns-in-Err-clause-replies
returns-in-Err-clause-replies g c = λ done. absurd (never-done c.in-Err.stop c.status_of.result c.status_of.ensures done)

pub returns-in-Err-clause-report : goal.returns-in-Err-clause-report
returns-in-Err-clause-report g c = λ honest up_level down_level input left.
    let text = pair_report (map g.P.Panel.kind_of c.args.panels.items) input in
    subst (λ status. PairTook status (g.K.Sink.taken c.args.out.now) (g.K.Sink.taken c.args.out.now) text) (sym c.status_of.ensures)
    (pair-stop-took c.in-Err.stop input (g.K.Sink.taken c.args.out.now) text (c.in-Err.ensures.tells input left))

pub returns-in-Err-clause-sound : goal.returns-in-Err-clause-sound
returns-in-Err-clause-sound g c = λ honest up_level down_level. subst IsPairHonest (sym c.status_of.ensures)
    (pair-stop-honest c.in-Err.stop _ _ c.in-Err.ensures.rose)

pub returns-in-Err-clause-room : goal.returns-in-Err-clause-room
returns-in-Err-clause-room g c = λ honest up_level down_level input left.
    let room = ScriptHasRoom (map g.P.Panel.kind_of c.args.panels.items) input in
    subst (λ status. TellsRoom status room) (sym c.status_of.ensures) (pair-stop-room c.in-Err.stop _ _ room c.in-Err.ensures.rose)

pub returns-in-Err-clause-line : goal.returns-in-Err-clause-line
returns-in-Err-clause-line g c = λ input left.
    let exit = (moment_of (g.L.Link.up c.args.link.now) (g.L.Link.down c.args.link.now) (g.L.Link.up c.args.link.now)
    (g.L.Link.down c.args.link.now)) in
    subst (λ status. AtEnd (says status).phase (IsJudged exit (map g.P.Panel.kind_of c.args.panels.items) input (says status).line))
    (sym c.status_of.ensures) (pair-stop-line c.in-Err.stop _ _ _ c.in-Err.ensures.rose)

pub returns-in-Ok-clause-answered : goal.returns-in-Ok-clause-answered
returns-in-Ok-clause-answered g c = read-still (g.S.Source.faults c.args.src.now) (g.S.Source.faults c.read_input.new.src) c.in-Ok.input _
    c.pair_input.result c.in-Ok.ensures.answered c.pair_input.ensures.answered

pub returns-in-Err-clause-answered : goal.returns-in-Err-clause-answered
returns-in-Err-clause-answered g c = read-answers (g.S.Source.faults c.args.src.now) (g.S.Source.faults c.read_input.new.src) _ _
    c.in-Err.stop c.status_of.result c.status_of.ensures c.in-Err.ensures.answered
