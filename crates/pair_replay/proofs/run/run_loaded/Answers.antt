-- A script with two front ends, whose first line loads a page, is carried out.
use Rattle.std.proofs.Common.{length, map, Some}
use Rattle.page_forms.specs.Pages.{loaded_page}
use Rattle.replay_script.specs.PairScript.{pair_first_bad, pair_good_lines}
use Rattle.back_end.specs.Pairs.{loaded_pair}
use Rattle.inspect_world.specs.Costs.{line_bytes}
use Rattle.pair_world.specs.PairRuns.{pair_loaded_run}
use Rattle.pair_world.specs.PairScripts.{after_pair_lines, pair_shown_lines, pair_rest_refused}
use Rattle.pair_world.specs.PairFresh.{fresh_pair_lines}
use Rattle.pair_world.specs.PairLinks.{IsLaterMoment, pair_started}
use Rattle.pair_replay.proofs.PairFollows.{run-here}
use Rattle.pair_replay.specs.PairAnswers.{pair_since, PairAnswersInOrder, PairEndsShown, moment_of}
use Rattle.pair_replay.proofs.LinesTell.{closing-tells}
use Rattle.pair_replay.proofs.LinesClose.{closed-took, stopped-took, ends-shown, second-of-three, third-of-three}
use Rattle.pair_replay.proofs.StartLemmas.{play-begins, no_moment, run-first}
use Rattle.pair_replay.proofs.ScriptLemmas.{lost-took, lost-tells, lost-room, lost-judged, lost-folds, lost-ok, lost-cause, stopped-room}
use Rattle.pair_replay.proofs.ScriptLemmas.{closed-room}
use Rattle.replay_parts.proofs.StopLemmas.{closed-tells}
use Rattle.replay_parts.proofs.CauseLemmas.{closed-cause}
use Rattle.pair_replay.proofs.run.run_loaded.Goals as goal

pub returns-in_err-ends-clause-took : goal.returns-in_err-ends-clause-took
returns-in_err-ends-clause-took g c = λ honest up_level down_level. lost-took c.from_residual.result c.from_residual.ensures.1
    (g.K.Sink.taken c.args.out.now) _

pub returns-in_err-ends-clause-stops : goal.returns-in_err-ends-clause-stops
returns-in_err-ends-clause-stops g c = λ honest up_level down_level. lost-tells c.from_residual.result c.from_residual.ensures.1 _

pub returns-in_err-ends-clause-room : goal.returns-in_err-ends-clause-room
returns-in_err-ends-clause-room g c = λ honest up_level down_level. lost-room c.from_residual.result c.from_residual.ensures.1 _

pub returns-in_err-ends-clause-tells : goal.returns-in_err-ends-clause-tells
returns-in_err-ends-clause-tells g c = lost-judged c.from_residual.result c.from_residual.ensures.1 _ _ _

pub returns-in_err-ends-clause-refused : goal.returns-in_err-ends-clause-refused
returns-in_err-ends-clause-refused g c = lost-folds c.from_residual.result c.from_residual.ensures.1 (g.L.Link.up c.args.link.now)
    (g.L.Link.down c.args.link.now) (g.L.Link.up c.args.link.now) (g.L.Link.down c.args.link.now)

pub returns-in_err-ends-clause-closes : goal.returns-in_err-ends-clause-closes
returns-in_err-ends-clause-closes g c = lost-ok c.from_residual.result c.from_residual.ensures.1 _

pub returns-in_err-ends-clause-replies : goal.returns-in_err-ends-clause-replies
returns-in_err-ends-clause-replies g c = lost-ok c.from_residual.result c.from_residual.ensures.1 _

pub returns-in_err-ends-clause-cause : goal.returns-in_err-ends-clause-cause
returns-in_err-ends-clause-cause g c = lost-cause c.from_residual.result c.from_residual.ensures.1 _ _

pub returns-in-Ok-clause-honest : goal.returns-in-Ok-clause-honest
returns-in-Ok-clause-honest g c = λ honest. c.close.ensures.honest (c.run_lines.ensures.honest honest)

pub returns-in-Ok-clause-took : goal.returns-in-Ok-clause-took
returns-in-Ok-clause-took g c = λ honest up_level down_level.
    let up = g.L.Link.up c.args.link.now in
    let down = g.L.Link.down c.args.link.now in
    let page = loaded_page c.args.form in
    let kinds = map g.P.Panel.kind_of c.args.panels.items in
    let w = pair_loaded_run kinds page in
    let play = play-begins (g.L.Link.honest c.args.link.now) up down kinds page c.in_ok-ends.ends honest c.requires.can
    c.in_ok-ends.ensures.texts up_level down_level c.in_ok-ends.ensures.starts (line_bytes c.args.lines) c.requires.short in
    let forms = pair_good_lines 2 c.args.lines in
    let bad = pair_first_bad 2 c.args.lines in
    let ran = c.in-Ok.ensures {u = c.in-Ok.field-0} in
    let lines = ran.runs up down w w play in
    let closes = c.close.ensures.runs up down (after_pair_lines (pair_shown_lines forms w) w) (fresh_pair_lines
    (pair_shown_lines forms w) w) lines.0 in
    closed-took c.close.result (g.K.Sink.taken c.args.out.now) (g.K.Sink.taken c.run_lines.new.out)
    (g.K.Sink.taken c.close.new.out) bad forms w
    lines.2 lines.1 closes.0

pub returns-clause-took : goal.returns-clause-took
returns-clause-took g c = λ honest up_level down_level.
    let up = g.L.Link.up c.args.link.now in
    let down = g.L.Link.down c.args.link.now in
    let page = loaded_page c.args.form in
    let kinds = map g.P.Panel.kind_of c.args.panels.items in
    let w = pair_loaded_run kinds page in
    let play = play-begins (g.L.Link.honest c.args.link.now) up down kinds page c.in_ok-ends.ends honest c.requires.can
    c.in_ok-ends.ensures.texts up_level down_level c.in_ok-ends.ensures.starts (line_bytes c.args.lines) c.requires.short in
    let forms = pair_good_lines 2 c.args.lines in
    let bad = pair_first_bad 2 c.args.lines in
    let ran = c.in-Err.ensures {u = tt} in
    let lines = ran.runs up down w w play in
    stopped-took c.in-Err.stop (g.K.Sink.taken c.args.out.now) (g.K.Sink.taken c.run_lines.new.out) bad forms w lines.2 lines.1

pub returns-in-Ok-clause-stops : goal.returns-in-Ok-clause-stops
returns-in-Ok-clause-stops g c = λ honest up_level down_level.
    let up = g.L.Link.up c.args.link.now in
    let down = g.L.Link.down c.args.link.now in
    let page = loaded_page c.args.form in
    let kinds = map g.P.Panel.kind_of c.args.panels.items in
    let w = pair_loaded_run kinds page in
    let play = play-begins (g.L.Link.honest c.args.link.now) up down kinds page c.in_ok-ends.ends honest c.requires.can
    c.in_ok-ends.ensures.texts up_level down_level c.in_ok-ends.ensures.starts (line_bytes c.args.lines) c.requires.short in
    let forms = pair_good_lines 2 c.args.lines in
    let bad = pair_first_bad 2 c.args.lines in
    let ran = c.in-Ok.ensures {u = c.in-Ok.field-0} in
    let lines = ran.runs up down w w play in
    let closes = c.close.ensures.runs up down (after_pair_lines (pair_shown_lines forms w) w) (fresh_pair_lines
    (pair_shown_lines forms w) w) lines.0 in
    closed-tells c.close.result _ _ _ _ (pair_rest_refused bad forms w) lines.2 c.close.ensures.cause

pub returns-clause-stops : goal.returns-clause-stops
returns-clause-stops g c = λ honest up_level down_level.
    let up = g.L.Link.up c.args.link.now in
    let down = g.L.Link.down c.args.link.now in
    let page = loaded_page c.args.form in
    let kinds = map g.P.Panel.kind_of c.args.panels.items in
    let w = pair_loaded_run kinds page in
    let play = play-begins (g.L.Link.honest c.args.link.now) up down kinds page c.in_ok-ends.ends honest c.requires.can
    c.in_ok-ends.ensures.texts up_level down_level c.in_ok-ends.ensures.starts (line_bytes c.args.lines) c.requires.short in
    let forms = pair_good_lines 2 c.args.lines in
    let bad = pair_first_bad 2 c.args.lines in
    let ran = c.in-Err.ensures {u = tt} in
    let lines = ran.runs up down w w play in
    lines.2

pub returns-in-Ok-clause-room : goal.returns-in-Ok-clause-room
returns-in-Ok-clause-room g c = λ honest up_level down_level.
    let up = g.L.Link.up c.args.link.now in
    let down = g.L.Link.down c.args.link.now in
    let page = loaded_page c.args.form in
    let kinds = map g.P.Panel.kind_of c.args.panels.items in
    let w = pair_loaded_run kinds page in
    let play = play-begins (g.L.Link.honest c.args.link.now) up down kinds page c.in_ok-ends.ends honest c.requires.can
    c.in_ok-ends.ensures.texts up_level down_level c.in_ok-ends.ensures.starts (line_bytes c.args.lines) c.requires.short in
    let forms = pair_good_lines 2 c.args.lines in
    let bad = pair_first_bad 2 c.args.lines in
    let ran = c.in-Ok.ensures {u = c.in-Ok.field-0} in
    let lines = ran.runs up down w w play in
    let closes = c.close.ensures.runs up down (after_pair_lines (pair_shown_lines forms w) w) (fresh_pair_lines
    (pair_shown_lines forms w) w) lines.0 in
    closed-room c.close.result bad forms w w lines.2 lines.3 closes.1

pub returns-clause-room : goal.returns-clause-room
returns-clause-room g c = λ honest up_level down_level.
    let up = g.L.Link.up c.args.link.now in
    let down = g.L.Link.down c.args.link.now in
    let page = loaded_page c.args.form in
    let kinds = map g.P.Panel.kind_of c.args.panels.items in
    let w = pair_loaded_run kinds page in
    let play = play-begins (g.L.Link.honest c.args.link.now) up down kinds page c.in_ok-ends.ends honest c.requires.can
    c.in_ok-ends.ensures.texts up_level down_level c.in_ok-ends.ensures.starts (line_bytes c.args.lines) c.requires.short in
    let forms = pair_good_lines 2 c.args.lines in
    let bad = pair_first_bad 2 c.args.lines in
    let ran = c.in-Err.ensures {u = tt} in
    let lines = ran.runs up down w w play in
    stopped-room c.in-Err.stop bad forms w w lines.2 lines.3

pub returns-in-Ok-clause-refused : goal.returns-in-Ok-clause-refused
returns-in-Ok-clause-refused g c =
    let up = g.L.Link.up c.args.link.now in
    let down = g.L.Link.down c.args.link.now in
    let page = loaded_page c.args.form in
    let kinds = map g.P.Panel.kind_of c.args.panels.items in
    let begun = pair_started (loaded_pair page) 0 (map Some kinds) no_moment in
    let start = run-first up down kinds page (length c.args.lines) c.in_ok-ends.ends (g.met.L.Link.within_up c.args.link.now)
    (g.met.L.Link.within_down c.args.link.now) c.requires.can c.in_ok-ends.ensures.texts c.requires.few c.in_ok-ends.ensures.starts in
    let ran = c.in-Ok.ensures {u = c.in-Ok.field-0} in
    let carried = (ran.follows begun up down start).0 in
    let shown = c.close.ensures.shown (pair_started (loaded_pair page) 0 carried.panels no_moment) up down carried.run in
    shown.1

pub returns-clause-refused : goal.returns-clause-refused
returns-clause-refused g c =
    let up = g.L.Link.up c.args.link.now in
    let down = g.L.Link.down c.args.link.now in
    let page = loaded_page c.args.form in
    let kinds = map g.P.Panel.kind_of c.args.panels.items in
    let begun = pair_started (loaded_pair page) 0 (map Some kinds) no_moment in
    let start = run-first up down kinds page (length c.args.lines) c.in_ok-ends.ends (g.met.L.Link.within_up c.args.link.now)
    (g.met.L.Link.within_down c.args.link.now) c.requires.can c.in_ok-ends.ensures.texts c.requires.few c.in_ok-ends.ensures.starts in
    let ran = c.in-Err.ensures {u = tt} in
    (ran.follows begun up down start).1

pub returns-in-Ok-clause-closes : goal.returns-in-Ok-clause-closes
returns-in-Ok-clause-closes g c =
    let up = g.L.Link.up c.args.link.now in
    let down = g.L.Link.down c.args.link.now in
    let page = loaded_page c.args.form in
    let kinds = map g.P.Panel.kind_of c.args.panels.items in
    let begun = pair_started (loaded_pair page) 0 (map Some kinds) no_moment in
    let start = run-first up down kinds page (length c.args.lines) c.in_ok-ends.ends (g.met.L.Link.within_up c.args.link.now)
    (g.met.L.Link.within_down c.args.link.now) c.requires.can c.in_ok-ends.ensures.texts c.requires.few c.in_ok-ends.ensures.starts in
    let ran = c.in-Ok.ensures {u = c.in-Ok.field-0} in
    let carried = (ran.follows begun up down start).0 in
    let shown = c.close.ensures.shown (pair_started (loaded_pair page) 0 carried.panels no_moment) up down carried.run in
    let up1 = g.L.Link.up c.close.new.link in
    let down1 = g.L.Link.down c.close.new.link in
    ends-shown c.close.result (g.K.Sink.taken c.args.out.now) (g.K.Sink.taken c.run_lines.new.out) (g.K.Sink.taken c.close.new.out)
    (pair_since up down up1 down1)
    (PairAnswersInOrder up down up1 down1) (IsLaterMoment no_moment (moment_of up down up1 down1)) ran.some shown.0

pub returns-in-Ok-clause-replies : goal.returns-in-Ok-clause-replies
returns-in-Ok-clause-replies g c =
    let up = g.L.Link.up c.args.link.now in
    let down = g.L.Link.down c.args.link.now in
    let page = loaded_page c.args.form in
    let kinds = map g.P.Panel.kind_of c.args.panels.items in
    let begun = pair_started (loaded_pair page) 0 (map Some kinds) no_moment in
    let start = run-first up down kinds page (length c.args.lines) c.in_ok-ends.ends (g.met.L.Link.within_up c.args.link.now)
    (g.met.L.Link.within_down c.args.link.now) c.requires.can c.in_ok-ends.ensures.texts c.requires.few c.in_ok-ends.ensures.starts in
    let ran = c.in-Ok.ensures {u = c.in-Ok.field-0} in
    let carried = (ran.follows begun up down start).0 in
    let shown = c.close.ensures.shown (pair_started (loaded_pair page) 0 carried.panels no_moment) up down carried.run in
    let up1 = g.L.Link.up c.close.new.link in
    let down1 = g.L.Link.down c.close.new.link in
    second-of-three c.close.result
    (PairEndsShown (g.K.Sink.taken c.run_lines.new.out) (g.K.Sink.taken c.close.new.out) (pair_since up down up1 down1))
    (PairAnswersInOrder up down up1 down1) (IsLaterMoment no_moment (moment_of up down up1 down1)) shown.0

pub returns-in-Ok-clause-tells : goal.returns-in-Ok-clause-tells
returns-in-Ok-clause-tells g c =
    let up = g.L.Link.up c.args.link.now in
    let down = g.L.Link.down c.args.link.now in
    let page = loaded_page c.args.form in
    let kinds = map g.P.Panel.kind_of c.args.panels.items in
    let begun = pair_started (loaded_pair page) 0 (map Some kinds) no_moment in
    let start = run-first up down kinds page (length c.args.lines) c.in_ok-ends.ends (g.met.L.Link.within_up c.args.link.now)
    (g.met.L.Link.within_down c.args.link.now) c.requires.can c.in_ok-ends.ensures.texts c.requires.few c.in_ok-ends.ensures.starts in
    let ran = c.in-Ok.ensures {u = c.in-Ok.field-0} in
    let all = ran.follows begun up down start in
    let up1 = g.L.Link.up c.run_lines.new.link in
    let down1 = g.L.Link.down c.run_lines.new.link in
    let now = moment_of up down up1 down1 in
    let last = moment_of up down (g.L.Link.up c.close.new.link) (g.L.Link.down c.close.new.link) in
    let here = run-here (pair_started (loaded_pair page) 0 all.0.panels no_moment) up down up1 down1 c.run_lines.new.ends all.0.run in
    let shown = c.close.ensures.shown (pair_started (loaded_pair page) 0 all.0.panels now) up down here in
    closing-tells c.in-Ok.field-0 c.close.result _ _ _ _ (map Some kinds) c.args.lines now last c.close.ensures.cause all.2
    (third-of-three c.close.result
    (PairEndsShown (g.K.Sink.taken c.run_lines.new.out) (g.K.Sink.taken c.close.new.out)
    (pair_since up down (g.L.Link.up c.close.new.link) (g.L.Link.down c.close.new.link)))
    (PairAnswersInOrder up down (g.L.Link.up c.close.new.link) (g.L.Link.down c.close.new.link)) (IsLaterMoment now last) shown.0)

pub returns-clause-tells : goal.returns-clause-tells
returns-clause-tells g c =
    let up = g.L.Link.up c.args.link.now in
    let down = g.L.Link.down c.args.link.now in
    let page = loaded_page c.args.form in
    let kinds = map g.P.Panel.kind_of c.args.panels.items in
    let begun = pair_started (loaded_pair page) 0 (map Some kinds) no_moment in
    let start = run-first up down kinds page (length c.args.lines) c.in_ok-ends.ends (g.met.L.Link.within_up c.args.link.now)
    (g.met.L.Link.within_down c.args.link.now) c.requires.can c.in_ok-ends.ensures.texts c.requires.few c.in_ok-ends.ensures.starts in
    let ran = c.in-Err.ensures {u = tt} in
    (ran.follows begun up down start).2

pub returns-in-Ok-clause-cause : goal.returns-in-Ok-clause-cause
returns-in-Ok-clause-cause g c =
    let ran = c.in-Ok.ensures {u = c.in-Ok.field-0} in
    closed-cause c.close.result (g.K.Sink.faults c.args.out.now) (g.K.Sink.faults c.run_lines.new.out) (g.K.Sink.faults c.close.new.out)
    (g.L.Link.faults c.args.link.now) (g.L.Link.faults c.run_lines.new.link) (g.L.Link.faults c.close.new.link) ran.cause.others.1
    ran.cause.others.2 c.close.ensures.cause

pub returns-in_err-ends-clause-honest : goal.returns-in_err-ends-clause-honest
returns-in_err-ends-clause-honest g c = λ honest. honest

pub returns-clause-honest : goal.returns-clause-honest
returns-clause-honest g c = c.run_lines.ensures.honest

pub returns-clause-cause : goal.returns-clause-cause
returns-clause-cause g c = let ran = c.in-Err.ensures {u = tt} in ran.cause

pub returns-clause-closes : goal.returns-clause-closes
returns-clause-closes g c = tt

pub returns-clause-replies : goal.returns-clause-replies
returns-clause-replies g c = tt
