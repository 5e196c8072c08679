-- A script whose first line loads a page is carried out.
use Rattle.std.proofs.Common.{length, map, Some}
use Rattle.page_forms.specs.Pages.{loaded_page}
use Rattle.replay_script.specs.Script.{first_bad, good_lines}
use Rattle.inspect_world.specs.Costs.{line_bytes}
use Rattle.inspect_world.specs.Scripts.{loaded_world, after_lines, shown_lines, rest_refused}
use Rattle.inspect_replay.proofs.AnswerLemmas.{nothing-ran}
use Rattle.inspect_replay.proofs.RunLemmas.{begins, play-begins}
use Rattle.inspect_replay.proofs.LinesRun.{closed-took, stopped-took}
use Rattle.inspect_replay.proofs.LinesTell.{closing-tells}
use Rattle.back_end.specs.States.{loaded_state}
use Rattle.inspect_world.specs.Links.{begun, run_started}
use Rattle.inspect_replay.proofs.FollowLemmas.{run-first, ends-shown, in-order}
use Rattle.replay_parts.proofs.StopLemmas.{closed-tells}
use Rattle.replay_parts.proofs.CauseLemmas.{closed-cause}
use Rattle.inspect_replay.proofs.run.run_loaded.Goals as goal

pub returns-in_err-ends-clause-took : goal.returns-in_err-ends-clause-took
returns-in_err-ends-clause-took g c = λ honest up_level down_level.
    nothing-ran c.from_residual.result (g.K.Sink.taken c.args.out.now) _ c.from_residual.ensures.1

pub returns-in-Ok-clause-honest : goal.returns-in-Ok-clause-honest
returns-in-Ok-clause-honest g c = λ honest. c.close.ensures.honest (c.run_lines.ensures.honest honest)

pub returns-in-Ok-clause-took : goal.returns-in-Ok-clause-took
returns-in-Ok-clause-took g c = λ honest up_level down_level.
    let page = loaded_page c.args.form in
    let kinds = map g.P.Panel.kind_of c.args.panels.items in
    let w = loaded_world kinds page in
    let run = begins (g.L.Link.honest c.args.link.now) (g.L.Link.up c.args.link.now)
    (g.L.Link.down c.args.link.now) kinds page c.in_ok-ends.ends honest c.requires.can c.in_ok-ends.ensures.texts up_level
    down_level c.in_ok-ends.ensures.starts in
    let play = play-begins (g.L.Link.honest c.args.link.now) (g.L.Link.up c.args.link.now) (g.L.Link.down c.args.link.now) kinds page
    (line_bytes c.args.lines) c.in_ok-ends.ends c.requires.can c.in_ok-ends.ensures.texts c.requires.short run in
    let ran = (c.in-Ok.ensures {u = c.in-Ok.field-0}).runs (g.L.Link.up c.args.link.now) (g.L.Link.down c.args.link.now) w play in
    let closes = c.close.ensures.runs (g.L.Link.up c.args.link.now) (g.L.Link.down c.args.link.now)
    (after_lines (shown_lines (good_lines 2 c.args.lines) w) w) ran.0 in
    closed-took c.close.result _ _ _ _ (g.K.Sink.taken c.args.out.now) (g.K.Sink.taken c.run_lines.new.out) (g.K.Sink.taken c.close.new.out)
    (first_bad 2 c.args.lines) (good_lines 2 c.args.lines) w ran.2 c.close.ensures.cause closes.0 ran.1 closes.1

pub returns-clause-took : goal.returns-clause-took
returns-clause-took g c = λ honest up_level down_level.
    let page = loaded_page c.args.form in
    let kinds = map g.P.Panel.kind_of c.args.panels.items in
    let w = loaded_world kinds page in
    let run = begins (g.L.Link.honest c.args.link.now) (g.L.Link.up c.args.link.now)
    (g.L.Link.down c.args.link.now) kinds page c.in_ok-ends.ends honest c.requires.can c.in_ok-ends.ensures.texts up_level
    down_level c.in_ok-ends.ensures.starts in
    let play = play-begins (g.L.Link.honest c.args.link.now) (g.L.Link.up c.args.link.now) (g.L.Link.down c.args.link.now) kinds page
    (line_bytes c.args.lines) c.in_ok-ends.ends c.requires.can c.in_ok-ends.ensures.texts c.requires.short run in
    let ran = (c.in-Err.ensures {u = tt}).runs (g.L.Link.up c.args.link.now) (g.L.Link.down c.args.link.now) w play in
    stopped-took c.in-Err.stop (g.K.Sink.taken c.args.out.now) (g.K.Sink.taken c.run_lines.new.out)
    (first_bad 2 c.args.lines) (good_lines 2 c.args.lines) w ran.2 ran.1

pub returns-in-Ok-clause-refused : goal.returns-in-Ok-clause-refused
returns-in-Ok-clause-refused g c =
    let up = g.L.Link.up c.args.link.now in
    let down = g.L.Link.down c.args.link.now in
    let page = loaded_page c.args.form in
    let kinds = map g.P.Panel.kind_of c.args.panels.items in
    let start = run-first up down kinds page (length c.args.lines) c.in_ok-ends.ends (g.met.L.Link.within_up c.args.link.now)
    (g.met.L.Link.within_down c.args.link.now) c.requires.can c.in_ok-ends.ensures.texts c.requires.few
    c.in_ok-ends.ensures.starts in
    let ran = c.in-Ok.ensures {u = c.in-Ok.field-0} in
    let carried = (ran.follows (begun (loaded_state page) (map Some kinds)) up down start).0 in
    let shown = c.close.ensures.shown (run_started (loaded_state page) 0 carried.shown carried.panels) up down carried.run in
    shown.1

pub returns-in-Ok-clause-closes : goal.returns-in-Ok-clause-closes
returns-in-Ok-clause-closes g c =
    let up = g.L.Link.up c.args.link.now in
    let down = g.L.Link.down c.args.link.now in
    let page = loaded_page c.args.form in
    let kinds = map g.P.Panel.kind_of c.args.panels.items in
    let start = run-first up down kinds page (length c.args.lines) c.in_ok-ends.ends (g.met.L.Link.within_up c.args.link.now)
    (g.met.L.Link.within_down c.args.link.now) c.requires.can c.in_ok-ends.ensures.texts c.requires.few
    c.in_ok-ends.ensures.starts in
    let ran = c.in-Ok.ensures {u = c.in-Ok.field-0} in
    let carried = (ran.follows (begun (loaded_state page) (map Some kinds)) up down start).0 in
    let shown = c.close.ensures.shown (run_started (loaded_state page) 0 carried.shown carried.panels) up down carried.run in
    ends-shown c.close.result (g.K.Sink.taken c.args.out.now) (g.K.Sink.taken c.run_lines.new.out) (g.K.Sink.taken c.close.new.out)
    (g.L.Link.up c.args.link.now) (g.L.Link.down c.args.link.now) (g.L.Link.up c.close.new.link)
    (g.L.Link.down c.close.new.link) carried.shown ran.some shown.0

pub returns-in-Ok-clause-replies : goal.returns-in-Ok-clause-replies
returns-in-Ok-clause-replies g c =
    let up = g.L.Link.up c.args.link.now in
    let down = g.L.Link.down c.args.link.now in
    let page = loaded_page c.args.form in
    let kinds = map g.P.Panel.kind_of c.args.panels.items in
    let start = run-first up down kinds page (length c.args.lines) c.in_ok-ends.ends (g.met.L.Link.within_up c.args.link.now)
    (g.met.L.Link.within_down c.args.link.now) c.requires.can c.in_ok-ends.ensures.texts c.requires.few
    c.in_ok-ends.ensures.starts in
    let ran = c.in-Ok.ensures {u = c.in-Ok.field-0} in
    let carried = (ran.follows (begun (loaded_state page) (map Some kinds)) up down start).0 in
    let shown = c.close.ensures.shown (run_started (loaded_state page) 0 carried.shown carried.panels) up down carried.run in
    in-order c.close.result (g.K.Sink.taken c.run_lines.new.out) (g.K.Sink.taken c.close.new.out)
    (g.L.Link.up c.args.link.now) (g.L.Link.down c.args.link.now) (g.L.Link.up c.close.new.link)
    (g.L.Link.down c.close.new.link) carried.shown shown.0

pub returns-clause-refused : goal.returns-clause-refused
returns-clause-refused g c =
    let up = g.L.Link.up c.args.link.now in
    let down = g.L.Link.down c.args.link.now in
    let page = loaded_page c.args.form in
    let kinds = map g.P.Panel.kind_of c.args.panels.items in
    let start = run-first up down kinds page (length c.args.lines) c.in_ok-ends.ends (g.met.L.Link.within_up c.args.link.now)
    (g.met.L.Link.within_down c.args.link.now) c.requires.can c.in_ok-ends.ensures.texts c.requires.few
    c.in_ok-ends.ensures.starts in
    ((c.in-Err.ensures {u = tt}).follows (begun (loaded_state page) (map Some kinds)) up down start).1

pub returns-in-Ok-clause-tells : goal.returns-in-Ok-clause-tells
returns-in-Ok-clause-tells g c =
    let up = g.L.Link.up c.args.link.now in
    let down = g.L.Link.down c.args.link.now in
    let page = loaded_page c.args.form in
    let kinds = map g.P.Panel.kind_of c.args.panels.items in
    let start = run-first up down kinds page (length c.args.lines) c.in_ok-ends.ends (g.met.L.Link.within_up c.args.link.now)
    (g.met.L.Link.within_down c.args.link.now) c.requires.can c.in_ok-ends.ensures.texts c.requires.few
    c.in_ok-ends.ensures.starts in
    let ran = c.in-Ok.ensures {u = c.in-Ok.field-0} in
    let carried = (ran.follows (begun (loaded_state page) (map Some kinds)) up down start).0 in
    let shown = c.close.ensures.shown (run_started (loaded_state page) 0 carried.shown carried.panels) up down carried.run in
    closing-tells c.close.result _ _ _ _
    (begun (loaded_state page) (map Some kinds)) up down _ _ _ _ _ c.args.lines carried c.close.ensures.cause shown.0

pub returns-clause-tells : goal.returns-clause-tells
returns-clause-tells g c =
    let up = g.L.Link.up c.args.link.now in
    let down = g.L.Link.down c.args.link.now in
    let page = loaded_page c.args.form in
    let kinds = map g.P.Panel.kind_of c.args.panels.items in
    let start = run-first up down kinds page (length c.args.lines) c.in_ok-ends.ends (g.met.L.Link.within_up c.args.link.now)
    (g.met.L.Link.within_down c.args.link.now) c.requires.can c.in_ok-ends.ensures.texts c.requires.few
    c.in_ok-ends.ensures.starts in
    ((c.in-Err.ensures {u = tt}).follows (begun (loaded_state page) (map Some kinds)) up down start).2

pub returns-in-Ok-clause-stops : goal.returns-in-Ok-clause-stops
returns-in-Ok-clause-stops g c = λ honest up_level down_level.
    let page = loaded_page c.args.form in
    let kinds = map g.P.Panel.kind_of c.args.panels.items in
    let w = loaded_world kinds page in
    let run = begins (g.L.Link.honest c.args.link.now) (g.L.Link.up c.args.link.now)
    (g.L.Link.down c.args.link.now) kinds page c.in_ok-ends.ends honest c.requires.can c.in_ok-ends.ensures.texts up_level
    down_level c.in_ok-ends.ensures.starts in
    let play = play-begins (g.L.Link.honest c.args.link.now) (g.L.Link.up c.args.link.now) (g.L.Link.down c.args.link.now) kinds page
    (line_bytes c.args.lines) c.in_ok-ends.ends c.requires.can c.in_ok-ends.ensures.texts c.requires.short run in
    let ran = (c.in-Ok.ensures {u = c.in-Ok.field-0}).runs (g.L.Link.up c.args.link.now) (g.L.Link.down c.args.link.now) w play in
    closed-tells c.close.result _ _ _ _ (rest_refused (first_bad 2 c.args.lines) (good_lines 2 c.args.lines) w) ran.2 c.close.ensures.cause

pub returns-clause-stops : goal.returns-clause-stops
returns-clause-stops g c = λ honest up_level down_level.
    let page = loaded_page c.args.form in
    let kinds = map g.P.Panel.kind_of c.args.panels.items in
    let w = loaded_world kinds page in
    let run = begins (g.L.Link.honest c.args.link.now) (g.L.Link.up c.args.link.now)
    (g.L.Link.down c.args.link.now) kinds page c.in_ok-ends.ends honest c.requires.can c.in_ok-ends.ensures.texts up_level
    down_level c.in_ok-ends.ensures.starts in
    let play = play-begins (g.L.Link.honest c.args.link.now) (g.L.Link.up c.args.link.now) (g.L.Link.down c.args.link.now) kinds page
    (line_bytes c.args.lines) c.in_ok-ends.ends c.requires.can c.in_ok-ends.ensures.texts c.requires.short run in
    ((c.in-Err.ensures {u = tt}).runs (g.L.Link.up c.args.link.now) (g.L.Link.down c.args.link.now) w play).2

pub returns-in-Ok-clause-cause : goal.returns-in-Ok-clause-cause
returns-in-Ok-clause-cause g c =
    let ran = (c.in-Ok.ensures {u = c.in-Ok.field-0}).cause in
    closed-cause c.close.result (g.K.Sink.faults c.args.out.now) (g.K.Sink.faults c.run_lines.new.out) (g.K.Sink.faults c.close.new.out)
    (g.L.Link.faults c.args.link.now) (g.L.Link.faults c.run_lines.new.link)
    (g.L.Link.faults c.close.new.link) ran.others.1 ran.others.2 c.close.ensures.cause
