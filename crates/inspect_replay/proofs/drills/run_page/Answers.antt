-- The lines of a drill are carried out, and its numbers told.
use Rattle.std.proofs.Common.{sym, subst, map, Result, Err}
use Rattle.page_forms.specs.Pages.{loaded_page}
use Rattle.inspect_world.specs.Scripts.{loaded_world, after_lines}
use Rattle.replay_parts.specs.declared.stop.Stop.{Stop}
use Rattle.replay_parts.proofs.CauseLemmas.{link-cause}
use Rattle.replay_parts.specs.declared.stop.Stop.TheVariants.{Memory}
use Rattle.replay_parts.specs.Answers.{Prints}
use Rattle.inspect_replay.specs.Tallies.{tallied}
use Rattle.inspect_replay.proofs.DrillEnds.{drill_start, drill-follows, drill-plays, drill-cause}
use Rattle.inspect_replay.proofs.DrillEnds.{prints-none, writes-none, on-first, on-second}
use Rattle.replay_parts.proofs.StopLemmas.{memory-is}
use Rattle.inspect_replay.proofs.drills.run_page.Goals as goal

pub returns-in-Ok-clause-refused : goal.returns-in-Ok-clause-refused
returns-in-Ok-clause-refused g c =
    let up = g.L.Link.up c.args.link.now in
    let down = g.L.Link.down c.args.link.now in
    let page = loaded_page c.args.form in
    let kinds = map g.P.Panel.kind_of c.args.panels.items in
    let start = drill-follows up down kinds page c.args.drill c.in_ok-ends.ends (g.met.L.Link.within_up c.args.link.now)
    (g.met.L.Link.within_down c.args.link.now) c.requires.can c.in_ok-ends.ensures.texts c.requires.few c.in_ok-ends.ensures.starts in
    let ran = ((c.in-Ok.ensures {u = c.in-Ok.field-0}).follows (drill_start kinds page) up down start) in
    let shown = c.tell_numbers.ensures.shown (drill_start kinds page) up down ran.0 in
    shown.1

pub returns-in-Ok-clause-counted : goal.returns-in-Ok-clause-counted
returns-in-Ok-clause-counted g c =
    let up = g.L.Link.up c.args.link.now in
    let down = g.L.Link.down c.args.link.now in
    let page = loaded_page c.args.form in
    let kinds = map g.P.Panel.kind_of c.args.panels.items in
    let start = drill-follows up down kinds page c.args.drill c.in_ok-ends.ends (g.met.L.Link.within_up c.args.link.now)
    (g.met.L.Link.within_down c.args.link.now) c.requires.can c.in_ok-ends.ensures.texts c.requires.few c.in_ok-ends.ensures.starts in
    let ran = ((c.in-Ok.ensures {u = c.in-Ok.field-0}).follows (drill_start kinds page) up down start) in
    let shown = c.tell_numbers.ensures.shown (drill_start kinds page) up down ran.0 in
    on-first c.tell_numbers.result _ _ shown.0

pub returns-in-Ok-clause-replies : goal.returns-in-Ok-clause-replies
returns-in-Ok-clause-replies g c =
    let up = g.L.Link.up c.args.link.now in
    let down = g.L.Link.down c.args.link.now in
    let page = loaded_page c.args.form in
    let kinds = map g.P.Panel.kind_of c.args.panels.items in
    let start = drill-follows up down kinds page c.args.drill c.in_ok-ends.ends (g.met.L.Link.within_up c.args.link.now)
    (g.met.L.Link.within_down c.args.link.now) c.requires.can c.in_ok-ends.ensures.texts c.requires.few c.in_ok-ends.ensures.starts in
    let ran = ((c.in-Ok.ensures {u = c.in-Ok.field-0}).follows (drill_start kinds page) up down start) in
    let shown = c.tell_numbers.ensures.shown (drill_start kinds page) up down ran.0 in
    on-second c.tell_numbers.result _ _ shown.0

pub returns-in-Ok-clause-well : goal.returns-in-Ok-clause-well
returns-in-Ok-clause-well g c = λ honest up_level down_level.
    let up = g.L.Link.up c.args.link.now in
    let down = g.L.Link.down c.args.link.now in
    let page = loaded_page c.args.form in
    let kinds = map g.P.Panel.kind_of c.args.panels.items in
    let w = loaded_world kinds page in
    let play = drill-plays (g.L.Link.honest c.args.link.now) up down kinds page c.args.drill c.in_ok-ends.ends honest c.requires.can
    c.in_ok-ends.ensures.texts up_level down_level c.requires.kinds c.requires.few c.in_ok-ends.ensures.starts in
    let ran = (c.in-Ok.ensures {u = c.in-Ok.field-0}).runs up down 0 w play in
    let tells = c.tell_numbers.ensures.runs up down (after_lines c.args.drill w) ran.1 in
    tells.0

pub returns-in-Ok-clause-took : goal.returns-in-Ok-clause-took
returns-in-Ok-clause-took g c = λ honest up_level down_level.
    let up = g.L.Link.up c.args.link.now in
    let down = g.L.Link.down c.args.link.now in
    let page = loaded_page c.args.form in
    let kinds = map g.P.Panel.kind_of c.args.panels.items in
    let w = loaded_world kinds page in
    let play = drill-plays (g.L.Link.honest c.args.link.now) up down kinds page c.args.drill c.in_ok-ends.ends honest c.requires.can
    c.in_ok-ends.ensures.texts up_level down_level c.requires.kinds c.requires.few c.in_ok-ends.ensures.starts in
    let ran = (c.in-Ok.ensures {u = c.in-Ok.field-0}).runs up down 0 w play in
    let tells = c.tell_numbers.ensures.runs up down (after_lines c.args.drill w) ran.1 in
    tells.1

pub returns-clause-refused : goal.returns-clause-refused
returns-clause-refused g c =
    let up = g.L.Link.up c.args.link.now in
    let down = g.L.Link.down c.args.link.now in
    let page = loaded_page c.args.form in
    let kinds = map g.P.Panel.kind_of c.args.panels.items in
    let start = drill-follows up down kinds page c.args.drill c.in_ok-ends.ends (g.met.L.Link.within_up c.args.link.now)
    (g.met.L.Link.within_down c.args.link.now) c.requires.can c.in_ok-ends.ensures.texts c.requires.few c.in_ok-ends.ensures.starts in
    let ran = ((c.in-Err.ensures {u = tt}).follows (drill_start kinds page) up down start) in
    ran.1

pub returns-clause-well : goal.returns-clause-well
returns-clause-well g c = λ honest up_level down_level.
    let up = g.L.Link.up c.args.link.now in
    let down = g.L.Link.down c.args.link.now in
    let page = loaded_page c.args.form in
    let kinds = map g.P.Panel.kind_of c.args.panels.items in
    let w = loaded_world kinds page in
    let play = drill-plays (g.L.Link.honest c.args.link.now) up down kinds page c.args.drill c.in_ok-ends.ends honest c.requires.can
    c.in_ok-ends.ensures.texts up_level down_level c.requires.kinds c.requires.few c.in_ok-ends.ensures.starts in
    let ran = (c.in-Err.ensures {u = tt}).runs up down 0 w play in
    ran.0

pub returns-clause-took : goal.returns-clause-took
returns-clause-took g c = λ honest up_level down_level.
    prints-none c.in-Err.stop _ _

pub returns-clause-cause : goal.returns-clause-cause
returns-clause-cause g c = link-cause (Err c.in-Err.stop) _ _ _ c.in-Err.ensures.cause

pub returns-clause-nothing : goal.returns-clause-nothing
returns-clause-nothing g c = writes-none c.in-Err.stop _

pub returns-in_err-ends-clause-took : goal.returns-in_err-ends-clause-took
returns-in_err-ends-clause-took g c = λ honest up_level down_level.
    let text = tallied c.args.drill (loaded_world (map g.P.Panel.kind_of c.args.panels.items) (loaded_page c.args.form)) in
    subst (λ (r : Result (Unit {0}) Stop). Prints r (g.K.Sink.taken c.args.out.now) (g.K.Sink.taken c.args.out.now) text)
    (sym (memory-is c.from_residual.result c.from_residual.ensures.1)) (prints-none Memory (g.K.Sink.taken c.args.out.now) text)

pub returns-in-Ok-clause-cause : goal.returns-in-Ok-clause-cause
returns-in-Ok-clause-cause g c =
    drill-cause c.tell_numbers.result (g.K.Sink.faults c.args.out.now) (g.K.Sink.faults c.tell_numbers.new.out)
    (g.L.Link.faults c.args.link.now) (g.L.Link.faults c.run_turns.new.link) (g.L.Link.faults c.tell_numbers.new.link)
    (c.in-Ok.ensures {u = c.in-Ok.field-0}).cause.others.2 c.tell_numbers.ensures.cause
