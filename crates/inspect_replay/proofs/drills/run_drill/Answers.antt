-- The page and the lines are those of the drill.
use Rattle.std.proofs.Common.{◌≤◌, length, map, sym, subst, Result}
use Rattle.page_forms.specs.Pages.{loaded_page}
use Rattle.drill_script.specs.DrillLines.{drill_lines}
use Rattle.drill_script.specs.LineKinds.{AreDrillLines, most_lines}
use Rattle.drill_script.proofs.LineKindLaws.{drill-kinds, drill-few}
use Rattle.inspect_world.specs.Scripts.{loaded_world}
use Rattle.replay_parts.specs.declared.stop.Stop.{Stop}
use Rattle.replay_parts.specs.declared.stop.Stop.TheVariants.{Memory}
use Rattle.replay_parts.specs.Answers.{Prints}
use Rattle.inspect_replay.specs.Tallies.{tallied, drill_text}
use Rattle.inspect_replay.proofs.DrillEnds.{prints-none}
use Rattle.replay_parts.proofs.StopLemmas.{memory-is}
use Rattle.inspect_replay.proofs.drills.run_drill.Goals as goal

pub run_page-requires-clause-kinds : goal.run_page-requires-clause-kinds
run_page-requires-clause-kinds g c = subst AreDrillLines (sym c.in_ok-form.ensures.lines) (drill-kinds c.args.divs c.requires)

pub run_page-requires-clause-few : goal.run_page-requires-clause-few
run_page-requires-clause-few g c =
    subst (λ lines. length lines ≤ most_lines) (sym c.in_ok-form.ensures.lines) (drill-few c.args.divs)

pub returns-in_err-form-clause-took : goal.returns-in_err-form-clause-took
returns-in_err-form-clause-took g c = λ honest up_level down_level.
    let text = drill_text (map g.P.Panel.kind_of c.args.panels.items) c.args.divs in
    subst (λ (r : Result (Unit {0}) Stop). Prints r (g.K.Sink.taken c.args.out.now) (g.K.Sink.taken c.args.out.now) text)
    (sym (memory-is c.from_residual.result c.from_residual.ensures.1)) (prints-none Memory (g.K.Sink.taken c.args.out.now) text)

pub returns-clause-took : goal.returns-clause-took
returns-clause-took g c = λ honest up_level down_level.
    let kinds = map g.P.Panel.kind_of c.args.panels.items in
    subst (λ page. Prints c.run_page.result (g.K.Sink.taken c.args.out.now) (g.K.Sink.taken c.run_page.new.out)
    (tallied (drill_lines c.args.divs) (loaded_world kinds page))) c.in_ok-form.ensures.page
    (subst (λ lines. Prints c.run_page.result (g.K.Sink.taken c.args.out.now) (g.K.Sink.taken c.run_page.new.out)
    (tallied lines (loaded_world kinds (loaded_page c.in_ok-form.form)))) c.in_ok-form.ensures.lines
    (c.run_page.ensures.took honest up_level down_level))
