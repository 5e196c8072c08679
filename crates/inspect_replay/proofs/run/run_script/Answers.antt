-- A whole script is carried out.
use Rattle.std.proofs.Common.{◌≡◌, refl, sym, subst, ◌∙◌, ◌∷◌, ◌^◌, map, Some}
use Rattle.page_forms.specs.Pages.{loaded_page}
use Rattle.replay_script.specs.Forms.{load, line_form}
use Rattle.replay_script.specs.Lines.{lines_of}
use Rattle.inspect_world.specs.Links.{came_styles}
use Rattle.replay_parts.specs.Answers.{RunTells, RunTook}
use Rattle.inspect_replay.proofs.RunLemmas.{script-loads, report-loads, refused-loads, script-refused}
use Rattle.inspect_replay.proofs.LinesRun.{unread-tells, unread-stops, no-lines-tell, no-lines-stop}
use Rattle.inspect_replay.specs.Followed.{fold_since}
use Rattle.inspect_replay.proofs.FollowLemmas.{start-good, read-folds}
use Rattle.replay_parts.proofs.InputLemmas.{few-lines, few-bytes}
use Rattle.inspect_replay.proofs.run.run_script.Goals as goal

pub run_loaded-requires-clause-can : goal.run_loaded-requires-clause-can
run_loaded-requires-clause-can g c =
    let lines : lines_of c.args.input.now
    ≡ c.in-Some.first.now ∷ c.next_line.new.lines = sym c.new-lines.ensures ∙ c.in-Some.ensures.some in
    let read = c.in-Ok.ensures {u = tt} in
    (script-loads c.args.input.now c.in-Some.first.now c.next_line.new.lines (loaded_page c.in-Ok.form) lines read.good
    read.form).can

pub run_loaded-requires-clause-few : goal.run_loaded-requires-clause-few
run_loaded-requires-clause-few g c =
    few-lines c.args.input.now c.in-Some.first.now c.next_line.new.lines (2 ^ 26)
    (sym c.new-lines.ensures ∙ c.in-Some.ensures.some) c.requires.few

pub run_loaded-requires-clause-short : goal.run_loaded-requires-clause-short
run_loaded-requires-clause-short g c =
    few-bytes c.args.input.now c.in-Some.first.now c.next_line.new.lines (2 ^ 26)
    (sym c.new-lines.ensures ∙ c.in-Some.ensures.some) c.requires.few

pub returns-in-Ok-clause-took : goal.returns-in-Ok-clause-took
returns-in-Ok-clause-took g c = λ honest up_level down_level.
    let lines : lines_of c.args.input.now
    ≡ c.in-Some.first.now ∷ c.next_line.new.lines = sym c.new-lines.ensures ∙ c.in-Some.ensures.some in
    let read = c.in-Ok.ensures {u = tt} in
    let nodes = loaded_page c.in-Ok.form in
    let form : line_form c.in-Some.first.now ≡ Some (load nodes) = read.form in
    subst (λ text. RunTook c.run_loaded.result (g.K.Sink.taken c.args.out.now) (g.K.Sink.taken c.run_loaded.new.out) text)
    (sym (report-loads (map g.P.Panel.kind_of c.args.panels.items) c.args.input.now c.in-Some.first.now c.next_line.new.lines nodes lines
    read.good form))
    (c.run_loaded.ensures.took honest up_level down_level)

pub returns-in_default-clause-refused : goal.returns-in_default-clause-refused
returns-in_default-clause-refused g c = start-good (g.L.Link.up c.args.link.now) (g.L.Link.down c.args.link.now)

pub returns-in-Err-clause-refused : goal.returns-in-Err-clause-refused
returns-in-Err-clause-refused g c = read-folds c.in-Err.stop 1 _
    (fold_since (g.L.Link.up c.args.link.now) (g.L.Link.down c.args.link.now) (g.L.Link.up c.args.link.now)
    (g.L.Link.down c.args.link.now)) c.in-Err.ensures.bad (start-good (g.L.Link.up c.args.link.now) (g.L.Link.down c.args.link.now))

pub returns-in-Ok-clause-tells : goal.returns-in-Ok-clause-tells
returns-in-Ok-clause-tells g c =
    let lines : lines_of c.args.input.now
    ≡ c.in-Some.first.now ∷ c.next_line.new.lines = sym c.new-lines.ensures ∙ c.in-Some.ensures.some in
    let read = c.in-Ok.ensures {u = tt} in
    let there = came_styles (fold_since (g.L.Link.up c.args.link.now) (g.L.Link.down c.args.link.now) (g.L.Link.up c.run_loaded.new.link)
    (g.L.Link.down c.run_loaded.new.link)).fold in
    subst (λ bad. RunTells c.run_loaded.result bad)
    (sym (script-refused there (map g.P.Panel.kind_of c.args.panels.items) c.args.input.now c.in-Some.first.now c.next_line.new.lines
    (loaded_page c.in-Ok.form) lines read.good read.form))
    c.run_loaded.ensures.tells

pub returns-in-Ok-clause-stops : goal.returns-in-Ok-clause-stops
returns-in-Ok-clause-stops g c = λ honest up_level down_level.
    let lines : lines_of c.args.input.now
    ≡ c.in-Some.first.now ∷ c.next_line.new.lines = sym c.new-lines.ensures ∙ c.in-Some.ensures.some in
    let read = c.in-Ok.ensures {u = tt} in
    subst (λ bad. RunTells c.run_loaded.result bad)
    (sym (refused-loads (map g.P.Panel.kind_of c.args.panels.items) c.args.input.now c.in-Some.first.now c.next_line.new.lines
    (loaded_page c.in-Ok.form) lines read.good read.form))
    (c.run_loaded.ensures.stops honest up_level down_level)

pub returns-in-Err-clause-tells : goal.returns-in-Err-clause-tells
returns-in-Err-clause-tells g c =
    unread-tells c.in-Err.stop _ _ c.args.input.now c.in-Some.first.now c.next_line.new.lines
    (sym c.new-lines.ensures ∙ c.in-Some.ensures.some) c.in-Err.ensures.bad

pub returns-in-Err-clause-stops : goal.returns-in-Err-clause-stops
returns-in-Err-clause-stops g c = λ honest up_level down_level.
    unread-stops c.in-Err.stop _ c.args.input.now c.in-Some.first.now c.next_line.new.lines
    (sym c.new-lines.ensures ∙ c.in-Some.ensures.some) c.in-Err.ensures.bad

pub returns-in_default-clause-tells : goal.returns-in_default-clause-tells
returns-in_default-clause-tells g c = no-lines-tell _ _ c.args.input.now
    (sym c.new-lines.ensures ∙ (c.in_default.ensures {u = tt}).none refl)

pub returns-in_default-clause-stops : goal.returns-in_default-clause-stops
returns-in_default-clause-stops g c = λ honest up_level down_level. no-lines-stop _ c.args.input.now
    (sym c.new-lines.ensures ∙ (c.in_default.ensures {u = tt}).none refl)
